-- The walk that lists the children of an invocation: what holds where it stands, and what each of its ways on makes of that.
-- Assumes nothing.
use mathlib.Core.Path.{◌≡◌, refl, sym, ap, ◌∙◌}
use mathlib.Core.Bool.{true, false}
use mathlib.Core.List.{List, [], ◌∷◌, ◌++◌, append_assoc}
use mathlib.Core.Logic.{◌≢◌}
use Prim.Native.Nat.{ℕ, suc, ◌+◌, ◌-◌, ◌≤◌, ◌<◌}
use native.Mathlib.Nat.{zero-add}
use native.Mathlib.Numerals.{add-one}
use native.Mathlib.Omega.{arith}
use borrow.Author.Tests.{eq-eqb, ne_eqb}
use lib.ListN.{length, set, length-append}
use Rattle.std.proofs.Math.Seq.{set-append_seam}
use Rattle.wire.specs.Zeros.{zeros}
use Rattle.pack.specs.Invocation.{Position}
use Rattle.subtrees.specs.Blocks.{end_from}
use Rattle.subtrees.specs.Subtrees.{within, end_of, parent_of, filled}
use Rattle.subtrees.proofs.Transitive.{within-trans}
use Rattle.subtrees.proofs.Blocks.{end_ge, after, past, stops, jump}
use Rattle.subtrees.proofs.Count.{Stands, stands-first, stands-next}
use Rattle.subtrees.proofs.Parenting.{child, inner, before, behind}
use Rattle.finder.specs.Children.{rising_below, is_child, children_of}
use Rattle.finder.proofs.Rising.{rising-skip, rising-next, rising-few}

-- the first of the zeros behind a list is stored
filled_more : (a : List ℕ) (e : ℕ) → length a < 1024 → set (filled a) (length a) e ≡ filled (a ++ (e ∷ []))
unfolding filled
filled_more a e l =
    let s : 1024 - length a ≡ suc (1024 - (length a + 1)) = omega arith in
    rw (s, length-append a (e ∷ [])) (set-append_seam a 0 (zeros (1024 - (length a + 1))) e ∙ sym (append_assoc a (e ∷ []) (zeros (1024 - (length a + 1)))))

module _ (ps : List Position) (i : ℕ) where
  abbrev n : ℕ
  n = length ps

  yes : (x : ℕ) → parent_of ps x ≡ i + 1 → is_child ps i x ≡ true
  unfolding is_child
  yes x e = eq-eqb (parent_of ps x) (i + 1) e

  no : (x : ℕ) → parent_of ps x ≢ suc i → is_child ps i x ≡ false
  unfolding is_child
  no x f = ne_eqb (parent_of ps x) (i + 1) (λ e. f (e ∙ add-one i))

  -- at e: the children before e stand in the list
  pub record Listed (list : List ℕ) (count e : ℕ) : Type 0 where
    pub later : i + 1 ≤ e
    pub ahead : end_from (length ps) (within ps) i e ≡ end_of ps i
    pub stands : Stands (length ps) (within ps) i e
    pub listed : list ≡ filled (rising_below (is_child ps i) e)
    pub counted : count ≡ length (rising_below (is_child ps i) e)

  none_before : rising_below (is_child ps i) (i + 1) ≡ []
  unfolding rising_below
  none_before = ap (rising_below (is_child ps i)) (sym (zero-add (i + 1))) ∙ rising-skip (is_child ps i) (i + 1) 0 (λ y p q. no y (before n (within ps) i y (omega arith)))

  pub listed-first : Listed (zeros 1024) 0 (i + 1)
  unfolding filled
  listed-first =
      record {
        later = omega arith;
        ahead = refl;
        stands = stands-first n (within ps) i;
        listed = rw none_before;
        counted = rw none_before;
      }

  -- a child is stored, and its block passed
  pub listed-jump : (list : List ℕ) (count e : ℕ) → e < length ps → length ps ≤ 1024 → within ps i e ≡ true → Listed list count e
      → Listed (set list count e) (count + 1) (end_of ps e)
  listed-jump list count e l few h t =
      let w = after n (within ps) e l in
      let a = jump n (within ps) (within-trans ps) i e l h ∙ t.ahead in
      let p = t.later in
      let q : e < end_of ps i = omega (arith, end_ge n (within ps) i (end_of ps e), a) in
      let k = end_of ps e - suc e in
      let cut : end_of ps e ≡ suc e + k = omega (arith, w.0) in
      let one = yes e (child n (within ps) i e (omega arith) q t.stands) in
      let more : rising_below (is_child ps i) (end_of ps e) ≡ rising_below (is_child ps i) e ++ (e ∷ []) =
      ap (rising_below (is_child ps i)) cut
      ∙ rising-skip (is_child ps i) k (suc e) (λ y u v. no y (inner n (within ps) i e y (omega arith) (omega arith) (omega arith)))
      ∙ rising-next (is_child ps i) e one in
      record {
        later = omega arith;
        ahead = a;
        stands = stands-next n (within ps) (within-trans ps) i e (omega arith) l t.stands;
        listed = rw (t.listed, t.counted, more) (filled_more (rising_below (is_child ps i) e) e (omega (arith, rising-few (is_child ps i) e)));
        counted = rw (t.counted, more) (sym (length-append (rising_below (is_child ps i) e) (e ∷ [])));
      }

  -- behind the block there are none
  all_listed : (e : ℕ) → e ≡ end_of ps i → e ≤ length ps → rising_below (is_child ps i) e ≡ children_of ps i
  unfolding children_of
  all_listed e q l =
      let cut : n ≡ e + (n - e) = omega arith in
      sym (ap (rising_below (is_child ps i)) cut ∙ rising-skip (is_child ps i) (n - e) e (λ y u v. no y (behind n (within ps) i y (omega arith))))

  left : (list : List ℕ) (count e : ℕ) → e ≡ end_of ps i → e ≤ length ps → Listed list count e → (list ≡ filled (children_of ps i)) × (count ≡ length (children_of ps i))
  left list count e q l t = rw (← all_listed e q l) (t.listed, t.counted)

  -- to one that is no descendant
  pub listed-stop : (list : List ℕ) (count e : ℕ) → e < length ps → within ps i e ≡ false → Listed list count e
      → (list ≡ filled (children_of ps i)) × (count ≡ length (children_of ps i))
  listed-stop list count e l h t = left list count e (stops n (within ps) i e l h ∙ t.ahead) (omega arith) t

  -- to the last
  pub listed-out : (list : List ℕ) (count e : ℕ) → e ≡ length ps → Listed list count e → (list ≡ filled (children_of ps i)) × (count ≡ length (children_of ps i))
  listed-out list count e l t = left list count e (past n (within ps) i e (omega arith) ∙ t.ahead) (omega arith) t

  -- where there is no invocation there are no children
  pub listed-nowhere : length ps ≤ i → children_of ps i ≡ []
  unfolding children_of rising_below
  listed-nowhere l = ap (rising_below (is_child ps i)) (sym (zero-add n)) ∙ rising-skip (is_child ps i) n 0 (λ y p q. no y (before n (within ps) i y (omega arith)))
