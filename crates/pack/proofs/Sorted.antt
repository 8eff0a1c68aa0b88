-- The original's walk over sorted groups gives the same invocations as a scan for each outer index: sorting keeps the order among groups of one index, and
-- in sorted groups the cursor passes all that an outer instruction holds, and nothing that a later one does.
-- Assumes nothing.
use mathlib.Core.Path.{◌≡◌, refl, sym, ◌∙◌}
use mathlib.Core.Bool.{Bool, true, false, cond}
use mathlib.Core.List.{List, [], ◌∷◌, ◌++◌, map}
use Prim.Native.Nat.{ℕ, suc, ◌≤◌, ◌<◌}
use native.Mathlib.Nat.{le_trans}
use native.Mathlib.Omega.{arith}
use borrow.Author.Tests.{leb-true, leb-false, eqb-true, ne_eqb}
use lib.Dec.{leb, eqb}
use Rattle.pack.specs.Group.{Group}
use Rattle.pack.specs.View.{View}
use Rattle.pack.specs.Flatten.{numbered, inside, flatten_from, invocation, flatten}
use Rattle.pack.specs.Sorted.{in_order, insert_group, sorted, group_order, taken_at, left_after, walk_from}
use Rattle.wire.proofs.Below.{and_left, and_right}

module _ {A : Type 0} where
  -- every index is at least k
  abbrev From : ℕ → List (Group A) → Type 0
  From k [] = Unit {0}
  From k (g ∷ gs) = (k ≤ g.index) × From k gs

  -- no index falls
  abbrev IndexRising : List (Group A) → Type 0
  IndexRising [] = Unit {0}
  IndexRising (g ∷ gs) = From g.index gs × IndexRising gs

  from_le : (j k : ℕ) → j ≤ k → (gs : List (Group A)) → From k gs → From j gs
  from_le j k h [] f = tt
  from_le j k h (g ∷ gs) f = (le_trans h f.0, from_le j k h gs f.1)

  insert-from : (k : ℕ) (g : Group A) → k ≤ g.index → (gs : List (Group A)) → From k gs → From k (insert_group g gs)
  unfolding insert_group
  insert-from k g h [] f = (h, tt)
  insert-from k g h (x ∷ gs) f = go (leb g.index x.index) (insert-from k g h gs f.1)
    where
      go : (t : Bool) → From k (insert_group g gs) → From k (cond t (g ∷ x ∷ gs) (x ∷ insert_group g gs))
      go true r = (h, f)
      go false r = (f.0, r)

  insert-rising : (g : Group A) (gs : List (Group A)) → IndexRising gs → IndexRising (insert_group g gs)
  unfolding insert_group
  insert-rising g [] r = (tt, tt)
  insert-rising g (x ∷ gs) r = go (leb g.index x.index) refl (insert-rising g gs r.1)
    where
      go : (t : Bool) → leb g.index x.index ≡ t → IndexRising (insert_group g gs) → IndexRising (cond t (g ∷ x ∷ gs) (x ∷ insert_group g gs))
      go true e q =
          let l = leb-true g.index x.index e in
          ((l, from_le g.index x.index l gs r.0), r)
      go false e q =
          let l = leb-false g.index x.index e in
          (insert-from x.index g (omega arith) gs r.0, q)

  sorted-rising : (gs : List (Group A)) → IndexRising (sorted gs)
  unfolding sorted
  sorted-rising [] = tt
  sorted-rising (g ∷ gs) = insert-rising g (sorted gs) (sorted-rising gs)

  in_order-rising : (gs : List (Group A)) → in_order gs ≡ true → IndexRising gs
  unfolding in_order
  in_order-rising [] e = tt
  in_order-rising (g ∷ []) e = (tt, tt)
  in_order-rising (g ∷ h ∷ gs) e =
      let r = in_order-rising (h ∷ gs) (and_right (leb g.index h.index) (in_order (h ∷ gs)) e) in
      let l = leb-true g.index h.index (and_left (leb g.index h.index) (in_order (h ∷ gs)) e) in
      ((l, from_le g.index h.index l gs r.0), r)

  -- sorting is stable
  insert-inside : (i : ℕ) (g : Group A) (gs : List (Group A)) → inside i (insert_group g gs) ≡ inside i (g ∷ gs)
  unfolding insert_group inside
  insert-inside i g [] = refl
  insert-inside i g (x ∷ gs) = go (leb g.index x.index) refl (insert-inside i g gs)
    where
      go : (t : Bool) → leb g.index x.index ≡ t → inside i (insert_group g gs) ≡ inside i (g ∷ gs) → inside i (cond t (g ∷ x ∷ gs) (x ∷ insert_group g gs)) ≡ inside i (g ∷ x ∷ gs)
      go true e h = refl
      go false e h = rw h (apart (eqb x.index i) refl (eqb g.index i) refl)
        where
          apart : (a : Bool) → eqb x.index i ≡ a → (b : Bool) → eqb g.index i ≡ b
              → cond a (numbered i 0 x.items ++ cond b (numbered i 0 g.items ++ inside i gs) (inside i gs)) (cond b (numbered i 0 g.items ++ inside i gs) (inside i gs))
              ≡ cond b (numbered i 0 g.items ++ cond a (numbered i 0 x.items ++ inside i gs) (inside i gs)) (cond a (numbered i 0 x.items ++ inside i gs) (inside i gs))
          apart true p true q =
              let l = leb-false g.index x.index e in
              let u = eqb-true x.index i p in
              let v = eqb-true g.index i q in
              absurd (omega arith)
          apart true p false q = refl
          apart false p true q = refl
          apart false p false q = refl

  sorted-inside : (i : ℕ) (gs : List (Group A)) → inside i (sorted gs) ≡ inside i gs
  unfolding sorted inside
  sorted-inside i [] = refl
  sorted-inside i (g ∷ gs) = insert-inside i g (sorted gs) ∙ rw (sorted-inside i gs)

  -- past the groups of one index there is none of it
  none_inside : (i k : ℕ) → i < k → (gs : List (Group A)) → From k gs → inside i gs ≡ []
  unfolding inside
  none_inside i k h [] f = refl
  none_inside i k h (g ∷ gs) f = rw (ne_eqb g.index i (let l = f.0 in omega arith)) (none_inside i k h gs f.1)

  taken-inside : (i : ℕ) (gs : List (Group A)) → IndexRising gs → taken_at i gs ≡ inside i gs
  unfolding taken_at inside
  taken-inside i [] r = refl
  taken-inside i (g ∷ gs) r = go (leb g.index i) refl (taken-inside i gs r.1)
    where
      go : (t : Bool) → leb g.index i ≡ t → taken_at i gs ≡ inside i gs
          → cond t (cond (eqb g.index i) (numbered i 0 g.items ++ taken_at i gs) (taken_at i gs)) [] ≡ cond (eqb g.index i) (numbered i 0 g.items ++ inside i gs) (inside i gs)
      go true e h = rw h
      go false e h =
          let l = leb-false g.index i e in
          rw (ne_eqb g.index i (omega arith)) (sym (none_inside i g.index l gs r.0))

  passed-inside : (i j : ℕ) → i < j → (gs : List (Group A)) → inside j (left_after i gs) ≡ inside j gs
  unfolding left_after inside
  passed-inside i j h [] = refl
  passed-inside i j h (g ∷ gs) = go (leb g.index i) refl (passed-inside i j h gs)
    where
      go : (t : Bool) → leb g.index i ≡ t → inside j (left_after i gs) ≡ inside j gs → inside j (cond t (left_after i gs) (g ∷ gs)) ≡ inside j (g ∷ gs)
      go true e q =
          let l = leb-true g.index i e in
          rw (ne_eqb g.index j (omega arith)) q
      go false e q = refl

  passed-rising : (i : ℕ) (gs : List (Group A)) → IndexRising gs → IndexRising (left_after i gs)
  unfolding left_after
  passed-rising i [] r = tt
  passed-rising i (g ∷ gs) r = go (leb g.index i) (passed-rising i gs r.1)
    where
      go : (t : Bool) → IndexRising (left_after i gs) → IndexRising (cond t (left_after i gs) (g ∷ gs))
      go true q = q
      go false q = r

  -- from outer i on, where the cursor has passed only groups of earlier outer instructions
  walk_from-flatten : (i : ℕ) (xs : List A) (gs hs : List (Group A)) → IndexRising hs → ((j : ℕ) → i ≤ j → inside j hs ≡ inside j gs) → walk_from i xs hs ≡ flatten_from i xs gs
  unfolding walk_from flatten_from
  walk_from-flatten i [] gs hs r f = refl
  walk_from-flatten i (x ∷ xs) gs hs r f =
      rw (taken-inside i hs r, f i (omega arith), walk_from-flatten (suc i) xs gs (left_after i hs) (passed-rising i hs r) (λ j h. passed-inside i j h hs ∙ f j (omega arith)))

  -- the original's order gives the same invocations
  pub original : (xs : List A) (gs : List (Group A)) → walk_from 0 xs (group_order gs) ≡ flatten_from 0 xs gs
  unfolding group_order
  original xs gs = go (in_order gs) refl
    where
      go : (t : Bool) → in_order gs ≡ t → walk_from 0 xs (cond t gs (sorted gs)) ≡ flatten_from 0 xs gs
      go true e = walk_from-flatten 0 xs gs gs (in_order-rising gs e) (λ j h. refl)
      go false e = walk_from-flatten 0 xs gs (sorted gs) (sorted-rising gs) (λ j h. sorted-inside j gs)

-- of a whole pack
pub original-flatten : (v : View) → map invocation (walk_from 0 v.outer (group_order v.groups)) ≡ flatten v
unfolding flatten
original-flatten v = rw (original v.outer v.groups)
