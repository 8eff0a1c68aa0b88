-- A parent is the nearest earlier invocation whose block holds the child, and its block the smallest that does, because blocks are nested or apart.
-- Assumes nothing.
use mathlib.Core.Path.{◌≡◌, refl, sym, ap, ◌∙◌}
use mathlib.Core.Bool.{Bool, true, false, ◌&&◌}
use mathlib.Core.List.{List, [], ◌∷◌}
use mathlib.Core.Logic.{◌⊎◌, inl, inr}
use Prim.Native.Nat.{ℕ, zero, suc, ◌+◌, ◌-◌, ◌≤◌, ◌<◌}
use native.Mathlib.Nat.{zero-add, eq-or-lt_of_le}
use native.Mathlib.Omega.{arith}
use borrow.Author.Tests.{lt-ltb, le-ltb, ltb-true, ltb-false}
use lib.Dec.{ltb}
use Rattle.wire.proofs.Below.{and_left, and_right}
use Rattle.subtrees.specs.Blocks.{end_at, in_block}
use Rattle.subtrees.specs.Parents.{list_below, parent_at, holders_at, line_at}
use Rattle.std.proofs.lemmas.Bool.{cases_lt}
use Rattle.subtrees.proofs.Blocks.{after, past, nested, nested-or-apart}
use Rattle.subtrees.proofs.Lasts.{last-no, last-is, Last, last_none, last_some, last, list-skip, list_same}

module _ (n : ℕ) (holds : ℕ → ℕ → Bool) where
  -- what the test of a block says
  pub in-yes : (y x : ℕ) → y < x → x < end_at n holds y → in_block n holds y x ≡ true
  in-yes y x p q = rw (lt-ltb y x p, lt-ltb x (end_at n holds y) q)

  in-no : (y x : ℕ) → end_at n holds y ≤ x → in_block n holds y x ≡ false
  in-no y x p = go (ltb y x)
    where
      go : (b : Bool) → (b && ltb x (end_at n holds y)) ≡ false
      go true = le-ltb x (end_at n holds y) p
      go false = refl

  pub of-yes : (y x : ℕ) → in_block n holds y x ≡ true → (y < x) × (x < end_at n holds y)
  of-yes y x e = (ltb-true y x (and_left (ltb y x) (ltb x (end_at n holds y)) e), ltb-true x (end_at n holds y) (and_right (ltb y x) (ltb x (end_at n holds y)) e))

  of-no : (y x : ℕ) → y < x → in_block n holds y x ≡ false → end_at n holds y ≤ x
  of-no y x p e = ltb-false x (end_at n holds y) (sym (rw (lt-ltb y x p)) ∙ e)

  -- what an answer says of x
  pub data Parent (x : ℕ) : ℕ → Type 0 where
    parentless : ((y : ℕ) → y < x → end_at n holds y ≤ x) → Parent x 0
    parent : (y : ℕ) → y < x → x < end_at n holds y → ((z : ℕ) → y < z → z < x → end_at n holds z ≤ x) → Parent x (suc y)

  pub parent-view : (x : ℕ) → Parent x (parent_at n holds x)
  unfolding parent_at
  parent-view x = go (last (λ y. in_block n holds y x) x)
    where
      go : {r : ℕ} → Last (λ y. in_block n holds y x) x r → Parent x r
      go (last_none g) = parentless (λ y p. of-no y x p (g y p))
      go (last_some y p e g) = parent y p (of-yes y x e).1 (λ z u v. of-no z x v (g z u v))

  -- and only one answer says it
  pub parentless-is : (x : ℕ) → ((y : ℕ) → y < x → end_at n holds y ≤ x) → parent_at n holds x ≡ 0
  unfolding parent_at
  parentless-is x g = last-no (λ y. in_block n holds y x) x (λ y p. in-no y x (g y p))

  pub parent_is : (x y : ℕ) → y < x → x < end_at n holds y → ((z : ℕ) → y < z → z < x → end_at n holds z ≤ x) → parent_at n holds x ≡ suc y
  unfolding parent_at
  parent_is x y p q g = last-is (λ z. in_block n holds z x) x y p (in-yes y x p q) (λ z u v. in-no z x (g z u v))

  pub parent-said : (x y : ℕ) → parent_at n holds x ≡ suc y → (y < x) × (x < end_at n holds y) × ((z : ℕ) → y < z → z < x → end_at n holds z ≤ x)
  parent-said x y e = go (rw e at (parent-view x))
    where
      go : Parent x (suc y) → (y < x) × (x < end_at n holds y) × ((z : ℕ) → y < z → z < x → end_at n holds z ≤ x)
      go (parent _ p q g) = (p, q, g)

  pub none_said : (x : ℕ) → parent_at n holds x ≡ 0 → (y : ℕ) → y < x → end_at n holds y ≤ x
  none_said x e = go (rw e at (parent-view x))
    where
      go : Parent x 0 → (y : ℕ) → y < x → end_at n holds y ≤ x
      go (parentless g) = g

  -- a parent's number, one higher, is at most the child's
  pub parent-le : (x : ℕ) → parent_at n holds x ≤ x
  parent-le x = go (parent-view x)
    where
      go : {r : ℕ} → Parent x r → r ≤ x
      go (parentless g) = omega arith
      go (parent y p q g) = omega arith

  -- from n on there are no parents, because the blocks end there
  pub parent-past : (x : ℕ) → n ≤ x → parent_at n holds x ≡ 0
  parent-past x l = parentless-is x (λ y p. go y p (cases_lt y n))
    where
      go : (y : ℕ) → y < x → (y < n) ⊎ (n ≤ y) → end_at n holds y ≤ x
      go y p (inl w) = omega (arith, after n holds y w)
      go y p (inr w) = omega (arith, past n holds y (y + 1) (omega arith))

  module _ (trans : (i e x : ℕ) → holds i e ≡ true → holds e x ≡ true → holds i x ≡ true) where
    -- the parent's block is the smallest: any other that holds x holds the parent too, with all of its block
    pub smallest : (x y z : ℕ) → x < n → parent_at n holds x ≡ suc y → z < x → x < end_at n holds z
        → (z ≡ y) ⊎ ((z < y) × (y < end_at n holds z) × (end_at n holds y ≤ end_at n holds z))
    smallest x y z l e p q = go (parent-said x y e) (cases_lt y z)
      where
        outer : (y < x) × (x < end_at n holds y) × ((w : ℕ) → y < w → w < x → end_at n holds w ≤ x) → z < y
            → (end_at n holds z ≤ y) ⊎ ((y < end_at n holds z) × (end_at n holds y ≤ end_at n holds z))
            → (z < y) × (y < end_at n holds z) × (end_at n holds y ≤ end_at n holds z)
        outer s v (inl apart) = absurd (omega (arith, s.0))
        outer s v (inr within) = (v, within.0, within.1)

        go : (y < x) × (x < end_at n holds y) × ((w : ℕ) → y < w → w < x → end_at n holds w ≤ x) → (y < z) ⊎ (z ≤ y)
            → (z ≡ y) ⊎ ((z < y) × (y < end_at n holds z) × (end_at n holds y ≤ end_at n holds z))
        go s (inl u) = absurd (omega (arith, s.2 z u p))
        go s (inr u) = pick (eq-or-lt_of_le u)
          where
            pick : (z ≡ y) ⊎ (z < y) → (z ≡ y) ⊎ ((z < y) × (y < end_at n holds z) × (end_at n holds y ≤ end_at n holds z))
            pick (inl v) = inl v
            pick (inr v) = inr (outer s v (nested-or-apart n holds trans z y v (omega (arith, s.0))))

    -- a block before the parent holds the child exactly if it holds the parent
    beyond : (x y z : ℕ) → x < n → y < x → x < end_at n holds y → z < y → in_block n holds z x ≡ in_block n holds z y
    beyond x y z l p q r = go (cases_lt y (end_at n holds z))
      where
        go : (y < end_at n holds z) ⊎ (end_at n holds z ≤ y) → in_block n holds z x ≡ in_block n holds z y
        go (inl u) = in-yes z x (omega arith) (omega (arith, nested n holds trans z y (omega arith) r u)) ∙ sym (in-yes z y r u)
        go (inr u) = in-no z x (omega arith) ∙ sym (in-no z y u)

    -- going from parent to parent meets exactly the invocations whose blocks hold x, nearest first
    pub line : (m x : ℕ) → x ≤ m → x < n → line_at n holds m x ≡ holders_at n holds x
    unfolding line_at holders_at list_below
    line zero x p l =
        let e : x ≡ 0 = omega arith in
        rw e
    line (suc m) x p l = go (parent-view x) (λ y. line m y)
      where
        go : {r : ℕ} → Parent x r → ((y : ℕ) → y ≤ m → y < n → line_at n holds m y ≡ holders_at n holds y)
            → elim r [ zero ↦ [] | suc y ↦ y ∷ line_at n holds m y ] ≡ holders_at n holds x
        go (parentless g) h =
            sym (ap (list_below (λ y. in_block n holds y x)) (sym (zero-add x)) ∙ list-skip (λ y. in_block n holds y x) x 0 (λ y u v. in-no y x (g y (omega arith))))
        go (parent y q r g) h =
            let s : x ≡ suc y + (x - suc y) = omega arith in
            let f = list-skip (λ z. in_block n holds z x) (x - suc y) (suc y) (λ z u v. in-no z x (g z u (omega arith))) in
            let k = list_same (λ z. in_block n holds z x) (λ z. in_block n holds z y) y (λ z u. beyond x y z l q r u) in
            sym (ap (list_below (λ z. in_block n holds z x)) s ∙ f ∙ rw (in-yes y x q r) (ap (λ (t : List ℕ). y ∷ t) (k ∙ sym (h y (omega arith) (omega arith)))))
