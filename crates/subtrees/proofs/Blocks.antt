-- Blocks of a transitive relation: a member's block lies within the block, so a walk may pass it whole, and two blocks are nested or apart.
-- Assumes nothing.
use mathlib.Core.Path.{◌≡◌, refl, ◌∙◌}
use mathlib.Core.Bool.{Bool, true, false, cond}
use mathlib.Core.Logic.{◌⊎◌, inl, inr}
use Prim.Native.Nat.{ℕ, zero, suc, ◌+◌, ◌-◌, ◌≤◌, ◌<◌}
use native.Mathlib.Nat.{add-zero, eq-or-lt_of_le}
use native.Mathlib.Numerals.{add-one}
use native.Mathlib.Omega.{arith}
use borrow.Author.Tests.{ltb-true, ltb-false}
use lib.Dec.{ltb}
use Rattle.subtrees.specs.Blocks.{first_not, end_at, end_from}

module _ (f : ℕ → Bool) where
  first-ge : (m at : ℕ) → at ≤ first_not f m at
  unfolding first_not
  first-ge zero at = omega arith
  first-ge (suc m) at = pick (f at) (first-ge m (suc at))
    where
      pick : (b : Bool) → suc at ≤ first_not f m (suc at) → at ≤ cond b (first_not f m (suc at)) at
      pick true l = omega arith
      pick false l = omega arith

  first-le : (m at : ℕ) → first_not f m at ≤ at + m
  unfolding first_not
  first-le zero at = omega arith
  first-le (suc m) at = pick (f at) (first-le m (suc at))
    where
      pick : (b : Bool) → first_not f m (suc at) ≤ suc at + m → cond b (first_not f m (suc at)) at ≤ at + suc m
      pick true l = omega arith
      pick false l = omega arith

  -- every number before it is f
  first-yes : (m at x : ℕ) → at ≤ x → x < first_not f m at → f x ≡ true
  unfolding first_not
  first-yes zero at x l k = absurd (omega arith)
  first-yes (suc m) at x l k = go (f at) refl (first-yes m (suc at) x) (eq-or-lt_of_le l)
    where
      go : (b : Bool) → f at ≡ b → (suc at ≤ x → x < first_not f m (suc at) → f x ≡ true) → (at ≡ x) ⊎ (at < x) → f x ≡ true
      go true e g (inl p) = rw (← p) e
      go true e g (inr q) = g q (rw e at k)
      go false e g w = let k' : x < at = rw e at k in absurd (omega arith)

  -- and it is not, unless all are
  first-no : (m at : ℕ) → first_not f m at < at + m → f (first_not f m at) ≡ false
  unfolding first_not
  first-no zero at l = absurd (omega arith)
  first-no (suc m) at l = go (f at) refl (first-no m (suc at)) l
    where
      go : (b : Bool) → f at ≡ b → (first_not f m (suc at) < suc at + m → f (first_not f m (suc at)) ≡ false)
          → cond b (first_not f m (suc at)) at < at + suc m → f (cond (f at) (first_not f m (suc at)) at) ≡ false
      go true e g w = rw e (g (omega arith))
      go false e g w = rw (e, e)

module _ (n : ℕ) (holds : ℕ → ℕ → Bool) where
  -- an end lies from where it is looked for on, and is at most n
  pub end_ge : (i at : ℕ) → at ≤ end_from n holds i at
  end_ge i at = first-ge (holds i) (n - at) at

  pub end-le : (i at : ℕ) → at ≤ n → end_from n holds i at ≤ n
  end-le i at l = omega (arith, first-le (holds i) (n - at) at)

  -- the end lies after the invocation, and is at most n
  pub after : (i : ℕ) → i < n → (i + 1 ≤ end_at n holds i) × (end_at n holds i ≤ n)
  after i l = (end_ge i (i + 1), end-le i (i + 1) (omega arith))

  -- the block's members are held
  pub member : (i x : ℕ) → i < x → x < end_at n holds i → holds i x ≡ true
  member i x p q = first-yes (holds i) (n - (i + 1)) (i + 1) x (omega arith) q

  -- the end is not, unless it is n
  pub stop : (i : ℕ) → i < n → end_at n holds i < n → holds i (end_at n holds i) ≡ false
  stop i l k = first-no (holds i) (n - (i + 1)) (i + 1) (omega arith)

  -- one step of the search
  pub past : (i at : ℕ) → n ≤ at → at ≡ end_from n holds i at
  unfolding first_not
  past i at l =
      let s : n - at ≡ 0 = omega arith in
      rw s

  pub stops : (i at : ℕ) → at < n → holds i at ≡ false → at ≡ end_from n holds i at
  unfolding first_not
  stops i at l e =
      let s : n - at ≡ suc (n - (at + 1)) = omega arith in
      rw (s, e)

  goes_on : (i at : ℕ) → at < n → holds i at ≡ true → end_from n holds i (at + 1) ≡ end_from n holds i at
  unfolding first_not
  goes_on i at l e =
      let s : n - at ≡ suc (n - (at + 1)) = omega arith in
      rw (s, e, add-one)

  -- invocations that are all held are passed
  pass : (i k a : ℕ) → a + k ≤ n → ((x : ℕ) → a ≤ x → x < a + k → holds i x ≡ true) → end_from n holds i (a + k) ≡ end_from n holds i a
  pass i zero a l f = rw add-zero
  pass i (suc k) a l f =
      let e : a + suc k ≡ a + 1 + k = omega arith in
      rw e (pass i k (a + 1) (omega arith) (λ x p q. f x (omega arith) (omega arith)) ∙ goes_on i a (omega arith) (f a (omega arith) (omega arith)))

  module _ (trans : (i e x : ℕ) → holds i e ≡ true → holds e x ≡ true → holds i x ≡ true) where
    -- a block that is held is passed whole
    pub jump : (i e : ℕ) → e < n → holds i e ≡ true → end_from n holds i (end_at n holds e) ≡ end_from n holds i e
    jump i e l h =
        let w = after e l in
        let s : end_at n holds e ≡ e + (end_at n holds e - e) = omega arith in
        rw s (pass i (end_at n holds e - e) e (omega arith) (λ x p q. held x (eq-or-lt_of_le p) (omega arith)))
      where
        held : (x : ℕ) → (e ≡ x) ⊎ (e < x) → x < end_at n holds e → holds i x ≡ true
        held x (inl p) q = rw (← p) h
        held x (inr p) q = trans i e x h (member e x p q)

    clash : (i j : ℕ) → i < n → i < j → j < end_at n holds i → end_at n holds i < end_at n holds j → ⊥
    clash i j l p q r =
        let w = after i l in
        let v = after j (omega arith) in
        let y = trans i j (end_at n holds i) (member i j p q) (member j (end_at n holds i) q r) in
        let no = stop i l (omega arith) in
        let z : ◌≡◌ {A = ℕ} 0 1 = cc in
        omega arith

    -- a member's block lies within the block
    pub nested : (i j : ℕ) → i < n → i < j → j < end_at n holds i → end_at n holds j ≤ end_at n holds i
    nested i j l p q = go (ltb (end_at n holds i) (end_at n holds j)) refl
      where
        go : (b : Bool) → ltb (end_at n holds i) (end_at n holds j) ≡ b → end_at n holds j ≤ end_at n holds i
        go false t = ltb-false _ _ t
        go true t = absurd (clash i j l p q (ltb-true _ _ t))

    -- of two invocations the later stands after the earlier's block, or its block lies within it
    pub nested-or-apart : (i j : ℕ) → i < j → j < n → (end_at n holds i ≤ j) ⊎ ((j < end_at n holds i) × (end_at n holds j ≤ end_at n holds i))
    nested-or-apart i j p l = go (ltb j (end_at n holds i)) refl
      where
        go : (b : Bool) → ltb j (end_at n holds i) ≡ b → (end_at n holds i ≤ j) ⊎ ((j < end_at n holds i) × (end_at n holds j ≤ end_at n holds i))
        go true t = inr (ltb-true _ _ t, nested i j (omega arith) p (ltb-true _ _ t))
        go false t = inl (ltb-false _ _ t)
