-- All tests together are at most 2n - 2: each invocation is passed once as a member, and each but the last may meet one that it does not hold.
-- Assumes nothing.
use mathlib.Core.Path.{◌≡◌, refl, sym, ap, ◌∙◌}
use mathlib.Core.Bool.{Bool, true, false, cond}
use mathlib.Core.Logic.{⊎_elim}
use Prim.Native.Nat.{ℕ, zero, suc, ◌+◌, ◌-◌, ◌*◌, ◌≤◌, ◌<◌}
use native.Mathlib.Nat.{zero-add, sub-zero, eq-or-lt_of_le}
use native.Mathlib.Omega.{arith}
use borrow.Author.Tests.{lt-ltb, le-ltb, ltb-true}
use lib.Dec.{ltb}
use Rattle.subtrees.specs.Blocks.{sum_in, end_at, tests_at, all_tests}
use Rattle.subtrees.proofs.Blocks.{after, nested}
use Rattle.subtrees.proofs.Count.{tops, Stands, stands-first, stands-next, tops-jump, tops-end, sum-front}
use Rattle.subtrees.proofs.Numbers.{pick-le}

module _ (n : ℕ) (holds : ℕ → ℕ → Bool) where
  -- the jumps from an invocation to n, at most m
  roots : ℕ → ℕ → ℕ
  roots zero at = 0
  roots (suc m) at = cond (ltb at n) (1 + roots m (end_at n holds at)) 0

  -- none from n on
  roots-past : (m at : ℕ) → n ≤ at → roots m at ≡ 0
  unfolding roots
  roots-past zero at l = refl
  roots-past (suc m) at l = rw (le-ltb _ _ l)

  -- the bound does not matter where it is enough
  roots-same : (m k at : ℕ) → n - at ≤ m → n - at ≤ k → roots m at ≡ roots k at
  unfolding roots
  roots-same zero k at p q = sym (roots-past k at (omega arith))
  roots-same (suc m) zero at p q = roots-past (suc m) at (omega arith)
  roots-same (suc m) (suc k) at p q = go (ltb at n) refl (roots-same m k (end_at n holds at))
    where
      go : (b : Bool) → ltb at n ≡ b
          → (n - end_at n holds at ≤ m → n - end_at n holds at ≤ k → roots m (end_at n holds at) ≡ roots k (end_at n holds at))
          → cond (ltb at n) (1 + roots m (end_at n holds at)) 0 ≡ cond (ltb at n) (1 + roots k (end_at n holds at)) 0
      go true e f = let w = after n holds at (ltb-true _ _ e) in rw (f (omega arith) (omega arith))
      go false e f = rw e

  abbrev jumps : ℕ → ℕ
  jumps at = roots n at

  jumps-one : (at : ℕ) → at < n → jumps at ≡ 1 + jumps (end_at n holds at)
  unfolding roots
  jumps-one at l = roots-same n (suc n) at (omega arith) (omega arith) ∙ rw (lt-ltb _ _ l)

  sum-end : (j : ℕ) → n ≤ j → sum_in (tests_at n holds) (n - j) j ≡ 0
  unfolding sum_in
  sum-end j l =
      let z : n - j ≡ 0 = omega arith in
      rw z

  module _ (trans : (i e x : ℕ) → holds i e ≡ true → holds e x ≡ true → holds i x ≡ true) where
    -- at the end of the block
    chain-end : (i e : ℕ) → e ≡ end_at n holds i → tops n holds i e + jumps (end_at n holds i) ≡ jumps e
    chain-end i e y = rw (tops-end n holds i e y, zero-add) (ap jumps (sym y))

    -- one jump before
    chain-jump : (i e : ℕ) → i < n → i < e → e < end_at n holds i → Stands n holds i e
        → tops n holds i (end_at n holds e) + jumps (end_at n holds i) ≡ jumps (end_at n holds e)
        → tops n holds i e + jumps (end_at n holds i) ≡ jumps e
    chain-jump i e l p q s c =
        let w = after n holds i l in
        let t = tops-jump n holds i e (omega arith) p q (nested n holds trans i e l p q) s in
        omega (arith, jumps-one e (omega arith))

    -- the members of a block that the walk tests, and the jumps from its end
    chain : (i : ℕ) → i < n → (k e : ℕ) → end_at n holds i - e ≤ k → i < e → e ≤ end_at n holds i → Stands n holds i e
        → tops n holds i e + jumps (end_at n holds i) ≡ jumps e
    chain i l zero e p q r s = chain-end i e (omega arith)
    chain i l (suc k) e p q r s =
        ⊎_elim (λ (y : e ≡ end_at n holds i). chain-end i e y)
        (λ (y : e < end_at n holds i).
        let w = after n holds i l in
        let v = after n holds e (omega arith) in
        chain-jump i e l q y s
        (chain i l k (end_at n holds e) (omega arith) (omega arith) (nested n holds trans i e l q y) (stands-next n holds trans i e q (omega arith) s)))
        (eq-or-lt_of_le r)

    -- what the tests of an invocation add
    one : (i : ℕ) → i < n → tests_at n holds i + jumps i ≡ jumps (i + 1) + 1 + cond (ltb (end_at n holds i) n) 1 0
    unfolding tests_at
    one i l =
        let w = after n holds i l in
        omega (arith, chain i l (end_at n holds i) (i + 1) (omega arith) (omega arith) w.0 (stands-first n holds i), jumps-one i l)

    -- the last one's block ends at n
    last : (i : ℕ) → suc i ≡ n → tests_at n holds i + jumps i ≡ 1
    last i e =
        let w = after n holds i (omega arith) in
        let o = le-ltb (end_at n holds i) n (omega arith) in
        let p = roots-past n (i + 1) (omega arith) in
        one i (omega arith) ∙ rw (o, p)

    -- from invocation i on
    bound-from : (k i : ℕ) → i + suc k ≡ n → sum_in (tests_at n holds) (n - i) i + jumps i + 1 ≤ 2 * suc k
    bound-from zero i e =
        omega (arith, sum-front n holds i (suc i) refl (omega arith), sum-end (suc i) (omega arith), last i (omega arith))
    bound-from (suc k) i e =
        omega (arith, sum-front n holds i (i + 1) (omega arith) (omega arith), bound-from k (i + 1) (omega arith), one i (omega arith), pick-le (ltb (end_at n holds i) n))

    -- all of them
    pub bound : 0 < n → all_tests n holds + 2 ≤ 2 * n
    bound l =
        let b = rw sub-zero at (bound-from (n - 1) 0 (omega arith)) in
        omega (arith, jumps-one 0 l)
