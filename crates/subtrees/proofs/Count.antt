-- The members of a block that lie in no other member's block are the invocations that the walk tests: it stands at each of them, and passes its block whole.
-- Assumes nothing.
use mathlib.Core.Path.{◌≡◌, refl}
use mathlib.Core.Bool.{Bool, true, false, ◌&&◌}
use mathlib.Core.Logic.{◌⊎◌, inl, inr}
use Prim.Native.Nat.{ℕ, suc, ◌+◌, ◌-◌, ◌≤◌, ◌<◌}
use native.Mathlib.Nat.{add-zero, eq-or-lt_of_le}
use native.Mathlib.Omega.{arith}
use borrow.Author.Tests.{lt-ltb, le-ltb, ltb-true, ltb-false}
use lib.Dec.{ltb}
use Rattle.subtrees.specs.Blocks.{count_in, sum_in, end_at, block_size, in_block, atop, tests_at}
use Rattle.subtrees.proofs.Ranges.{any-no, any-yes, count_none}
use Rattle.subtrees.proofs.Blocks.{after, nested}

module _ (n : ℕ) (holds : ℕ → ℕ → Bool) where
  -- how many members of the block of i, from e on, lie in no other member's block
  abbrev pub tops : ℕ → ℕ → ℕ
  tops i e = count_in (atop n holds i) (end_at n holds i - e) e

  -- the walk of i stands at e: no earlier member's block reaches past it
  unfoldable pub Stands : ℕ → ℕ → Type 0
  Stands i e = (y : ℕ) → i < y → y < e → end_at n holds y ≤ e

  pub stands-first : (i : ℕ) → Stands i (i + 1)
  unfolding Stands
  stands-first i y p q = absurd (omega arith)

  not_in : (y e : ℕ) → (y < e → end_at n holds y ≤ e) → in_block n holds y e ≡ false
  not_in y e f = go (ltb y e) refl
    where
      go : (b : Bool) → ltb y e ≡ b → (b && ltb e (end_at n holds y)) ≡ false
      go true t = le-ltb e (end_at n holds y) (f (ltb-true y e t))
      go false t = refl

  -- the invocation where the walk stands lies in no other member's block
  top-here : (i e : ℕ) → Stands i e → atop n holds i e ≡ true
  unfolding atop Stands
  top-here i e s =
      rw (any-no (λ y. in_block n holds y e) (block_size n holds i) (i + 1) (λ y p q. not_in y e (s y (omega arith))))

  -- those in its block do
  in-block : (i e x : ℕ) → i < e → e < end_at n holds i → e < x → x < end_at n holds e → atop n holds i x ≡ false
  unfolding atop
  in-block i e x p q r s =
      let here : in_block n holds e x ≡ true = rw (lt-ltb e x r, lt-ltb x (end_at n holds e) s) in
      rw (any-yes (λ y. in_block n holds y x) (block_size n holds i) (i + 1) e (omega arith) (omega arith) here)

  -- one jump is one member
  pub tops-jump : (i e : ℕ) → e < n → i < e → e < end_at n holds i → end_at n holds e ≤ end_at n holds i → Stands i e
      → tops i e ≡ 1 + tops i (end_at n holds e)
  unfolding count_in
  tops-jump i e l p q b s =
      let w = after n holds e l in
      let k = block_size n holds e in
      let r = end_at n holds i - end_at n holds e in
      let cut : end_at n holds i - e ≡ suc (k + r) = omega arith in
      let to : suc e + k ≡ end_at n holds e = omega arith in
      rw (cut, top-here i e s, count_none (atop n holds i) k (suc e) r (λ y u v. in-block i e y p q (omega arith) (omega arith)), to)

  pub tops-end : (i e : ℕ) → e ≡ end_at n holds i → tops i e ≡ 0
  unfolding count_in
  tops-end i e p =
      let z : end_at n holds i - e ≡ 0 = omega arith in
      rw z

  -- the walk ends at one that is not held: one test more
  pub tests-stop : (i e t : ℕ) → e ≡ end_at n holds i → e < n → t + tops i e ≡ tops i (i + 1) → t + 1 ≡ tests_at n holds i
  unfolding tests_at
  tests-stop i e t p l q =
      let z = tops-end i e p in
      let r : t ≡ tops i (i + 1) = omega arith in
      rw (← r, ← p, lt-ltb e n l)

  -- the walk reaches n
  pub tests-out : (i e t : ℕ) → e ≡ end_at n holds i → n ≤ e → t + tops i e ≡ tops i (i + 1) → t ≡ tests_at n holds i
  unfolding tests_at
  tests-out i e t p l q =
      let z = tops-end i e p in
      let r : t ≡ tops i (i + 1) = omega arith in
      rw (← r, ← p, le-ltb e n l, add-zero)

  -- one invocation more, in front
  pub sum-front : (m i : ℕ) → suc m ≡ i → i ≤ n → sum_in (tests_at n holds) (n - m) m ≡ tests_at n holds m + sum_in (tests_at n holds) (n - i) i
  unfolding sum_in
  sum-front m i e l =
      let s : n - m ≡ suc (n - i) = omega arith in
      rw (s, e)

  module _ (trans : (i e x : ℕ) → holds i e ≡ true → holds e x ≡ true → holds i x ≡ true) where
    -- after a jump the walk stands again
    pub stands-next : (i e : ℕ) → i < e → e < n → Stands i e → Stands i (end_at n holds e)
    unfolding Stands
    stands-next i e ie l s y p q = go (ltb y e) refl
      where
        w : (e + 1 ≤ end_at n holds e) × (end_at n holds e ≤ n)
        w = after n holds e l

        later : (e ≡ y) ⊎ (e < y) → end_at n holds y ≤ end_at n holds e
        later (inl z) = rw (← z) (omega arith)
        later (inr z) = nested n holds trans e y l z q

        go : (b : Bool) → ltb y e ≡ b → end_at n holds y ≤ end_at n holds e
        go true t = omega (arith, w, s y p (ltb-true y e t))
        go false t = later (eq-or-lt_of_le (ltb-false y e t))
