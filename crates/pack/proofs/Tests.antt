-- A test at each number below n, and what an answer tells that is there only where a test holds.
-- Assumes nothing.
use mathlib.Core.Path.{◌≡◌, refl, ◌∙◌}
use mathlib.Core.Bool.{Bool, true, false, cond, ◌&&◌}
use Prim.Native.Nat.{ℕ, zero, suc, ◌+◌, ◌<◌}
use native.Mathlib.Nat.{add-zero, add-suc, suc-add, zero-add}
use native.Mathlib.Numerals.{add-one}
use native.Mathlib.Omega.{arith}
use Rattle.std.specs.Prelude.{Some, None}
use Rattle.std.specs.List.{list_all, range_with_len}
use Rattle.wire.specs.Below.{all_below}

-- two tests that say the same of each of them
pub same-below : (f g : ℕ → Bool) (n : ℕ) → ((k : ℕ) → k < n → f k ≡ g k) → all_below f n ≡ all_below g n
same-below f g zero h = refl
same-below f g (suc n) h = rw (h n (omega arith), same-below f g n (λ k l. h k (omega arith)))

-- the first of them in front
front : (f : ℕ → Bool) (n : ℕ) → all_below f (suc n) ≡ (f 0 && all_below (λ k. f (suc k)) n)
front f zero = refl
front f (suc n) = rw (front f n) (swapped (f (suc n)) (f 0) (all_below (λ k. f (suc k)) n))
  where
    swapped : (a b c : Bool) → (a && (b && c)) ≡ (b && (a && c))
    swapped true b c = refl
    swapped false true c = refl
    swapped false false c = refl

counted : (f : ℕ → Bool) (a n : ℕ) → list_all f (range_with_len a n) ≡ all_below (λ k. f (a + k)) n
counted f a zero = refl
counted f a (suc n) = rw (front (λ k. f (a + k)) n, counted f (a + 1) n) (simp (add-zero, add-one, suc-add, add-suc))

-- and as `all` over a range goes through them
pub in-range : (f : ℕ → Bool) (n : ℕ) → list_all f (range_with_len 0 n) ≡ all_below f n
in-range f n = counted f 0 n ∙ simp zero-add

module _ {A : Type 0} where
  -- it is not there
  pub none_if : (b : Bool) (x : A) → None ≡ cond b (Some x) None → b ≡ false
  none_if true x e = cc
  none_if false x e = refl

  -- it is
  pub some_if : (b : Bool) (x y : A) → Some y ≡ cond b (Some x) None → (b ≡ true) × (y ≡ x)
  some_if true x y e = (refl, cc)
  some_if false x y e = (cc, cc)
