-- Laws of `any_in` and `count_in`, by going through the numbers of the range.
-- Assumes nothing.
use mathlib.Core.Path.{◌≡◌, refl, sym}
use mathlib.Core.Bool.{Bool, true, false, ◌||◌, or-true, or_assoc}
use mathlib.Core.Logic.{◌⊎◌, inl, inr}
use Prim.Native.Nat.{ℕ, zero, suc, ◌+◌, ◌≤◌, ◌<◌}
use native.Mathlib.Nat.{add-zero, zero-add, add-suc, suc-add, eq-or-lt_of_le}
use native.Mathlib.Omega.{arith}
use Rattle.subtrees.specs.Blocks.{any_in, count_in}

module _ (f : ℕ → Bool) where
  pub any-no : (m a : ℕ) → ((y : ℕ) → a ≤ y → y < a + m → f y ≡ false) → any_in f m a ≡ false
  unfolding any_in
  any-no zero a g = refl
  any-no (suc m) a g = rw (g a (omega arith) (omega arith), any-no m (suc a) (λ y p q. g y (omega arith) (omega arith)))

  pub any-yes : (m a y : ℕ) → a ≤ y → y < a + m → f y ≡ true → any_in f m a ≡ true
  unfolding any_in
  any-yes zero a y p q e = absurd (omega arith)
  any-yes (suc m) a y p q e = go (any-yes m (suc a) y) (eq-or-lt_of_le p)
    where
      go : (suc a ≤ y → y < suc a + m → f y ≡ true → any_in f m (suc a) ≡ true) → (a ≡ y) ⊎ (a < y) → (f a || any_in f m (suc a)) ≡ true
      go r (inl s) = rw (s, e)
      go r (inr l) = rw (r l (omega arith) e) (or-true (f a))

  -- a range in two parts
  pub any-parts : (m k a : ℕ) → any_in f (m + k) a ≡ (any_in f m a || any_in f k (a + m))
  unfolding any_in
  any-parts zero k a = rw (zero-add, add-zero)
  any-parts (suc m) k a = rw (suc-add, any-parts m k (suc a), add-suc, suc-add) (sym (or_assoc (f a) (any_in f m (suc a)) (any_in f k (suc (a + m)))))

  pub any_same : (g : ℕ → Bool) (m a : ℕ) → ((y : ℕ) → a ≤ y → y < a + m → f y ≡ g y) → any_in f m a ≡ any_in g m a
  unfolding any_in
  any_same g zero a h = refl
  any_same g (suc m) a h = rw (h a (omega arith) (omega arith), any_same g m (suc a) (λ y p q. h y (omega arith) (omega arith)))

  -- numbers that are not f add nothing
  pub count_none : (k a m : ℕ) → ((y : ℕ) → a ≤ y → y < a + k → f y ≡ false) → count_in f (k + m) a ≡ count_in f m (a + k)
  unfolding count_in
  count_none zero a m g = rw (zero-add, add-zero)
  count_none (suc k) a m g =
      rw (suc-add k m, g a (omega arith) (omega arith), zero-add, count_none k (suc a) m (λ y p q. g y (omega arith) (omega arith)), suc-add a k, ← add-suc a k)
