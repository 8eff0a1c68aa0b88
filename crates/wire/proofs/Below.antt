-- A test at each number below n, computed once, is carried to each of them.
-- Assumes nothing.
use mathlib.Core.Path.{◌≡◌, refl}
use mathlib.Core.Bool.{Bool, true, false, ◌&&◌}
use mathlib.Core.Logic.{⊎_elim}
use Prim.Native.Nat.{ℕ, zero, suc, ◌<◌}
use native.Mathlib.Nat.{eq-or-lt_of_le, le_of_suc-le-suc, not-suc-le-zero}
use Rattle.wire.specs.Below.{all_below}

pub and_left : (a b : Bool) → (a && b) ≡ true → a ≡ true
and_left true b e = refl
and_left false b e = e

pub and_right : (a b : Bool) → (a && b) ≡ true → b ≡ true
and_right true b e = e
and_right false true e = refl
and_right false false e = e

pub below_at : (f : ℕ → Bool) (n : ℕ) → all_below f n ≡ true → (k : ℕ) → k < n → f k ≡ true
below_at f zero e k h = absurd (not-suc-le-zero h)
below_at f (suc n) e k h =
    ⊎_elim (λ p. rw p (and_left (f n) (all_below f n) e)) (λ l. below_at f n (and_right (f n) (all_below f n) e) k l)
    (eq-or-lt_of_le (le_of_suc-le-suc h))
