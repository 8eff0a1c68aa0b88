-- What stands in a run of zero bytes.
-- Assumes nothing.
use Prim.Native.Nat.{ℕ, zero, suc}
use mathlib.Core.Path.{◌≡◌, refl}
use lib.ListN.{get_or}
use Rattle.wire.specs.Zeros.{zeros}

-- zero wherever one looks
pub zeros-at : (n m : ℕ) → ◌≡◌ {A = ℕ} (get_or (zeros n) m 0) 0
zeros-at zero m = refl
zeros-at (suc n) zero = refl
zeros-at (suc n) (suc m) = zeros-at n m
