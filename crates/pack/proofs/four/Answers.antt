-- The sum of four bytes, each by its weight.
-- Assumes nothing.
use Rattle.wire.specs.Le.{le}
use native.Mathlib.Nat.{add-zero}
use native.Mathlib.Omega.{arith}
use Rattle.pack.proofs.four.Goals as goal

pub returns : goal.returns
unfolding le
returns c = rw c.from_le_bytes.ensures (simp add-zero (omega arith))
