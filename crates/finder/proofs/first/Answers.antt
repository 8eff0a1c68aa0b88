-- The places behind the first n are asked for nothing.
-- Assumes nothing.
use Rattle.finder.proofs.Finding.{all-first}
use Rattle.subtrees.proofs.Arrays.{taken_min}
use native.Mathlib.Omega.{arith}
use Rattle.std.proofs.Math.Nat.{min-le_right}
use Rattle.finder.proofs.first.Goals as goal

pub returns-clause-places : goal.returns-clause-places
returns-clause-places c = rw (← taken_min c.args.n, ← c.min.ensures) (all-first c.args.places.now c.min.result (omega (arith, min-le_right)))
