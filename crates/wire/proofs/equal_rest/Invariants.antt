-- The bytes from i to n are equal in both, so those before them decide.
-- Assumes nothing.
use mathlib.Core.Path.{◌≡◌}
use Prim.Native.Nat.{◌≤◌}
use lib.ListN.{take}
use Rattle.wire.specs.Same.{same}
use Rattle.wire.proofs.equal_rest.Given as goal

abbrev pub invariant-loop-i : goal.invariant-loop-i
invariant-loop-i l = (l.i ≤ l.n) × (same (take l.i l.a) (take l.i l.b) ≡ same (take l.n l.a) (take l.n l.b))

abbrev pub decreases-loop-i : goal.decreases-loop-i
decreases-loop-i l = l.i
