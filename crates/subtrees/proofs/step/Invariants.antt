-- Every member before e is passed, alone or in the block of one that was tested, its bits are counted in, and the parents of those tested are set; a test that
-- fails, or n, is the end.
-- Assumes nothing.
use Rattle.subtrees.proofs.Walk.{Walk}
use Rattle.subtrees.specs.Subtrees.{positions}
use lib.ListN.{length}
use mathlib.Core.Path.{◌≡◌}
use Prim.Native.Nat.{◌+◌, ◌-◌, ◌≤◌}
use Rattle.subtrees.proofs.step.Given as goal

abbrev pub invariant-loop-e : goal.invariant-loop-e
invariant-loop-e l = (l.i + 1 ≤ l.e) × (l.e ≤ l.n) × (l.tests + 1 ≤ l.e) × (length l.parents ≡ 1024) × Walk (positions l.places l.n) l.own l.i l.e l.bits l.tests l.parents

abbrev pub decreases-loop-e : goal.decreases-loop-e
decreases-loop-e l = l.n - l.e
