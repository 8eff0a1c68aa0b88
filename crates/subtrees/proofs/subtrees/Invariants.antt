-- From invocation i on the arrays hold ends and inside bits, and which of these invocations is a parent of which, and `total` their tests; each step adds one invocation in front.
-- Assumes nothing.
use Rattle.subtrees.proofs.Filling.{Filling}
use Rattle.subtrees.specs.Subtrees.{positions}
use lib.ListN.{length}
use mathlib.Core.Path.{◌≡◌}
use Prim.Native.Nat.{◌-◌, ◌*◌, ◌≤◌}
use Rattle.subtrees.proofs.subtrees.Given as goal

abbrev pub invariant-loop-i : goal.invariant-loop-i
invariant-loop-i l = (length l.ends ≡ 1024)
    × (length l.inside ≡ 1024)
    × (length l.parents ≡ 1024)
    × (l.total ≤ 1024 * (l.count - l.i))
    × Filling (positions l.places l.count) l.own l.ends l.inside l.parents l.total l.i
