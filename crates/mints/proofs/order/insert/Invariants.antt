-- Elements move one place to the right, last first, so each is read before it is written over.
use lib.Seq.{sets}
use lib.ListN.{length, take, drop}
use Prim.Native.Nat.{◌+◌, ◌-◌, ◌≤◌}
use mathlib.Core.Path.{◌≡◌}
use Rattle.mints.proofs.order.insert.Given as goal

abbrev pub invariant-loop-i : goal.invariant-loop-i
invariant-loop-i l = (l.j ≤ l.i) × (length l.order ≡ length l.initial.order) × (l.order ≡ sets l.initial.order (l.i + 1) (take (l.k - l.i) (drop l.i l.initial.order)))
