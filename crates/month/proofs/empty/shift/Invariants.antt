-- The bytes from i on stand at their new place, and what lies before i is as it was.
-- Assumes nothing.
use Rattle.std.proofs.Common.{◌≡◌, ◌+◌, ◌-◌, ◌≤◌, length, take, drop}
use lib.Seq.{sets}
use Rattle.month.proofs.empty.shift.Given as goal

abbrev pub invariant-loop-i : goal.invariant-loop-i
invariant-loop-i l = (l.from ≤ l.i) × (l.i ≤ l.to) × (length l.d ≡ length l.initial.d) × (l.d ≡ sets l.initial.d (l.i + l.by) (take (l.to - l.i) (drop l.i l.initial.d)))

abbrev pub decreases-loop-i : goal.decreases-loop-i
decreases-loop-i l = l.i

abbrev pub invariant-loop-k : goal.invariant-loop-k
invariant-loop-k l = (l.from ≤ l.k) × (length l.d ≡ length l.initial.d) × (l.d ≡ sets l.initial.d (l.k + l.by) (take (l.i - l.k) (drop l.k l.initial.d)))
