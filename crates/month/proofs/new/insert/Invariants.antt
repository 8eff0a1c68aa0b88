-- Numbers move one place up, the last one first, so each is read before it is written over.
use lib.Seq.{sets}
use Rattle.std.proofs.Common.{◌≡◌, ◌+◌, ◌-◌, ◌≤◌, length, take, drop}
use Rattle.month.proofs.new.insert.Given as goal

abbrev pub invariant-loop-i : goal.invariant-loop-i
invariant-loop-i l = (l.j ≤ l.i) × (length l.numbers ≡ length l.initial.numbers) × (l.numbers ≡ sets l.initial.numbers (l.i + 1) (take (l.k - l.i) (drop l.i l.initial.numbers)))
