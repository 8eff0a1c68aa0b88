-- Each turn feeds the transfers from one place to the next: a walk posts some, and those that wait are admitted.
use Rattle.std.proofs.Common.{◌≡◌, ◌-◌, ◌/◌, ◌≤◌, length}
use Rattle.month.specs.Report.{fed_into}
use Rattle.month.specs.Bytes.{rows_to, transfers_to}
use Rattle.month.specs.Standing.{Bears}
use Rattle.month.proofs.feed.feed.Given as goal

abbrev pub invariant-loop-from : goal.invariant-loop-from
invariant-loop-from l = (l.from ≤ length l.t / 150)
    × (length l.wait ≡ 1024)
    × (length l.report ≡ length l.initial.report)
    × (rows_to l.report l.used ≡ fed_into (rows_to l.initial.report l.rows) (transfers_to l.t l.from))
    × Bears (length l.t / 150 - l.from) (rows_to l.report l.used)

abbrev pub decreases-loop-from : goal.decreases-loop-from
decreases-loop-from l = length l.t / 150 - l.from
