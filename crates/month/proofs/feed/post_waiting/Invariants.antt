-- Each turn feeds one waiting transfer: `post` adds it, since the report has its lines from the start and keeps them.
use Rattle.std.proofs.Common.{◌≡◌, ◌-◌, length, take}
use Rattle.month.specs.Report.{fed_into}
use Rattle.month.specs.Bytes.{rows_to}
use Rattle.month.specs.Lookup.{transfers_at}
use Rattle.month.specs.Standing.{Bears}
use Rattle.month.proofs.feed.post_waiting.Given as goal

abbrev pub invariant-loop-i : goal.invariant-loop-i
invariant-loop-i l = (length l.report ≡ length l.initial.report) × (rows_to l.report l.rows ≡ fed_into (rows_to l.initial.report l.rows) (transfers_at l.t (take l.i-index l.wait))) × Bears (length l.wait - l.i-index) (rows_to l.report l.rows)
