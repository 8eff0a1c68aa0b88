-- Each transfer is posted or waits; fed into what is there, those that wait give what all so far give.
use Rattle.std.proofs.Common.{◌≡◌, ◌+◌, ◌-◌, ◌/◌, ◌≤◌, length, take}
use Rattle.month.specs.Report.{Sorted, fed_into}
use Rattle.month.specs.Bytes.{rows_to}
use Rattle.month.specs.Lookup.{transfers_at, transfers_from}
use Rattle.month.specs.Standing.{Bears, PlacesIn}
use Rattle.month.proofs.feed.walk.Given as goal

abbrev pub invariant-loop-i : goal.invariant-loop-i
invariant-loop-i l = (l.waiting + l.from ≤ l.i)
    × (l.waiting ≤ length l.wait)
    × (length l.wait ≡ length l.initial.wait)
    × (length l.report ≡ length l.initial.report)
    × PlacesIn l.t (take l.waiting l.wait)
    × (fed_into (rows_to l.report l.rows) (transfers_at l.t (take l.waiting l.wait)) ≡ fed_into (rows_to l.initial.report l.rows) (transfers_from l.t l.from (l.i - l.from)))
    × Sorted (rows_to l.report l.rows)
    × Bears (length l.t / 150 - l.i + l.waiting) (rows_to l.report l.rows)
