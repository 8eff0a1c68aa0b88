-- The new lines are those counted and those above the last one counted. They are too many as soon as more are held than there is room left for, and all are
-- counted when fewer are held than can be.
use Rattle.month.specs.Report.{lines_of, lines_in}
use Rattle.month.specs.Adding.{new_in}
use Rattle.month.specs.Bytes.{transfers_in}
use Rattle.month.specs.Lookup.{new_above}
use Rattle.std.proofs.Common.{◌≡◌, ◌+◌, ◌-◌, ◌≤◌, length, take}
use Rattle.month.proofs.room.full.Given as goal

abbrev pub invariant-loop-fresh : goal.invariant-loop-fresh
invariant-loop-fresh l = (l.lines.table ≡ l.t) × (length l.last ≡ 66) × (l.width ≤ 66) × (l.fresh ≤ l.room)
    × (l.fresh + length (new_above (lines_of l.report) (take l.width l.last) (lines_in (transfers_in l.t))) ≡ new_in (lines_of l.report) (lines_in (transfers_in l.t)))

abbrev pub decreases-loop-fresh : goal.decreases-loop-fresh
decreases-loop-fresh l = new_in (lines_of l.report) (lines_in (transfers_in l.t)) - l.fresh
