-- What is held are the least new lines of the transfers passed, and one transfer more makes it those of one more.
use Rattle.std.proofs.Common.{◌≡◌, take}
use Rattle.month.specs.Report.{lines_of, lines_in}
use Rattle.month.specs.Bytes.{transfers_to}
use Rattle.month.specs.Lookup.{new_above}
use Rattle.month.specs.Standing.{Picked}
use Rattle.month.proofs.room.least.Given as goal

abbrev pub invariant-loop-i : goal.invariant-loop-i
invariant-loop-i l = ◌≡◌ {A = Picked} l.lines (record { table = l.t; lines = take 3072 (new_above (lines_of l.report) l.bound (lines_in (transfers_to l.t l.i))) })
