-- What is held are the least new lines of the transfers passed, and one transfer more makes it those of one more.
use Rattle.std.proofs.Common.{◌≡◌, [], take}
use Rattle.month.specs.Report.{lines_of, lines_in}
use Rattle.month.specs.Lookup.{transfers_at, new_above}
use Rattle.month.specs.Standing.{Picked}
use Rattle.month.proofs.new.gather.Given as goal

abbrev pub invariant-loop-i : goal.invariant-loop-i
invariant-loop-i l = ◌≡◌ {A = Picked} l.lines (record { table = l.fn.lines.table; lines = take 3072 (new_above (lines_of l.report) [] (lines_in (transfers_at l.fn.lines.table (take l.i-index l.wait)))) })
