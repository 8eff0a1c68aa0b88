-- What the rows left and the lines left give together, before the rows that are done, is always what all of them give. Each turn puts in the last line left.
-- Assumes nothing.
use Rattle.std.proofs.Common.{◌≡◌, ◌+◌, ◌≤◌, false, ◌++◌, length, take, drop}
use mathlib.Core.List.{Memᴰ}
use Rattle.month.specs.Transfers.{Line}
use Rattle.month.specs.Report.{Sorted, lines_of}
use Rattle.month.specs.Adding.{add_rows, among}
use Rattle.month.specs.Bytes.{rows_to}
use Rattle.month.specs.Lookup.{empty_rows}
use Rattle.month.proofs.empty.put_in.Given as goal

abbrev pub invariant-loop-j : goal.invariant-loop-j
invariant-loop-j l = (l.i ≤ l.rows)
    × (length l.report ≡ length l.initial.report)
    × Sorted (rows_to l.report l.i)
    × ((x : Line) → Memᴰ x l.lines.lines → among x (lines_of (rows_to l.report l.i)) ≡ false)
    × (add_rows (rows_to l.report l.i) (empty_rows (take l.j l.lines.lines)) ++ drop (l.i + l.j) (rows_to l.report (l.rows + length l.lines.lines)) ≡ add_rows (rows_to l.initial.report l.rows) (empty_rows l.lines.lines))
