-- As long as the loop runs, the rows passed are good, and the lines up to the next one rise.
use Rattle.std.proofs.Common.{◌≡◌, suc, ◌<◌, true}
use Rattle.month.specs.Bytes.{rows_to, rises, good_rows}
use Rattle.month.proofs.good.report.Given as goal

abbrev pub invariant-loop-i : goal.invariant-loop-i
invariant-loop-i l = (good_rows l.fed (rows_to l.report l.i) ≡ true) × (rises (rows_to l.report l.i) ≡ true) × (l.i < l.rows → rises (rows_to l.report (suc l.i)) ≡ true)
