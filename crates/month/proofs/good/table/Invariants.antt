-- As long as the loop runs, all flags passed are good; one that is not makes the table bad (`table-cut`).
use Rattle.std.proofs.Common.{◌≡◌, true}
use Rattle.month.specs.Bytes.{flags_to}
use Rattle.month.proofs.good.table.Given as goal

abbrev pub invariant-loop-i : goal.invariant-loop-i
invariant-loop-i l = flags_to l.t l.i ≡ true
