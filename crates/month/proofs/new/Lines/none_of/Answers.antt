-- No number is held.
use Rattle.std.proofs.Common.{refl}
use Rattle.month.proofs.Noting.{none-held}
use Rattle.month.proofs.new.Lines.none_of.Goals as goal

pub invariant_of-result : goal.invariant_of-result
invariant_of-result c = (none-held c.args.table.now _, refl)
