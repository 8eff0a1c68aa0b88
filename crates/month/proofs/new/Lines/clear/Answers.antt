-- No number is held.
use Rattle.month.proofs.Noting.{none-held}
use Rattle.month.proofs.new.Lines.clear.Goals as goal

pub invariant_of-self : goal.invariant_of-self
invariant_of-self c = (none-held c.self.inside.table.now c.self.inside.numbers, c.self.invariant.1)
