-- The first four bytes are the program index.
-- Assumes nothing.
use Rattle.pack.specs.Invocation.{instruction_at}
use Rattle.pack.proofs.item.program.Goals as goal

pub returns : goal.returns
unfolding instruction_at
returns c = c.u32_at.ensures
