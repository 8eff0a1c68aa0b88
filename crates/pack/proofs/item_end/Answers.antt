-- Two counts on top of eight bytes.
-- Assumes nothing.
use Rattle.pack.specs.Items.{item_end}
use Rattle.pack.proofs.item_end.Goals as goal

pub returns : goal.returns
unfolding item_end
returns c = rw (c.two-2.ensures, c.two.ensures)
