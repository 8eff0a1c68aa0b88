-- The pieces are the line.
-- Assumes nothing.
use Rattle.std.proofs.Common.{arith}
use Rattle.listing.proofs.Texts.{tree_head-text}
use Rattle.listing.proofs.tree.head.Goals as goal

pub returns : goal.returns
returns c = rw (← tree_head-text c.args.n (omega arith)) c.format.ensures.ok
