-- The pieces are the line.
-- Assumes nothing.
use Rattle.std.proofs.Common.{arith}
use Rattle.listing.proofs.Texts.{refused-text}
use Rattle.listing.proofs.refused.Goals as goal

pub returns : goal.returns
returns c = let a = c.args.a.now in rw (← refused-text a.number a.place (omega arith) (omega arith)) c.format.ensures.ok
