-- The pieces are the line.
-- Assumes nothing.
use Rattle.std.proofs.Common.{arith, ◌∙◌}
use Rattle.listing.proofs.Texts.{head-text}
use Rattle.listing.proofs.head.Goals as goal

pub returns : goal.returns
returns c =
    (rw c.in_ok-text.ensures.ok at c.in_ok-write.ensures.bytes)
    ∙ head-text c.args.a.now (omega arith) (omega arith) (omega arith) (omega arith) (omega arith) (omega arith) (omega arith)
