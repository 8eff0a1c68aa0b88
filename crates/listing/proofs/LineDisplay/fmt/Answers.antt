-- The pieces are the line.
-- Assumes nothing.
use Rattle.std.proofs.Common.{arith}
use Rattle.listing.proofs.Texts.{line-text}
use Rattle.listing.proofs.LineDisplay.fmt.Goals as goal

pub returns-clause-writes : goal.returns-clause-writes
returns-clause-writes g c =
    rw
    (← line-text c.args.self.now.0.now _ _ _ _ _ _ _ c.u32_at-outer.ensures c.number_at-inner.ensures c.number_at-height.ensures c.u32_at-end.ensures c.byte-bits.ensures
    c.u32_at-parent.ensures c.byte-reason.ensures (omega arith) (omega arith) (omega arith) (omega arith) (omega arith))
    c.write.ensures.writes
