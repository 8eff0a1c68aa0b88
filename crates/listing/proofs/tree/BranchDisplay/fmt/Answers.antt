-- The pieces are the line.
-- Assumes nothing.
use Rattle.std.proofs.Common.{arith}
use Rattle.listing.proofs.Texts.{branch-text}
use Rattle.listing.proofs.tree.BranchDisplay.fmt.Goals as goal

pub returns-clause-writes : goal.returns-clause-writes
returns-clause-writes g c =
    let b = c.args.self.now in
    rw (← branch-text b.found.end b.found.inside b.children.now (omega arith) (omega arith) (omega arith)) c.write.ensures.writes
