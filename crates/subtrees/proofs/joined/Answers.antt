-- Each of the two bits is that of the bytes, or-ed.
-- Assumes nothing.
use Rattle.subtrees.proofs.Numbers.{or-joined}
use Rattle.subtrees.proofs.joined.Goals as goal

pub returns : goal.returns
returns c = or-joined c.args.a c.args.b
