-- The number of the bytes is theirs by weight.
-- Assumes nothing.
use mathlib.Core.Path.{◌∙◌}
use Rattle.wire.proofs.Numbers.{worth-le}
use Rattle.wire.proofs.u64_at.Goals as goal

pub returns : goal.returns
returns c = c.from_le_bytes.ensures ∙ worth-le 7 c.bytes_at.result c.args.s.now c.args.at c.bytes_at.ensures
