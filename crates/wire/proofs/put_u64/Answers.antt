-- The bytes that are put are the number's.
-- Assumes nothing.
use mathlib.Core.Path.{ap, ◌∙◌}
use lib.Seq.{sets}
use Rattle.wire.proofs.Numbers.{bytes-le}
use Rattle.wire.proofs.put_u64.Goals as goal

pub returns : goal.returns
returns c =
    let a = c.args in
    c.put_bytes.ensures ∙ ap (sets a.d.now a.at) (c.to_le_bytes.ensures ∙ bytes-le 8 a.x)
