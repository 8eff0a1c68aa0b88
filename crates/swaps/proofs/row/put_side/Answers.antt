-- The mint that `side` hands over is the known one or else the pair's (`side-mint`), and `put_mint` writes its field.
-- Assumes nothing.
use Rattle.ids.specs.Keys.{key_of}
use Rattle.ids.proofs.Keys.{key-length}
use Rattle.swaps.proofs.Rows.{side-mint}
use Rattle.swaps.proofs.row.put_side.Goals as goal

pub returns : goal.returns
returns c =
    let a = c.args in
    rw (← side-mint a.known.now (key_of a.keys.now) a.index (key-length a.keys.now), c.put_mint.ensures, c.side.ensures)
