-- Each turn stores one byte more.
-- Assumes nothing.
use Rattle.wire.proofs.Sets.{sets_more}
use native.Mathlib.Omega.{arith}
use Rattle.wire.proofs.lay_bytes.Goals as goal

pub loop-k-preserved : goal.loop-k-preserved
loop-k-preserved g c =
    let l = c.loop-k in
    let a = c.args in
    rw l.invariant (sets_more a.d.now a.at a.bytes l.k (omega arith))
