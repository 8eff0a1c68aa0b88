-- The line before the place found is below, the line there is not, and they ascend: that is the spot.
use Rattle.std.proofs.Common.{[], sym, arith}
use Rattle.month.proofs.Noting.{held-length}
use Rattle.month.proofs.Spots.{spot-met}
use Rattle.month.proofs.new.Lines.spot.Goals as goal

pub returns : goal.returns
returns c =
    let s = c.self in
    let h = c.halved.ensures in
    let long = held-length s.invariant.0 in
    rw (← s.view_is)
    (spot-met c.args.line.now [] c.halved.result s.invariant.0.held_ascend (omega (arith, long, h.within))
    (λ p. rw (← s.view_is) at (sym (h.before p)))
    (λ p. rw (← s.view_is) at (sym (h.here (omega (arith, long))))))
