-- The array so far holds what each invocation so far has itself.
use Rattle.route.specs.Arrays.{own_at}
use Rattle.route.proofs.Rows.{array-more}
use Rattle.wire.specs.Tab.{tab}
use mathlib.Core.Path.{refl}
use Rattle.route.proofs.invocations.put_own.Goals as goal

pub loop-i-init : goal.loop-i-init
unfolding tab
loop-i-init c = refl

pub loop-i-preserved : goal.loop-i-preserved
unfolding own_at
loop-i-preserved c =
    let l = c.loop-i in
    let a = c.args in
    rw c.own_for.ensures (array-more (own_at a.reasons.now a.leg.now) l.i a.own.now l.own l.invariant)
