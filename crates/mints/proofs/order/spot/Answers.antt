-- All rows before `low` are not greater, the one at `high` and all behind it are, because they ascend; where the two meet is the first greater one.
use Rattle.mints.proofs.Sorting.{spot-bound, spot-low, spot-high}
use Prim.Native.Nat.{◌+◌, ◌/◌}
use mathlib.Core.Path.{sym, ◌∙◌}
use native.Mathlib.Omega.{arith}
use Rattle.mints.proofs.order.spot.Goals as goal

pub loop-low-init : goal.loop-low-init
loop-low-init c = (omega arith, omega arith, spot-bound c.args.table.now c.args.r c.args.order.now)

pub loop-low-preserved-then-less : goal.loop-low-preserved-then-less
loop-low-preserved-then-less c =
    let l = c.loop-low in
    let a = c.args in
    let e = rw (c.account.ensures.0, c.account-in-loop-low.ensures.0) at c.less.ensures in
    (omega arith, l.invariant.1, spot-low a.table.now a.r a.order.now ((l.low + l.high) / 2) (sym e ∙ c.if-less.true))

pub loop-low-preserved : goal.loop-low-preserved
loop-low-preserved c =
    let l = c.loop-low in
    let a = c.args in
    let e = rw (c.account.ensures.0, c.account-in-loop-low.ensures.0) at c.less.ensures in
    let h = spot-high a.table.now a.r {l = a.order.now} ((l.low + l.high) / 2) c.requires.2 (omega arith) (sym e ∙ c.if-less.false) in
    (l.invariant.0, omega (arith, h), l.invariant.2)
