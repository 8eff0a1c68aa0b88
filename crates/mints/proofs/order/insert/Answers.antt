-- Elements move one place to the right, last first, so each is read before it is written over.
use Rattle.mints.proofs.Inserting.{shift-more, inserted}
use lib.ListN.{length-set}
use Prim.Native.Nat.{◌-◌}
use mathlib.Core.Path.{◌≡◌, refl}
use native.Mathlib.Omega.{arith}
use Rattle.mints.proofs.order.insert.Goals as goal

pub loop-i-init : goal.loop-i-init
loop-i-init c =
    let a = c.args in
    let e : a.k - a.k ≡ 0 = omega arith in
    (omega arith, refl, rw e)

pub loop-i-preserved : goal.loop-i-preserved
loop-i-preserved c =
    let l = c.loop-i in
    let a = c.args in
    (omega arith, simp length-set l.invariant.1, rw l.invariant.2 (shift-more a.order.now a.k l.i (omega arith) (omega arith) (omega arith)))

pub returns : goal.returns
returns c =
    let l = c.loop-i in
    let a = c.args in
    let e : l.i ≡ a.j = omega arith in
    rw (l.invariant.2, e) (inserted a.order.now a.j a.k a.r (omega arith) (omega arith))
