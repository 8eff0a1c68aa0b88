-- Numbers move one place up, the last one first, so each is read before it is written over.
use Rattle.month.proofs.Noting.{move-more, moved}
use Rattle.std.proofs.Common.{◌≡◌, ◌-◌, refl, arith, length-set}
use Rattle.month.proofs.new.insert.Goals as goal

pub loop-i-init : goal.loop-i-init
loop-i-init c =
    let a = c.args in
    let e : a.k - a.k ≡ 0 = omega arith in
    (omega arith, refl, rw e)

pub loop-i-preserved : goal.loop-i-preserved
loop-i-preserved c =
    let l = c.loop-i in
    let a = c.args in
    (omega arith, simp length-set l.invariant.1, rw l.invariant.2 (move-more a.numbers.now a.k l.i (omega arith) (omega arith) (omega arith)))

pub returns : goal.returns
returns c =
    let l = c.loop-i in
    let a = c.args in
    let e : l.i ≡ a.j = omega arith in
    rw (l.invariant.2, e) (moved a.numbers.now a.j a.k a.n (omega arith) (omega arith))
