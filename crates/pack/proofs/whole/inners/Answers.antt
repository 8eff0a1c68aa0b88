-- What the rest of the group comes to from here is what all of it comes to.
-- Assumes nothing.
use Rattle.pack.proofs.Walk.{item-grows, inners-ended, inners-cut, inners-bad, inners-more}
use Prim.Native.Nat.{◌+◌}
use mathlib.Core.Path.{sym, ◌∙◌}
use native.Mathlib.Omega.{arith}
use Rattle.pack.proofs.whole.inners.Goals as goal

pub returns-then-s-to-lt13 : goal.returns-then-s-to-lt13
returns-then-s-to-lt13 c =
    let l = c.loop in
    let a = c.args in
    sym (inners-cut a.s.now a.n l.counter l.to (omega arith) (omega (arith, item-grows a.s.now (l.to + 5)))) ∙ l.invariant.1

pub returns-then-s-end : goal.returns-then-s-end
returns-then-s-end c =
    let l = c.loop in
    let a = c.args in
    sym (inners-cut a.s.now a.n l.counter l.to (omega arith) (omega (arith, c.item_end-end.ensures))) ∙ l.invariant.1

pub returns-then-not-height_good : goal.returns-then-not-height_good
returns-then-not-height_good c =
    let l = c.loop in
    let a = c.args in
    sym (inners-bad a.s.now a.n l.counter l.to (omega arith) (omega (arith, c.item_end-end.ensures)) (sym c.height_good.ensures ∙ c.if-not-height_good.true)) ∙ l.invariant.1

pub loop-preserved : goal.loop-preserved
loop-preserved c =
    let l = c.loop in
    let a = c.args in
    let e = c.item_end-end.ensures in
    (omega arith, rw e (inners-more a.s.now a.n l.counter l.to (omega arith) (omega (arith, e)) (sym c.height_good.ensures ∙ c.if-not-height_good.false) ∙ l.invariant.1))

pub returns : goal.returns
returns c =
    let l = c.loop in
    let a = c.args in
    sym (inners-ended a.s.now a.n l.counter l.to (omega arith)) ∙ l.invariant.1
