-- The bytes before i are the same in both, so what follows them decides.
-- Assumes nothing.
use native.Mathlib.Omega.{arith}
use mathlib.Core.Path.{refl, sym, ◌∙◌}
use mathlib.Core.Bool.{or-false}
use lib.Dec.{ltb}
use lib.ListN.{get_or}
use borrow.Author.Tests.{le-ltb, eq-eqb, ne_eqb}
use Rattle.wire.proofs.Order.{less-step, less-end}
use Rattle.wire.proofs.less_end.Goals as goal

pub loop-i-init : goal.loop-i-init
loop-i-init c = refl

pub returns-then-a-i : goal.returns-then-a-i
returns-then-a-i c =
    let a = c.args.a.now in
    let b = c.args.b.now in
    let l = c.loop-i in
    let m = c.min-i-end.ensures in
    sym (less-step a b l.i (omega arith) (omega arith) ∙ rw (ne_eqb _ _ c.if-a-i.true) (or-false (ltb (get_or a l.i 0) (get_or b l.i 0)))) ∙ l.invariant

pub loop-i-preserved : goal.loop-i-preserved
loop-i-preserved c =
    let a = c.args.a.now in
    let b = c.args.b.now in
    let l = c.loop-i in
    let m = c.min-i-end.ensures in
    sym (less-step a b l.i (omega arith) (omega arith) ∙ rw (le-ltb (get_or a l.i 0) (get_or b l.i 0) (omega arith), eq-eqb _ _ c.if-a-i.false)) ∙ l.invariant

pub returns : goal.returns
returns c =
    let l = c.loop-i in
    let m = c.min-i-end.ensures in
    sym (less-end c.args.a.now c.args.b.now l.i (omega arith) (λ h. omega arith) (λ h. omega arith)) ∙ l.invariant
