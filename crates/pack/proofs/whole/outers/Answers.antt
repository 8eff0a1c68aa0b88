-- What the rest of the section counts from here is what the whole counts.
-- Assumes nothing.
use Rattle.pack.proofs.Walk.{item-grows, outers-ended, outers-cut, outers-more}
use Rattle.pack.specs.View.{outer_in}
use native.Mathlib.Nat.{zero-add}
use mathlib.Core.Path.{sym, ◌∙◌}
use native.Mathlib.Omega.{arith}
use lib.ListN.{length-map}
use Rattle.pack.proofs.whole.outers.Goals as goal

pub returns-then-s-at-lt8 : goal.returns-then-s-at-lt8
unfolding outer_in
returns-then-s-at-lt8 c =
    let l = c.loop-at in
    let s = c.args.s.now in
    sym (outers-cut s l.at l.n (omega arith) (omega arith) (omega (arith, item-grows s l.at))) ∙ l.invariant.2 ∙ rw (length-map, zero-add)

pub returns-then-s-end : goal.returns-then-s-end
unfolding outer_in
returns-then-s-end c =
    let l = c.loop-at in
    let s = c.args.s.now in
    sym (outers-cut s l.at l.n (omega arith) (omega arith) (omega (arith, c.item_end-end.ensures))) ∙ l.invariant.2 ∙ rw (length-map, zero-add)

pub loop-at-smaller : goal.loop-at-smaller
loop-at-smaller c = let l = c.loop-at in omega (arith, c.item_end-end.ensures, item-grows c.args.s.now l.at)

pub loop-at-preserved : goal.loop-at-preserved
loop-at-preserved c =
    let l = c.loop-at in
    let s = c.args.s.now in
    let e = c.item_end-end.ensures in
    let g = item-grows s l.at in
    (omega arith, omega (arith, e), rw e (outers-more s l.at l.n (omega arith) (omega arith) (omega (arith, e)) ∙ l.invariant.2))

pub returns : goal.returns
unfolding outer_in
returns c =
    let l = c.loop-at in
    let s = c.args.s.now in
    sym (outers-ended s l.at l.n (omega arith) (omega arith)) ∙ l.invariant.2 ∙ rw (length-map, zero-add)
