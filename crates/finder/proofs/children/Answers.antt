-- The walk stands at each child once: the children before it are listed, and the block of each is passed whole.
-- Assumes nothing.
use Rattle.finder.proofs.Finding.{all-length, holds, behind}
use Rattle.finder.proofs.Listing.{listed-first, listed-jump, listed-stop, listed-out, listed-nowhere}
use Rattle.finder.specs.Found.{all_positions}
use Rattle.subtrees.specs.Subtrees.{filled}
use Rattle.pack.specs.Invocation.{blank_place, position_in_places}
use mathlib.Core.Path.{refl, ◌∙◌}
use native.Mathlib.Omega.{arith}
use Rattle.finder.proofs.children.Goals as goal

pub returns-then-run-i : goal.returns-then-run-i
unfolding filled
returns-then-run-i c =
    let r = c.first-run in
    let places = r.result.places.now in
    let len = all-length places in
    rw (← r.ensures.places, listed-nowhere (all_positions places) c.args.i (omega (arith, len))) (refl, refl)

pub loop-at-init : goal.loop-at-init
loop-at-init c = (omega arith, omega arith, listed-first _ _)

pub loop-at-preserved : goal.loop-at-preserved
unfolding position_in_places blank_place
loop-at-preserved c =
    let l = c.loop-at in
    let places = c.first-run.result.places.now in
    let ps = all_positions places in
    let len = all-length places in
    let w = behind places c.first-run.result.own.now l.at c.find-at.result (omega arith) c.find-at.ensures in
    let yes = holds places c.args.i l.at c.descendant.result (omega arith) (omega arith) c.descendant.ensures ∙ c.if-descendant.true in
    (omega arith, omega arith, rw w.0 (listed-jump ps c.args.i l.list l.count l.at (omega arith) (omega arith) yes l.invariant.2))

pub returns-else-descendant : goal.returns-else-descendant
unfolding position_in_places blank_place
returns-else-descendant c =
    let l = c.loop-at in
    let places = c.first-run.result.places.now in
    let ps = all_positions places in
    let len = all-length places in
    let no = holds places c.args.i l.at c.descendant.result (omega arith) (omega arith) c.descendant.ensures ∙ c.if-descendant.false in
    rw (← c.first-run.ensures.places) (listed-stop ps c.args.i l.list l.count l.at (omega arith) no l.invariant.2)

pub returns-after-loop-at : goal.returns-after-loop-at
returns-after-loop-at c =
    let l = c.loop-at in
    let places = c.first-run.result.places.now in
    let ps = all_positions places in
    let len = all-length places in
    rw (← c.first-run.ensures.places) (listed-out ps c.args.i l.list l.count l.at (omega arith) l.invariant.2)
