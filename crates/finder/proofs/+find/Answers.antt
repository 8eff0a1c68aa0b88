-- The first call goes on behind a child, the second at the end of the child's block, which lies behind the child.
-- Assumes nothing.
use Rattle.finder.proofs.Finding.{all-length, holds, found_none, behind, found-child}
use Rattle.finder.specs.Found.{all_positions}
use Rattle.subtrees.specs.Subtrees.{within, joined}
use Rattle.subtrees.proofs.Blocks.{past, stops}
use Rattle.pack.specs.Invocation.{blank_place, position_in_places}
use lib.ListN.{length, get_or}
use mathlib.Core.Path.{ap, ◌∙◌}
use native.Mathlib.Omega.{arith}
use Rattle.finder.proofs.+find.Goals as goal
use Rattle.finder.proofs.+find.Goals.{then-at-run-via-then-at-run, then-at-run-via-else-at-run+then-not-descendant}

pub returns-then-at-run : goal.returns-then-at-run
unfolding position_in_places blank_place
returns-then-at-run t c =
    let a = c.args in
    let places = a.run.now.places.now in
    let ps = all_positions places in
    let len = all-length places in
    found_none ps a.run.now.own.now a.i a.at (elim c.then-at-run.branch [
      | then-at-run-via-then-at-run w ↦ past (length ps) (within ps) a.i a.at (omega arith)
      | then-at-run-via-else-at-run+then-not-descendant w ↦
          stops (length ps) (within ps) a.i a.at (omega arith)
          (holds places a.i a.at w.descendant.result (omega arith) (omega arith) w.descendant.ensures ∙ w.if-not-descendant.true)
    ])

pub find-rest-requires : goal.find-rest-requires
find-rest-requires t c =
    let a = c.args in
    let w = behind a.run.now.places.now a.run.now.own.now a.at c.find-child.result (omega arith) c.find-child.ensures in
    (omega arith, (omega arith, omega arith))

pub returns : goal.returns
unfolding position_in_places blank_place
returns t c =
    let a = c.args in
    let places = a.run.now.places.now in
    let own = a.run.now.own.now in
    let len = all-length places in
    let yes = holds places a.i a.at c.descendant.result (omega arith) (omega arith) c.descendant.ensures ∙ c.if-not-descendant.false in
    let both = c.joined-2.ensures ∙ ap (joined (get_or own a.at 0)) c.joined.ensures in
    rw both (found-child (all_positions places) own a.i a.at c.find-child.result c.find-rest.result (omega arith) yes c.find-child.ensures c.find-rest.ensures)
