-- From behind an invocation on, what is found is its block.
-- Assumes nothing.
use Rattle.finder.proofs.Finding.{all-length, found-block, found_nowhere}
use Rattle.finder.specs.Found.{all_positions}
use native.Mathlib.Omega.{arith}
use Rattle.finder.proofs.block.Goals as goal

pub returns-then-run-i : goal.returns-then-run-i
returns-then-run-i c =
    let r = c.first-run in
    let places = r.result.places.now in
    let len = all-length places in
    rw (← r.ensures.places) (found_nowhere (all_positions places) c.args.own.now c.args.i (omega (arith, len)))

pub returns : goal.returns
returns c =
    let r = c.first-run in
    let places = r.result.places.now in
    let len = all-length places in
    rw (← r.ensures.places, ← r.ensures.own) (found-block (all_positions places) r.result.own.now c.args.i c.find.result (omega (arith, len)) c.find.ensures)
