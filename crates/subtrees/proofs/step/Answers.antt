-- Every member before e is passed, alone or in the block of one that was tested, its bits are counted in, and the parents of those tested are set; a test that
-- fails, or n, is the end.
-- Assumes nothing.
use Rattle.subtrees.proofs.Walk.{walk_first, walk-jump, walk-stop, walk-out}
use Rattle.subtrees.proofs.Arrays.{positions-length, within-at, known-end}
use Rattle.subtrees.specs.Subtrees.{positions, joined, inside_of}
use Rattle.pack.specs.Invocation.{blank_place, position_in_places}
use lib.ListN.{length, get_or, length-set}
use mathlib.Core.Path.{◌≡◌, ap, ◌∙◌}
use Prim.Native.Nat.{ℕ, ◌<◌, ◌+◌, ◌≤◌}
use native.Mathlib.Omega.{arith}
use Rattle.subtrees.proofs.step.Goals as goal
use Rattle.subtrees.proofs.step.Goals.{Start, else-loop-e-test, then-loop-e-test+then-not-descendant}

-- where the end of a later invocation lies
reach : (s : Start) (e : ℕ) → s.args.i + 1 ≤ e → e < s.args.n → (e + 1 ≤ get_or s.args.ends.now e 0) × (get_or s.args.ends.now e 0 ≤ s.args.n)
reach s e =
    known-end s.args.places.now s.args.n s.args.own.now s.args.ends.now s.args.inside.now (s.args.i + 1) e s.requires.known

pub loop-e-init : goal.loop-e-init
loop-e-init c = (omega arith, omega arith, omega arith, c.requires.i_lt_n.2, walk_first _ _ _ _ c.requires.parented)

pub loop-e-smaller : goal.loop-e-smaller
loop-e-smaller c =
    let k = reach (goal.at.loop-e-smaller c).Start c.loop-e.e (omega arith) (omega arith) in
    omega arith

pub loop-e-preserved : goal.loop-e-preserved
unfolding position_in_places blank_place
loop-e-preserved c =
    let l = c.loop-e in
    let a = c.args in
    let own = a.own.now in
    let ps = positions a.places.now a.n in
    let len : length ps ≡ a.n = positions-length a.places.now a.n in
    let k = reach (goal.at.loop-e-preserved c).Start l.e (omega arith) (omega arith) in
    let yes = within-at a.places.now a.n a.i l.e c.descendant.result (omega arith) (omega arith) c.descendant.ensures ∙ c.if-not-descendant.false in
    let w = walk-jump ps own a.i l.e l.bits l.tests l.parents (omega arith) (omega arith) yes l.invariant.4 in
    let r = c.requires.known l.e (omega arith) (omega arith) in
    let got : c.joined-bits.result ≡ joined l.bits (joined (get_or own l.e 0) (inside_of ps own l.e)) =
    c.joined-bits.ensures ∙ ap (joined l.bits) (c.joined.ensures ∙ ap (joined (get_or own l.e 0)) r.1) in
    (omega arith, omega arith, omega arith, simp length-set l.invariant.3, rw (r.0, got) w)

pub returns : goal.returns
unfolding position_in_places blank_place
returns c =
    let l = c.loop-e in
    let a = c.args in
    let ps = positions a.places.now a.n in
    let len : length ps ≡ a.n = positions-length a.places.now a.n in
    elim c.loop-e-test.branch [
      | else-loop-e-test w ↦ rw w.tests-is (walk-out ps a.own.now a.i l.e l.bits l.tests l.parents (omega arith) (omega arith) l.invariant.3 l.invariant.4)
      | then-loop-e-test+then-not-descendant w ↦
          let no = within-at a.places.now a.n a.i l.e w.descendant.result (omega arith) (omega arith) w.descendant.ensures ∙ w.if-not-descendant.true in
          rw w.tests-is (walk-stop ps a.own.now a.i l.e l.bits l.tests l.parents (omega arith) (omega arith) l.invariant.3 no l.invariant.4)
    ]
