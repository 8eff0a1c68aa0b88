-- From invocation i on the arrays hold ends and inside bits, and which of these invocations is a parent of which, and `total` their tests; each step adds one invocation in front.
-- Assumes nothing.
use Rattle.subtrees.proofs.Filling.{filling-none, filling-more, filling-all}
use Rattle.subtrees.proofs.Arrays.{positions-length, taken_min}
use Rattle.subtrees.specs.Subtrees.{positions}
use lib.ListN.{length, length-set}
use mathlib.Core.Path.{◌≡◌, refl}
use Prim.Native.Nat.{◌-◌, ◌≤◌}
use native.Mathlib.Omega.{arith}
use Rattle.std.proofs.Math.Nat.{min-le_right}
use Rattle.subtrees.proofs.subtrees.Goals as goal

pub loop-i-init : goal.loop-i-init
loop-i-init c =
    let k = c.min-count.result in
    let ps = positions c.args.places.now k in
    (refl, refl, refl, omega arith, filling-none ps c.args.own.now k (positions-length c.args.places.now k))

pub loop-i-preserved : goal.loop-i-preserved
loop-i-preserved c =
    let l = c.loop-i in
    let r = c.step-found.result in
    let k = c.min-count.result in
    let ps = positions c.args.places.now k in
    let len : length ps ≡ k = positions-length c.args.places.now k in (
      simp length-set l.invariant.0,
      simp length-set l.invariant.1,
      c.step-found.ensures.sized,
      omega (arith, c.step-found.ensures.small),
      filling-more ps c.args.own.now l.ends l.inside l.parents _ l.total l.i (l.i - 1) r.end r.inside r.tests
          (omega arith) (omega arith) (omega arith) (omega arith) c.step-found.ensures l.invariant.4,
    )

pub returns : goal.returns
returns c =
    let l = c.loop-i in
    let k = c.min-count.result in
    let ps = positions c.args.places.now k in
    let len : length ps ≡ k = positions-length c.args.places.now k in
    let few : k ≤ 1024 = omega (arith, min-le_right) in
    let z : l.i ≡ 0 = omega arith in
    rw (← taken_min c.args.n, ← c.min-count.ensures)
    (filling-all ps c.args.own.now l.ends l.inside l.parents l.total (omega arith) l.invariant.0 l.invariant.1 l.invariant.2 (rw z at l.invariant.4))
