-- The bytes from i to n are equal in both, so those before them decide.
-- Assumes nothing.
use native.Mathlib.Omega.{arith}
use mathlib.Core.Path.{◌≡◌, refl, sym, ap, ◌∙◌}
use mathlib.Core.Bool.{false}
use mathlib.Core.List.{[], ◌∷◌}
use Prim.Native.Nat.{ℕ, ◌+◌, ◌-◌}
use lib.ListN.{take, drop}
use lib.Seq.{drop-cons, get_or-take}
use Rattle.wire.specs.Same.{same}
use Rattle.wire.proofs.Same.{same-eq, same-not-at, same_step}
use Rattle.wire.proofs.equal_rest.Goals as goal

pub returns-then-a-i : goal.returns-then-a-i
returns-then-a-i c =
    let a = c.args.a.now in
    let b = c.args.b.now in
    let l = c.loop-i in
    let j = l.i - 1 in
    let differ : same (take l.i a) (take l.i b) ≡ false = same-not-at (take l.i a) (take l.i b) j (λ e. c.if-a-i.true (sym (get_or-take l.i a j 0 (omega arith)) ∙ (e ∙ get_or-take l.i b j 0 (omega arith)))) in
    sym differ ∙ l.invariant.1

pub loop-i-preserved : goal.loop-i-preserved
loop-i-preserved c =
    let a = c.args.a.now in
    let b = c.args.b.now in
    let l = c.loop-i in
    let j = l.i - 1 in
    let next : take 1 (drop j a) ≡ take 1 (drop j b) = rw (drop-cons a j 0 (omega arith), drop-cons b j 0 (omega arith)) (ap (λ (x : ℕ). x ∷ []) c.if-a-i.false) in
    let back : j + 1 ≡ l.i = omega arith in
    (omega arith, same_step a b j 1 next ∙ rw back l.invariant.1)

pub returns : goal.returns
returns c =
    let l = c.loop-i in
    let none : l.i ≡ 0 = omega arith in
    sym (same-eq (rw none refl)) ∙ l.invariant.1
