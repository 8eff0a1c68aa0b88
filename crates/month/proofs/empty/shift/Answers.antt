-- The bytes from i on stand at their new place, and what lies before i is as it was.
-- Assumes nothing.
use Rattle.std.proofs.Common.{◌≡◌, ◌-◌, refl, ◌∙◌, arith, length-set, rules}
use lib.Seq.{length-sets}
use Rattle.month.proofs.Moves.{move-more, move-eight, move-one}
use Rattle.month.proofs.empty.shift.Goals as goal

pub loop-i-init : goal.loop-i-init
loop-i-init c =
    let a = c.args in
    let none : a.to - a.to ≡ 0 = omega arith in
    (omega arith, omega arith, refl, rw none)

pub loop-i-preserved : goal.loop-i-preserved
loop-i-preserved c =
    let l = c.loop-i in
    let a = c.args in
    (omega arith, omega arith, rw (c.put_u64.ensures, length-sets) l.invariant.2, rw (c.put_u64.ensures, c.u64_at-word.ensures) (move-eight a.d.now l.d a.to a.by (l.i - 8) l.i (omega arith) (omega arith) (omega arith) (λ k. search rules) l.invariant.3))

pub loop-k-init : goal.loop-k-init
loop-k-init c =
    let i = c.loop-i.i in
    let none : i - i ≡ 0 = omega arith in
    (c.loop-i.invariant.0, refl, rw none)

pub loop-k-preserved : goal.loop-k-preserved
loop-k-preserved c =
    let l = c.loop-k in
    let o = c.loop-i in
    let a = c.args in
    (omega arith, simp length-set l.invariant.1, move-one o.d l.d o.i a.by (l.k - 1) l.k (omega arith) (omega arith) (omega (arith, o.invariant.2)) l.invariant.1 l.invariant.2)

pub returns : goal.returns
returns c =
    let l = c.loop-k in
    let o = c.loop-i in
    let a = c.args in
    let all : l.k ≡ a.from = omega arith in
    (rw all at l.invariant.2) ∙ move-more a.d.now o.d a.to a.by a.from o.i o.invariant.0 o.invariant.1 (omega arith) o.invariant.3
