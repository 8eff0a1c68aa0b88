-- The bytes from i on are equal in both, so those before them decide.
-- Assumes nothing.
use native.Mathlib.Omega.{arith}
use mathlib.Core.Path.{◌≡◌, sym, ap, ap₂, ◌∙◌}
use mathlib.Core.List.{List}
use Prim.Native.Nat.{ℕ, ◌+◌, ◌-◌}
use lib.Seq.{take-length}
use Rattle.wire.specs.Le.{le, Bytes}
use Rattle.wire.specs.Same.{same}
use Rattle.wire.proofs.Same.{same-ne, same-not-long, same_step}
use Rattle.wire.proofs.Laws.{le_same}
use Rattle.wire.proofs.equal.Goals as goal

pub returns-then-a-b : goal.returns-then-a-b
returns-then-a-b c = sym (same-not-long c.args.a.now c.args.b.now c.if-a-b.true)

pub loop-i-init : goal.loop-i-init
loop-i-init c =
    let a = c.args.a.now in
    let b = c.args.b.now in
    (omega arith, ap₂ same (take-length a) (rw c.if-a-b.false (take-length b)))

pub returns-then-eight : goal.returns-then-eight
returns-then-eight c =
    let l = c.loop-i in
    sym (same-ne (λ e. c.if-eight.true (c.eight.ensures ∙ (ap (λ (s : List ℕ). le 8 s (l.i - 8)) e ∙ sym c.eight-in-loop-i.ensures))))

pub loop-i-preserved : goal.loop-i-preserved
loop-i-preserved c =
    let a = c.args.a.now in
    let b = c.args.b.now in
    let l = c.loop-i in
    let j = l.i - 8 in
    let ba : Bytes a j 8 = λ k h. omega (arith, c.type_inv.a (j + k)) in
    let bb : Bytes b j 8 = λ k h. omega (arith, c.type_inv.b (j + k)) in
    let next = le_same 8 a b j ba bb (omega arith) (omega arith) (sym c.eight.ensures ∙ (c.if-eight.false ∙ c.eight-in-loop-i.ensures)) in
    let back : j + 8 ≡ l.i = omega arith in
    (omega arith, same_step a b j 8 next ∙ rw back l.invariant.1)
