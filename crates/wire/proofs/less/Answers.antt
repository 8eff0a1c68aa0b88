-- The eights before i are the same in both; of the first that differ the numbers decide, and else what follows the eights.
-- Assumes nothing.
use native.Mathlib.Omega.{arith}
use mathlib.Core.Path.{◌≡◌, sym, ap, ap₂, ◌∙◌}
use Prim.Native.Nat.{◌+◌, ◌-◌, ◌*◌, ◌/◌}
use lib.ListN.{length, take, drop, length-drop}
use lib.Seq.{take-length}
use Rattle.wire.specs.Order.{lt_key}
use Rattle.std.specs.Int.{w64, from_be_bytes}
use Rattle.wire.specs.Le.{swapped, Bytes}
use Rattle.wire.proofs.Chunks.{chunk-in}
use Rattle.wire.proofs.Numbers.{high-le, same-high, le-lt}
use Rattle.wire.proofs.Word.{less-word}
use Rattle.wire.proofs.Order.{less-pass}
use Rattle.wire.proofs.less.Goals as goal

pub returns-then-x-y : goal.returns-then-x-y
returns-then-x-y c =
    let a = c.args.a.now in
    let b = c.args.b.now in
    let l = c.loop-i in
    let j = l.i * 8 in
    let la = c.as_chunks.ensures.front_len in
    let lb = c.as_chunks-2.ensures.front_len in
    let m = c.min-i-end.ensures in
    let ba : Bytes a j 8 = λ k h. omega (arith, c.type_inv.a (j + k)) in
    let bb : Bytes b j 8 = λ k h. omega (arith, c.type_inv.b (j + k)) in
    let x = c.from_be_bytes-x.ensures ∙ ap (from_be_bytes w64) (chunk-in 8 (length a / 8) a c.as_chunks.result.0.now l.i c.as_chunks.ensures.front (omega arith)) ∙ high-le a j ba (omega arith) in
    let y = c.from_be_bytes-y.ensures ∙ ap (from_be_bytes w64) (chunk-in 8 (length b / 8) b c.as_chunks-2.result.0.now l.i c.as_chunks-2.ensures.front (omega arith)) ∙ high-le b j bb (omega arith) in
    rw (x, y) (sym (less-word 8 a b j ba bb (omega arith) (omega arith) (le-lt 8 a j ba) (le-lt 8 b j bb) (λ e. c.if-x-y.true (x ∙ (ap (swapped 8) e ∙ sym y)))) ∙ l.invariant)

pub loop-i-preserved : goal.loop-i-preserved
loop-i-preserved c =
    let a = c.args.a.now in
    let b = c.args.b.now in
    let l = c.loop-i in
    let j = l.i * 8 in
    let la = c.as_chunks.ensures.front_len in
    let lb = c.as_chunks-2.ensures.front_len in
    let m = c.min-i-end.ensures in
    let x = c.from_be_bytes-x.ensures ∙ ap (from_be_bytes w64) (chunk-in 8 (length a / 8) a c.as_chunks.result.0.now l.i c.as_chunks.ensures.front (omega arith)) in
    let y = c.from_be_bytes-y.ensures ∙ ap (from_be_bytes w64) (chunk-in 8 (length b / 8) b c.as_chunks-2.result.0.now l.i c.as_chunks-2.ensures.front (omega arith)) in
    let next = same-high a b j (λ k. omega (arith, c.type_inv.a k)) (λ k. omega (arith, c.type_inv.b k)) (omega arith) (omega arith) (sym x ∙ (c.if-x-y.false ∙ y)) in
    let past : (l.i + 1) * 8 ≡ j + 8 = omega arith in
    rw past (less-pass 8 a b j next ∙ l.invariant)

pub returns : goal.returns
returns c =
    let a = c.args.a.now in
    let b = c.args.b.now in
    let la = c.as_chunks.ensures.front_len in
    let lb = c.as_chunks-2.ensures.front_len in
    let n = c.min.result / 8 * 8 in
    let at : n ≡ c.loop-i.i * 8 = omega (arith, c.min.ensures, c.min-i-end.ensures) in
    let ra : take (length a - n) (drop n a) ≡ drop (c.loop-i.i * 8) a = rw at (rw (← length-drop) (take-length _)) in
    let rb : take (length b - n) (drop n b) ≡ drop (c.loop-i.i * 8) b = rw at (rw (← length-drop) (take-length _)) in
    c.less_end.ensures ∙ ap₂ lt_key ra rb ∙ c.loop-i.invariant
