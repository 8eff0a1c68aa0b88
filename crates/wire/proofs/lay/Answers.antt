-- What is still to be stored, stored from here, makes the run.
-- Assumes nothing.
use native.Mathlib.Omega.{arith}
use native.Mathlib.Numerals.{add-one}
use native.Mathlib.Nat.{add-zero, add-suc}
use mathlib.Core.Path.{◌≡◌, sym, ap, ◌∙◌}
use Prim.Native.Nat.{ℕ, ◌+◌, ◌*◌, ◌/◌}
use lib.ListN.{length, drop, length-drop, drop_of_length-le}
use lib.Seq.{drop-cons, drop-drop}
use Rattle.wire.proofs.Chunks.{chunk-in}
use Rattle.wire.proofs.Sets.{sets-rest, sets-whole}
use Rattle.wire.proofs.lay.Goals as goal

pub loop-i-init : goal.loop-i-init
loop-i-init c = sets-whole c.args.d.now c.args.s.now (sym c.requires)

pub loop-i-preserved : goal.loop-i-preserved
loop-i-preserved c =
    let s = c.args.s.now in
    let l = c.loop-i in
    let k = l.i * 8 in
    let n = c.as_chunks.ensures.front_len in
    let next = chunk-in 8 (length s / 8) s c.as_chunks.result.0.now l.i c.as_chunks.ensures.front (omega arith) in
    let past : (l.i + 1) * 8 ≡ k + 8 = omega arith in
    rw (c.lay_bytes.ensures, next, past, ← drop-drop 8 k s) (sets-rest l.d k (drop k s) 8 (rw length-drop (omega arith)) ∙ l.invariant)

pub loop-j-init : goal.loop-j-init
loop-j-init c =
    let s = c.args.s.now in
    let n = c.as_chunks.ensures.front_len in
    let i : c.loop-i.i * 8 ≡ length c.as_chunks.result.0.now * 8 = omega arith in
    let rest : c.as_chunks.result.1.now ≡ drop (length c.as_chunks.result.0.now * 8) s = c.as_chunks.ensures.back ∙ ap (λ (m : ℕ). drop m s) (omega arith) in
    rw (add-zero, rest, ← i) c.loop-i.invariant

pub loop-j-preserved : goal.loop-j-preserved
loop-j-preserved c =
    let l = c.loop-j in
    rw (add-one, add-suc) (rw (drop-cons c.as_chunks.result.1.now l.j 0 (omega arith)) at l.invariant)

pub returns : goal.returns
returns c =
    let l = c.loop-j in
    rw (drop_of_length-le c.as_chunks.result.1.now {i = l.j} (omega arith)) at l.invariant
