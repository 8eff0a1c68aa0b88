-- The walk tells the verdict and the number of invocations, which are those of the definition; both are small, so they are not cut by the casts.
use mathlib.Core.Path.{sym, ap, ◌∙◌}
use mathlib.Core.List.{List}
use Prim.Native.Nat.{ℕ, ◌/◌}
use native.Mathlib.Omega.{arith}
use lib.ListN.{length}
use Rattle.pack.specs.Verdict.{refusal_number}
use Rattle.pack.proofs.Sizes.{keys_length}
use Rattle.pack.proofs.Good.{passed}
use Rattle.pack.proofs.Entries.{count-is}
use Rattle.route.proofs.Enough.{needed-refused, needed-rows}
use Rattle.route.proofs.Success.{numbered}
use Rattle.route.proofs.needs.room.Goals as goal

pub overflow_cast-n : goal.overflow_cast-n
overflow_cast-n c =
    let p = c.args.pack.now in
    let e = sym (ap refusal_number c.in-Ok.ensures.verdict) in
    omega (arith, (passed p e).few, count-is p c.in-Ok.n c.flatten.new.at c.flatten.new.places e c.in-Ok.ensures.arrays)

pub overflow_cast-result : goal.overflow_cast-result
overflow_cast-result c =
    let p = c.args.pack.now in
    let e = sym (ap refusal_number c.in-Ok.ensures.verdict) in
    omega (arith, (passed p e).few_keys, keys_length p, ap (λ (s : List ℕ). length s / 33) c.section.ensures)

pub returns-in-Ok : goal.returns-in-Ok
returns-in-Ok c =
    let p = c.args.pack.now in
    let e = sym (ap refusal_number c.in-Ok.ensures.verdict) in
    needed-rows p e (ap (λ (s : List ℕ). length s / 33) c.section.ensures ∙ sym (keys_length p)) (count-is p c.in-Ok.n c.flatten.new.at c.flatten.new.places e c.in-Ok.ensures.arrays)

pub returns-in-Err : goal.returns-in-Err
returns-in-Err c =
    let v = c.in-Err.ensures.verdict in
    needed-refused c.args.pack.now (λ e. numbered c.in-Err.refusal (ap refusal_number v ∙ e)) v c.number.ensures c.place.ensures
