-- A run that fits is stored whole; of another its front is, and the stores that are left out would have done nothing.
-- Assumes nothing.
use Rattle.wire.proofs.Sets.{sets-past, sets-cut, sets-part}
use lib.ListN.{length, take}
use lib.Seq.{length-take-le}
use Prim.Native.Nat.{◌-◌}
use mathlib.Core.Path.{sym, ◌∙◌}
use native.Mathlib.Omega.{arith}
use Rattle.wire.proofs.put.Goals as goal

pub returns-then-d-at : goal.returns-then-d-at
returns-then-d-at c = sym (sets-past c.args.d.now c.args.at c.args.s.now c.if-d-at.true)

pub returns-then-s-room : goal.returns-then-s-room
returns-then-s-room c =
    let a = c.args in
    rw c.lay.ensures (sets-part a.d.now a.s.now a.at _ (omega arith) (omega arith))

pub returns-else-s-room : goal.returns-else-s-room
returns-else-s-room c =
    let a = c.args in
    let room = length a.d.now - a.at in
    rw c.lay_part.ensures
    (sets-part a.d.now (take room a.s.now) a.at room (sym (length-take-le room a.s.now (omega arith))) (omega arith) ∙ sets-cut a.d.now a.at a.s.now room (omega arith) (omega arith))
