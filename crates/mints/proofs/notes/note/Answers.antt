-- A first mint and its state are stored one after the other.
use Rattle.mints.specs.declared.row.State.TheVariants.{Recorded}
use Rattle.mints.specs.Cells.{number_of}
use Rattle.mints.proofs.Fields.{mint-then-state}
use Rattle.mints.proofs.Noting.{note-first}
use mathlib.Core.Path.{◌≡◌, sym, ap, ◌∙◌}
use native.Mathlib.Omega.{arith}
use Rattle.wire.proofs.Sets.{sets-whole}
use Rattle.mints.proofs.notes.note.Goals as goal

pub returns-in-Unknown : goal.returns-in-Unknown
unfolding number_of
returns-in-Unknown c =
    let a = c.args in
    let q = note-first a.table.now a.r a.mint.now (sym c.is_zero.ensures ∙ c.if-not-is_zero.true) (ap number_of c.in-Unknown.is) in
    let whole : c.put.new.d ≡ a.mint.now = c.put.ensures ∙ sets-whole _ a.mint.now (omega arith) in
    (mint-then-state a.table.now a.r c.put.new.d Recorded (omega arith) ∙ rw whole q.0, q.1)
