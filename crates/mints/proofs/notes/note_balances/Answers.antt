-- Each turn notes one balance row more, and a note records at most one account more, so the count does not overflow.
use Rattle.mints.proofs.Noting.{one-new, balance-next}
use Rattle.mints.specs.Note.{note_at, balances_to}
use lib.ListN.{take, drop}
use Prim.Native.Nat.{◌+◌, ◌*◌, ◌-◌}
use mathlib.Core.Path.{◌≡◌, refl, ◌∙◌}
use native.Mathlib.Omega.{arith}
use Rattle.mints.proofs.notes.note_balances.Goals as goal

pub loop-i-init : goal.loop-i-init
unfolding balances_to
loop-i-init c = (refl, omega arith, refl)

pub overflow_add-room : goal.overflow_add-room
overflow_add-room c =
    let l = c.loop-i in
    let a = c.args in
    omega (arith, c.note-room.ensures.1, one-new l.table c.row_of-r.result (take (l.i * 36 + 36 - (l.i * 36 + 4)) (drop (l.i * 36 + 4) a.balances.now)))

pub loop-i-preserved : goal.loop-i-preserved
unfolding note_at
loop-i-preserved c =
    let row_of = c.row_of-r in
    let l = c.loop-i in
    let a = c.args in
    let q = c.note-room.ensures in
    let w : l.i * 36 + 36 - (l.i * 36 + 4) ≡ 32 = omega arith in (
      c.note-room.auto.table ∙ l.invariant.0,
      omega (arith, q.1, one-new l.table row_of.result (take (l.i * 36 + 36 - (l.i * 36 + 4)) (drop (l.i * 36 + 4) a.balances.now))),
      rw (q.0, q.1, row_of.ensures, c.u32_at.ensures, w) (balance-next a.balances.now a.row.now a.table.now l.i l.invariant.2),
    )
