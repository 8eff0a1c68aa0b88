-- The match has the definition's cases, and a checked transfer is two notes one after the other.
use Rattle.mints.specs.Note.{Noted}
use Rattle.mints.specs.Gather.{observed}
use Rattle.mints.proofs.Noting.{one_more}
use Rattle.mints.proofs.Gathering.{account-counted}
use Rattle.ids.specs.Keys.{key_of}
use mathlib.Core.Logic.{⊎_elim}
use mathlib.Core.Path.{ap}
use native.Mathlib.Omega.{arith}
use Rattle.mints.proofs.notes.observe.Goals as goal

pub overflow_add-result : goal.overflow_add-result
overflow_add-result c =
    let a = c.args in
    let κ = key_of a.keys.now in
    let recorded = λ (x : Noted). x.room in
    let s = c.note_account-source in
    omega (
      arith,
      ap recorded s.ensures,
      one_more κ a.row.now a.accounts.now (record { table = a.table.now; room = 0 }) 0,
      ap recorded c.note_account-in-Checked.ensures,
      one_more κ a.row.now a.accounts.now (record { table = s.new.table; room = 0 }) 2,
    )

pub returns-in-Initialise : goal.returns-in-Initialise
unfolding observed
returns-in-Initialise c = rw c.in-Initialise.is c.note_account.ensures

pub returns-in-Plain : goal.returns-in-Plain
unfolding observed
returns-in-Plain c = rw c.in-Plain.is

pub returns-in-Checked : goal.returns-in-Checked
unfolding observed
returns-in-Checked c =
    let a = c.args in
    let p = c.note_account-source.ensures in
    let q = account-counted (key_of a.keys.now) a.row.now c.note_account-source.result a.accounts.now c.note_account-source.new.table 2 c.note_account-in-Checked.ensures in
    ⊎_elim (λ k. rw k.1 (rw p q)) (λ k. rw k.2 (rw p q)) c.in-Checked.is
