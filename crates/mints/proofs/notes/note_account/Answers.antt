-- It is one note, in the row of the account and with the key of account 1; both are there, or the zero key's.
use Rattle.mints.specs.Gather.{note_account}
use Rattle.mints.specs.Note.{note_at}
use Rattle.mints.proofs.Search.{row_fits}
use Rattle.ids.proofs.Keys.{key-length, account-length}
use Rattle.ids.specs.Keys.{zero_key, key_of}
use lib.ListN.{length}
use mathlib.Core.Path.{ap, ◌∙◌}
use native.Mathlib.Nat.{zero-add}
use Rattle.mints.proofs.notes.note_account.Goals as goal

pub note-requires : goal.note-requires
unfolding zero_key
note-requires c =
    let a = c.args in (
      ap length c.account_key-mint.ensures ∙ account-length (key_of a.keys.now) (key-length a.keys.now) a.accounts.now 1,
      rw c.account_row-r.ensures (row_fits a.table.now a.row.now a.accounts.now a.i c.requires),
    )

pub returns : goal.returns
unfolding note_account note_at zero_key
returns c =
    let q = c.note.ensures in
    rw (q.0, q.1, c.account_row-r.ensures, c.account_key-mint.ensures, zero-add)
