-- Each turn notes one balance row more, and a note records at most one account more, so the count does not overflow.
use Rattle.mints.specs.Note.{balances_to}
use lib.ListN.{length}
use Prim.Native.Nat.{◌≤◌}
use mathlib.Core.Path.{◌≡◌}
use Rattle.mints.proofs.notes.note_balances.Given as goal

abbrev pub invariant-loop-i : goal.invariant-loop-i
invariant-loop-i l = (length l.table ≡ length l.initial.table) × (l.room ≤ l.i) × (balances_to l.balances l.row l.initial.table l.i ≡ record { table = l.table; room = l.room })
