-- Each turn reads one instruction more: another program's changes nothing, a token program's is noted and listed as the definition says, and counts grow by
-- at most two and one.
use Rattle.mints.specs.Gather.{gather_to}
use Rattle.mints.specs.Programs.{programs_of}
use lib.ListN.{length, take}
use lib.Seq.{sets}
use Prim.Native.Nat.{◌*◌, ◌≤◌}
use mathlib.Core.Path.{◌≡◌}
use Rattle.mints.proofs.notes.gather.Given as goal

abbrev pub invariant-loop-i : goal.invariant-loop-i
invariant-loop-i l = (length l.table ≡ length l.initial.table) × (length l.transfers ≡ length l.initial.transfers) × (l.room ≤ l.i * 2) × (l.count ≤ l.i) × (gather_to l.keys l.pack l.at l.row (record { noted = record { table = l.initial.table; room = 0 }; transfers = l.initial.transfers; count = 0 }) l.i ≡ record { noted = record { table = l.table; room = l.room }; transfers = l.transfers; count = l.count }) × (l.programs ≡ sets l.initial.programs 0 (take l.i (programs_of l.keys l.pack l.at)))
