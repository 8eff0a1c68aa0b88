-- Each turn lays one key more, and `ends` goes on holding the last byte of every row, because a new row ends as its key does.
use Rattle.mints.specs.Cells.{LastBytesSeen}
use Rattle.mints.specs.Lay.{lay_to}
use Rattle.ids.specs.Keys.{key_count, key_of}
use lib.ListN.{length}
use Prim.Native.Nat.{suc, ◌≤◌}
use mathlib.Core.Path.{◌≡◌}
use Rattle.mints.proofs.table.lay_marking.Given as goal

abbrev pub invariant-loop-i : goal.invariant-loop-i
invariant-loop-i l = (length l.table ≡ length l.initial.table) × (length l.row ≡ length l.initial.row) × (l.rows ≤ suc l.i) × (suc (key_count l.keys) ≤ length l.table) × (lay_to (key_of l.keys) l.initial.table l.initial.row l.i ≡ record { table = l.table; row = l.row; rows = l.rows }) × (length l.ends ≡ 256) × LastBytesSeen l.table l.rows l.ends
