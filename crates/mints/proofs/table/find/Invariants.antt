-- The first row with the key, from row i on, is the answer as long as no row before i has it; a byte that differs rules a row out.
use Rattle.mints.specs.Cells.{first_row_from}
use lib.ListN.{length, get_or}
use Prim.Native.Nat.{ℕ, ◌-◌, ◌≤◌, ◌<◌}
use mathlib.Core.Path.{◌≡◌}
use Rattle.mints.proofs.table.find.Given as goal

abbrev pub invariant-loop-j : goal.invariant-loop-j
invariant-loop-j l = (l.i ≡ l.initial.i) × ((m : ℕ) → 32 - l.j ≤ m → m < 32 → get_or l.account m 0 ≡ get_or l.key m 0)

abbrev pub invariant-rows : goal.invariant-rows
invariant-rows l = (l.i ≤ length l.table) × (first_row_from l.table l.key (length l.table - l.i) l.i ≡ first_row_from l.table l.key (length l.table) 0)

abbrev pub decreases-rows : goal.decreases-rows
decreases-rows l = length l.table - l.i
