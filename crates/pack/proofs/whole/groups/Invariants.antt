-- What the rest of the section counts from here is what the whole counts; the bound on the groups that are left falls by one for each.
-- Assumes nothing.
use Rattle.pack.proofs.Walk.{groups_count}
use Prim.Native.Nat.{ℕ, suc, ◌-◌, ◌≤◌, ◌<◌}
use mathlib.Core.Path.{◌≡◌}
use lib.ListN.{length}
use Rattle.pack.proofs.whole.groups.Given as goal

abbrev pub invariant-loop-at : goal.invariant-loop-at
invariant-loop-at l = (l.at ≤ length l.s) × (l.n ≤ l.at) × ((f : ℕ) × (length l.s - l.at < f) × (groups_count l.s l.o f l.at l.n ≡ groups_count l.s l.o (suc (length l.s)) 0 0))

abbrev pub decreases-loop-at : goal.decreases-loop-at
decreases-loop-at l = length l.s - l.at
