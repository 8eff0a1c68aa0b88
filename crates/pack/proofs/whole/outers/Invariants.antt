-- What the rest of the section counts from here is what the whole counts.
-- Assumes nothing.
use Rattle.pack.proofs.Walk.{outers_count}
use Prim.Native.Nat.{suc, ◌-◌, ◌≤◌}
use mathlib.Core.Path.{◌≡◌}
use lib.ListN.{length}
use Rattle.pack.proofs.whole.outers.Given as goal

abbrev pub invariant-loop-at : goal.invariant-loop-at
invariant-loop-at l = (l.at ≤ length l.s) × (l.n ≤ l.at) × (outers_count l.s (suc (length l.s) - l.n) l.at l.n ≡ outers_count l.s (suc (length l.s)) 0 0)

abbrev pub decreases-loop-at : goal.decreases-loop-at
decreases-loop-at l = length l.s - l.at
