-- All rows before `low` are not greater, the one at `high` and all behind it are, because they ascend; where the two meet is the first greater one.
use Rattle.mints.specs.Order.{spot_in}
use lib.ListN.{length}
use Prim.Native.Nat.{◌-◌, ◌≤◌}
use Rattle.mints.proofs.order.spot.Given as goal

abbrev pub invariant-loop-low : goal.invariant-loop-low
invariant-loop-low l = (l.high ≤ length l.order) × (l.low ≤ spot_in l.table l.r l.order) × (spot_in l.table l.r l.order ≤ l.high)

abbrev pub decreases-loop-low : goal.decreases-loop-low
decreases-loop-low l = l.high - l.low
