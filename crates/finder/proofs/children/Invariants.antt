-- The walk stands at each child once: the children before it are listed, and the block of each is passed whole.
-- Assumes nothing.
use Rattle.finder.proofs.Listing.{Listed}
use Rattle.finder.specs.Found.{all_positions}
use lib.ListN.{length}
use Prim.Native.Nat.{◌-◌, ◌≤◌}
use Rattle.finder.proofs.children.Given as goal

abbrev pub invariant-loop-at : goal.invariant-loop-at
invariant-loop-at l = (l.at ≤ length l.run.places.now) × (l.count ≤ l.at) × Listed (all_positions l.run.places.now) l.i l.list l.count l.at

abbrev pub decreases-loop-at : goal.decreases-loop-at
decreases-loop-at l = length l.run.places.now - l.at
