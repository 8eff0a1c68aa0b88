-- One row more keeps the first k places what the definition's list is; a row with no mint is left out by both.
use Rattle.mints.specs.Order.{sort_to}
use lib.ListN.{length, take}
use Prim.Native.Nat.{◌≤◌}
use mathlib.Core.Path.{◌≡◌}
use Rattle.mints.proofs.order.sort.Given as goal

abbrev pub invariant-loop-r : goal.invariant-loop-r
invariant-loop-r l = (length l.order ≡ length l.initial.order) × (l.k ≤ l.r) × (l.k ≡ length (sort_to l.table l.r)) × (take l.k l.order ≡ sort_to l.table l.r)
