-- `route` leaves the answer and the rows that the definition lists, and all rows that it counts are in the lent table.
-- Assumes nothing.
use Rattle.route.specs.Widths.{invocation_width}
use Rattle.listing.proofs.Room.{rows_fit}
use Rattle.listing.specs.Listing.{route_of, listing}
use Prim.Native.Nat.{◌*◌, ◌≤◌}
use native.Mathlib.Omega.{arith}
use Rattle.listing.proofs.list.Goals as goal

pub listed-requires : goal.listed-requires
unfolding route_of
listed-requires c =
    let r = c.routed-a in
    let f : r.result.invocations * invocation_width ≤ 1024 * invocation_width = rw r.ensures.0 (rows_fit _ _ _) in
    record { invocations_bound = omega arith; invocation_width_in_bounds = omega (arith, r.auto.invocations) }

pub returns : goal.returns
unfolding listing route_of
returns c = rw (c.routed-a.ensures.0, c.routed-a.ensures.1) at c.listed.ensures
