-- The rows so far are those of the invocations so far, and each candidate adds its own behind them.
use Rattle.route.specs.Known.{Fills, Numbers}
use Rattle.route.specs.Widths.{leg_width}
use Rattle.route.specs.Legs.{leg_rows_in}
use lib.ListN.{length}
use Prim.Native.Nat.{◌≤◌}
use mathlib.Core.Path.{◌≡◌}
use Rattle.route.proofs.legs.put_rows.Given as goal

abbrev pub invariant-loop-i : goal.invariant-loop-i
invariant-loop-i l = (l.k ≤ l.i) × (length l.out ≡ length l.initial.out) × Fills l.mints l.pack l.at (leg_rows_in l.names l.pack) leg_width l.i l.k l.initial.out l.out × Numbers l.mints l.pack l.at (leg_rows_in l.names l.pack) l.i l.initial.leg l.leg
