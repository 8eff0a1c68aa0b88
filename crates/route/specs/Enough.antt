-- How many rows of each table suffice for a pack, whatever the names are.
-- Assumes nothing.
use Rattle.std.specs.Prelude.{ℕ, ◌/◌, ◌≤◌, cond, List, eqb, length}
use Rattle.pack.specs.View.{view_of}
use Rattle.pack.specs.Flatten.{flatten}
use Rattle.pack.specs.Verdict.{Verdict, verdict, refusal_number, place_of}
use Rattle.route.specs.declared.RowsNeeded.{RowsNeeded}
use Rattle.route.specs.Widths.{mint_width, invocation_width, transfer_width, leg_width, action_width}
use Rattle.route.specs.Route.{Lent}

-- a row of table 0 for each of so many keys, a row of every other table for each of so many invocations
abbrev pub rows_for : ℕ → ℕ → RowsNeeded
rows_for keys n = record { number = 0; place = 0; mints = keys; invocations = n; transfers = n; legs = n; natives = n }

-- the refusals of a pack, by its verdict, need no room
unfoldable pub needed_by : List ℕ → Verdict → RowsNeeded
needed_by p v =
    cond (eqb (refusal_number v) 0) (rows_for (length (view_of p).keys) (length (flatten (view_of p))))
    (record { number = refusal_number v; place = place_of v; mints = 0; invocations = 0; transfers = 0; legs = 0; natives = 0 })

-- the whole call `room`
abbrev pub needed : List ℕ → RowsNeeded
needed p = needed_by p (verdict p)

-- five lent tables have at least so many whole rows
pub record Enough (r : RowsNeeded) (l : Lent) : Type 0 where
  pub mints : r.mints ≤ l.mints / mint_width
  pub invocations : r.invocations ≤ l.invocations / invocation_width
  pub transfers : r.transfers ≤ l.transfers / transfer_width
  pub legs : r.legs ≤ l.legs / leg_width
  pub natives : r.natives ≤ l.natives / action_width
