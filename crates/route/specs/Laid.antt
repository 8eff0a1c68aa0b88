-- What stands in the tables after a call: zeros where it is refused, else the rows, and zeros behind them.
-- Assumes nothing.
use Rattle.std.specs.Prelude.{ℕ, ◌*◌, ◌-◌, ◌≤◌, ◌<◌, ◌≡◌, length, get_or, take, drop}
use mathlib.Core.List.{List, [], Memᴰ}
use Rattle.std.proofs.Math.Option.{some}
use Rattle.wire.specs.Zeros.{zeros}
use Rattle.route.specs.Widths.{mint_width, invocation_width, transfer_width, leg_width, action_width}
use Rattle.route.specs.Tables.{Tables}
use Rattle.route.specs.Route.{Lent, Routed, tables_in}

-- all five tables are zero throughout
pub record AllZero (l : Lent) (r : Routed) : Type 0 where
  pub mints : r.mints ≡ zeros l.mints
  pub invocations : r.invocations ≡ zeros l.invocations
  pub transfers : r.transfers ≡ zeros l.transfers
  pub legs : r.legs ≡ zeros l.legs
  pub natives : r.natives ≡ zeros l.natives

-- a table t of n bytes, of which the answer counts c rows of w bytes: they are these rows, each w bytes long, they have room, row k stands at k * w, and
-- every byte behind the last of them is zero
pub record Laid (w : ℕ) (rows : List (List ℕ)) (c n : ℕ) (t : List ℕ) : Type 0 where
  pub count : c ≡ length rows
  pub each : (r : List ℕ) → Memᴰ r rows → length r ≡ w
  pub room : c * w ≤ n
  pub long : length t ≡ n
  pub at : (k : ℕ) → k < c → take w (drop (k * w) t) ≡ get_or rows k []
  pub behind : drop (c * w) t ≡ zeros (n - c * w)

-- the tables of a pack, each laid out in the one that is lent for it
pub record AllLaid (names p : List ℕ) (l : Lent) (r : Routed) : Type 0 where
  pub tables : Tables
  pub are : tables_in names p ≡ some tables
  pub mints : Laid mint_width tables.mints r.answer.mints l.mints r.mints
  pub invocations : Laid invocation_width tables.invocations r.answer.invocations l.invocations r.invocations
  pub transfers : Laid transfer_width tables.transfers r.answer.transfers l.transfers r.transfers
  pub legs : Laid leg_width tables.legs r.answer.legs l.legs r.legs
  pub natives : Laid action_width tables.natives r.answer.natives l.natives r.natives
