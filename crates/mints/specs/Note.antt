-- Evidence into the working table.
-- Assumes nothing.
use Rattle.std.specs.Prelude.{ℕ, zero, suc, ◌+◌, ◌*◌, cond, List, eqb, get_or, take, drop}
use Rattle.wire.specs.Le.{le}
use Rattle.wire.specs.Same.{same}
use Rattle.ids.specs.Keys.{Key, zero_key}
use Rattle.mints.specs.declared.row.Row.{Row}
use Rattle.mints.specs.declared.row.State.TheVariants.{Ambiguous, Recorded}
use Rattle.mints.specs.Cells.{mint_at, state_at, with_mint, with_state}

-- a mint in row r: a first one is kept, another one makes the row ambiguous; a zero mint is none
unfoldable pub record_at : List Row → ℕ → Key → List Row
record_at t r m = cond (same m zero_key) t (cond (eqb (state_at t r) 0) (with_mint t r m Recorded) (cond (eqb (state_at t r) 2) (cond (same m (mint_at t r)) t (with_state t r Ambiguous)) t))

-- how many accounts more are recorded by it
unfoldable pub new_at : List Row → ℕ → Key → ℕ
new_at t r m = cond (same m zero_key) 0 (cond (eqb (state_at t r) 0) 1 0)

-- what is left when evidence is noted, and after a pass
pub record Noted : Type 0 where
  -- the table
  pub table : List Row
  -- how many accounts were recorded in it, or filled in by the pass
  pub room : ℕ

-- one piece of evidence, for a row
unfoldable pub note_at : Noted → ℕ → Key → Noted
note_at x r m = record { table = record_at x.table r m; room = x.room + new_at x.table r m }

-- the first i balance rows of 36 bytes: an account's index, a mint; `row` has the row of each index
unfoldable pub balances_to : List ℕ → List ℕ → List Row → ℕ → Noted
balances_to s row t zero = record { table = t; room = 0 }
balances_to s row t (suc i) = note_at (balances_to s row t i) (get_or row (le 4 s (i * 36)) 0) (take 32 (drop (i * 36 + 4) s))
