-- The rows of the keys, and the row of each key index.
-- Assumes nothing.
use Rattle.std.specs.Prelude.{ℕ, zero, suc, cond, List, eqb, ltb, length, set, Option, Some, None}
use Rattle.ids.specs.Keys.{Key}
use Rattle.mints.specs.declared.row.Row.{Row}
use Rattle.mints.specs.declared.row.State.TheVariants.{Ambiguous}
use Rattle.mints.specs.Cells.{first_row, with_account, with_state}

-- the first of the table's rows whose account is k, if one is
unfoldable pub found_row : List Row → Key → Option ℕ
found_row t k = let r = first_row t k (length t) in cond (ltb r (length t)) (Some r) None

-- what is left when keys are laid
pub record KeyRows : Type 0 where
  -- the table, with a row for each distinct key
  pub table : List Row
  -- the row of each key index
  pub row : List ℕ
  -- how many rows there are
  pub rows : ℕ

-- key i at row r: a new row, if r is the number of rows
unfoldable pub lay_at : KeyRows → ℕ → Key → ℕ → KeyRows
lay_at s i k r =
    record {
      table = cond (eqb r s.rows) (with_account s.table r k) s.table;
      row = set s.row i r;
      rows = cond (eqb r s.rows) (suc s.rows) s.rows;
    }

-- one key more
unfoldable pub lay_key : KeyRows → ℕ → Key → KeyRows
lay_key s i k = lay_at s i k (first_row s.table k s.rows)

-- the first i keys, into a table whose row 0 is laid
unfoldable pub lay_to : (ℕ → Key) → List Row → List ℕ → ℕ → KeyRows
lay_to κ t row zero = record { table = t; row = row; rows = 1 }
lay_to κ t row (suc i) = lay_key (lay_to κ t row i) i (κ i)

-- row 0, the zero key's and ambiguous, and n keys
abbrev pub laid : (ℕ → Key) → List Row → List ℕ → ℕ → KeyRows
laid κ t row n = lay_to κ (with_state t 0 Ambiguous) row n
