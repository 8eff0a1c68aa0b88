-- The working table when evidence is noted, mints are handed on and marks are set.
-- Assumes nothing.
use Rattle.std.specs.Prelude.{ℕ, List, take}
use Rattle.std.proofs.Math.Option.{Option}
use Rattle.mints.specs.declared.row.Row.{Row}
use Rattle.mints.specs.Doubt.{handed_on}
use Rattle.mints.specs.Prepare.{laid_of, gathered_of}

pub record Concluded : Type 0 where
  -- the table, final unless the passes are too many
  pub table : List Row
  -- the row of each key index
  pub row : List ℕ
  -- how many rows there are
  pub rows : ℕ
  -- the accounts that need room
  pub room : ℕ
  -- the passes, none where 512 are too few
  pub passes : Option ℕ

-- of a key section, a balance section, and a pack with the offsets of its instructions
unfoldable pub concluded : List ℕ → List ℕ → List ℕ → List ℕ → Concluded
concluded ks b p o =
    let g = gathered_of ks b p o in
    let x = handed_on (take g.count g.transfers) g.noted.table (laid_of ks).rows g.noted.room in
    record { table = x.table; row = (laid_of ks).row; rows = (laid_of ks).rows; room = x.room; passes = x.passes }
