-- The working table when all evidence is noted, and the plain transfers as row numbers.
-- Assumes nothing.
use Rattle.std.specs.Prelude.{ℕ, ◌/◌, List, length, replicate}
use Rattle.wire.specs.Zeros.{zeros}
use Rattle.ids.specs.Keys.{key_count, key_of}
use Rattle.mints.specs.Cells.{blank_row}
use Rattle.mints.specs.Lay.{KeyRows, laid}
use Rattle.mints.specs.Note.{balances_to}
use Rattle.mints.specs.Pass.{no_transfer}
use Rattle.mints.specs.Gather.{Gathered, gather_to}

-- 257 rows, for at most 256 keys and the zero key
unfoldable pub laid_of : List ℕ → KeyRows
laid_of ks = laid (key_of ks) (replicate 257 blank_row) (zeros 256) (key_count ks)

-- the balance rows are noted
abbrev pub begun : List ℕ → List ℕ → Gathered
begun ks b = record { noted = balances_to b (laid_of ks).row (laid_of ks).table (length b / 36); transfers = replicate 1024 no_transfer; count = 0 }

-- and then the instructions at the offsets
unfoldable pub gathered_of : List ℕ → List ℕ → List ℕ → List ℕ → Gathered
gathered_of ks b p offsets = gather_to ks p offsets (laid_of ks).row (begun ks b) (length offsets)
