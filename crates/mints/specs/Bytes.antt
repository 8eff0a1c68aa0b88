-- The mint table as bytes, and the mint of each key index.
-- Assumes nothing.
use Rattle.std.specs.Prelude.{ℕ, zero, suc, List, [], ◌∷◌, ◌++◌}
use Rattle.std.proofs.Math.Option.{Option, none, some}
use Rattle.ids.specs.Keys.{Key, zero_key}
use Rattle.evidence.specs.MintTable.{MintRow, mint_in}

-- the bytes of a row of table 0, and of the working table, whose rows have a state in the place of the mark
abbrev pub mint_width : ℕ
mint_width = 65

-- a row of table 0: account, mint, mark
abbrev pub mint_row : MintRow → List ℕ
mint_row r = r.0 ++ r.1 ++ (r.2 ∷ [])

unfoldable pub table_bytes : List MintRow → List ℕ
table_bytes [] = []
table_bytes (r ∷ l) = mint_row r ++ table_bytes l

-- a mint that may be missing, as 32 bytes
unfoldable pub or_zero : Option Key → Key
or_zero none = zero_key
or_zero (some m) = m

-- the final mints of the first n key indexes, zero for those that have none
unfoldable pub mints_of : List MintRow → (ℕ → Key) → ℕ → List ℕ
mints_of l κ zero = []
mints_of l κ (suc i) = mints_of l κ i ++ or_zero (mint_in l (κ i))
