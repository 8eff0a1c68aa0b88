-- A row of the table of transfers: invocation, program, source, destination, mint flag and mint, amount, fee flag and fee.
-- Absent fields are zero.
-- Assumes nothing.
use Rattle.std.specs.Prelude.{ℕ, List, [], ◌∷◌, ◌++◌}
use Rattle.std.proofs.Math.Option.{Option, none, some}
use Rattle.wire.specs.Le.{le_bytes}
use Rattle.wire.specs.Zeros.{zeros}
use Rattle.ids.specs.Keys.{Key}
use Rattle.ids.specs.Mints.{mint_field}
use Rattle.token.specs.Transfers.{Transfer}

-- the bytes of a row
abbrev pub transfer_width : ℕ
transfer_width = 150

-- a flag and a number of eight bytes
abbrev pub fee_field : Option ℕ → List ℕ
fee_field none = zeros 9
fee_field (some f) = 1 ∷ le_bytes 8 f

unfoldable pub transfer_row : ℕ → Key → Option Key → Transfer → List ℕ
transfer_row i program mint t =
    le_bytes 4 i ++ program ++ t.source ++ t.destination ++ mint_field mint ++ le_bytes 8 t.amount ++ fee_field t.fee

-- the bytes that an instruction adds to the table
abbrev pub transfer_bytes : ℕ → Key → Option Key → Option Transfer → List ℕ
transfer_bytes i program mint none = []
transfer_bytes i program mint (some t) = transfer_row i program mint t
