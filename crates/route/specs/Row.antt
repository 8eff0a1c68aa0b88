-- A row of table 1.
-- Assumes nothing.
use Rattle.std.specs.Prelude.{ℕ, List, [], ◌∷◌, ◌++◌}
use Rattle.std.proofs.Math.Option.{Option, none, some}
use Rattle.wire.specs.Le.{le_bytes}
use Rattle.pack.specs.Invocation.{Position}

-- the bytes of a row
abbrev pub invocation_width : ℕ
invocation_width = 28

-- an optional number: flag, then four bytes
unfoldable pub flagged : Option ℕ → List ℕ
flagged none = 0 ∷ le_bytes 4 0
flagged (some x) = 1 ∷ le_bytes 4 x

-- position, end, bits, leg, parent, and why it gave no transfer
unfoldable pub invocation_row : Position → ℕ → ℕ → ℕ → ℕ → ℕ → List ℕ
invocation_row p end bits leg parent reason =
    le_bytes 4 p.outer ++ flagged p.inner ++ flagged p.height ++ le_bytes 4 end ++ (bits ∷ []) ++ le_bytes 4 leg ++ le_bytes 4 parent ++ (reason ∷ [])
