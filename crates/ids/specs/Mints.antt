-- A mint that may be absent, as bytes.
-- Assumes nothing.
use Rattle.std.specs.Prelude.{ℕ, Bool, cond, not, ◌&&◌, List, ◌∷◌, eqb, length}
use Rattle.std.proofs.Math.Option.{Option, none, some}
use Rattle.wire.specs.Zeros.{zeros}
use Rattle.ids.specs.Keys.{Key, is_zero}

-- 32 bytes that are not all zero
unfoldable pub is_mint : List ℕ → Bool
is_mint m = eqb (length m) 32 && not (is_zero m)

-- a mint that is handed over as 32 bytes; zero, or of another length, it is none
unfoldable pub mint_of : List ℕ → Option Key
mint_of m = cond (is_mint m) (some m) none

-- its field in a row: a flag and 32 bytes, all zero where it is absent
abbrev pub mint_field : Option Key → List ℕ
mint_field none = zeros 33
mint_field (some m) = 1 ∷ m
