-- A row of table 3, field by field as docs/FORMAT.md lists them.
-- Assumes nothing.
use Rattle.std.specs.Prelude.{ℕ, Bool, cond, List, [], ◌∷◌, ◌++◌, Option as Answer, unwrap_or}
use Rattle.wire.specs.Le.{le_bytes}
use Rattle.ids.specs.Keys.{Key, zero_key}
use Rattle.ids.specs.Mints.{is_mint, mint_field}
use Rattle.swaps.specs.Leg.{RouteLeg}

-- the bytes of a row
abbrev pub leg_width : ℕ
leg_width = 250

-- a test as a byte
abbrev pub bit : Bool → ℕ
bit b = cond b 1 0

-- exact-in, amount, threshold, mode, graduated
unfoldable pub end_bytes : Bool → ℕ → ℕ → ℕ → Bool → List ℕ
end_bytes exact amount threshold mode graduated = (bit exact ∷ []) ++ le_bytes 8 amount ++ le_bytes 8 threshold ++ (mode ∷ []) ++ (bit graduated ∷ [])

-- program, pool, trader, input, output
unfoldable pub key_bytes : Key → Key → Key → Key → Key → List ℕ
key_bytes program pool trader input output = program ++ pool ++ trader ++ input ++ output

-- invocation, protocol, the five keys, the mints of the input and of the output, and the rest
unfoldable pub leg_row : ℕ → Key → RouteLeg → List ℕ
leg_row invocation program l =
    le_bytes 4 invocation ++ (l.protocol ∷ []) ++ key_bytes program l.pool l.trader l.input l.output
    ++ mint_field l.input_mint ++ mint_field l.output_mint
    ++ end_bytes l.exact l.amount l.threshold l.mode l.graduated

-- the bytes that a mint's field is made of: the mint handed in, else the pair's key, else the stand-in
abbrev pub side : List ℕ → Answer Key → Key
side m explicit = cond (is_mint m) m (unwrap_or explicit zero_key)
