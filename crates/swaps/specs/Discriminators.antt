-- The first eight bytes of each instruction that makes a leg, by its name in the original's `discriminators`, beside the two of `swap` itself.
-- The three that are lent (CPMM's two and PumpSwap's `BUY`) stand in the names.
-- Assumes nothing.
use Rattle.std.specs.Prelude.{ℕ, ◌+◌, ◌*◌}

-- eight bytes as one number, the first byte lowest
abbrev pub eight : ℕ → ℕ → ℕ → ℕ → ℕ → ℕ → ℕ → ℕ → ℕ
eight a b c d e f g h = a + 256 * (b + 256 * (c + 256 * (d + 256 * (e + 256 * (f + 256 * (g + 256 * h))))))

-- CLMM, Orca and DLMM
abbrev pub SWAP : ℕ
SWAP = eight 248 198 158 145 225 117 135 200

-- CLMM and Orca
abbrev pub SWAP_V2 : ℕ
SWAP_V2 = eight 43 4 237 11 26 201 30 98

-- DLMM
abbrev pub SWAP2 : ℕ
SWAP2 = eight 65 75 63 76 235 91 91 136

abbrev pub SWAP_EXACT_OUT : ℕ
SWAP_EXACT_OUT = eight 250 73 101 33 38 207 75 184

abbrev pub SWAP_EXACT_OUT2 : ℕ
SWAP_EXACT_OUT2 = eight 43 215 247 132 137 60 243 81

-- LaunchLab
abbrev pub BUY_EXACT_IN : ℕ
BUY_EXACT_IN = eight 250 234 13 123 213 156 19 236

abbrev pub SELL_EXACT_IN : ℕ
SELL_EXACT_IN = eight 149 39 222 155 211 124 152 26

abbrev pub BUY_EXACT_OUT : ℕ
BUY_EXACT_OUT = eight 24 211 116 40 105 3 153 56

abbrev pub SELL_EXACT_OUT : ℕ
SELL_EXACT_OUT = eight 95 200 71 34 8 9 11 166

-- PumpFun
abbrev pub BUY_V3 : ℕ
BUY_V3 = eight 7 5 29 196 245 23 101 80

abbrev pub BUY_EXACT_QUOTE_IN_V3 : ℕ
BUY_EXACT_QUOTE_IN_V3 = eight 225 247 80 30 213 179 132 136

abbrev pub SELL_V3 : ℕ
SELL_V3 = eight 28 146 222 119 38 196 105 213

-- PumpFun and PumpSwap
abbrev pub BUY_V2 : ℕ
BUY_V2 = eight 184 23 238 97 103 197 211 61

abbrev pub BUY_EXACT_QUOTE_IN_V2 : ℕ
BUY_EXACT_QUOTE_IN_V2 = eight 194 171 28 70 104 77 91 47

abbrev pub SELL_V2 : ℕ
SELL_V2 = eight 93 246 130 60 231 233 64 178

-- PumpSwap
abbrev pub BUY_EXACT_QUOTE_IN : ℕ
BUY_EXACT_QUOTE_IN = eight 198 46 21 82 180 217 232 112

abbrev pub SELL : ℕ
SELL = eight 51 230 133 164 1 127 131 173
