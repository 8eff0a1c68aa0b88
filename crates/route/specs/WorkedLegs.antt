-- One leg for each form of each protocol, with the least accounts and the least data that make it: account i is key i, and the two numbers of the data share no byte.
-- Assumes nothing.
use Rattle.std.specs.Prelude.{ℕ, ◌-◌, List, [], ◌∷◌, ◌++◌, map, length, take}
use Rattle.wire.specs.Zeros.{zeros}
use Rattle.ids.specs.Keys.{Key}
use Rattle.ids.specs.Ids.{id_at}
use Rattle.ids.specs.Which.{number_of}
use Rattle.ids.specs.declared.Id.{Id}
use Rattle.ids.specs.declared.Id.TheVariants.{PumpFun, LaunchLab, PumpSwap, Clmm, Cpmm, AmmV4, Orca, Dlmm}
use Rattle.pack.specs.View.{View}
use Rattle.wire.specs.Tab.{tab}
use Rattle.route.specs.MarkedCases.{key, keys_for, calls, saying}
use Rattle.route.specs.WorkedForm.{Shown, legs_are, row, first, second, swap_base_in, swap_base_out, buy}

-- the first eight bytes of each form, as the original's `swap_bytes` and `discriminators` list them
abbrev pub swap_bytes : List ℕ
swap_bytes = 248 ∷ 198 ∷ 158 ∷ 145 ∷ 225 ∷ 117 ∷ 135 ∷ 200 ∷ []

abbrev pub swap_v2 : List ℕ
swap_v2 = 43 ∷ 4 ∷ 237 ∷ 11 ∷ 26 ∷ 201 ∷ 30 ∷ 98 ∷ []

abbrev pub swap2_bytes : List ℕ
swap2_bytes = 65 ∷ 75 ∷ 63 ∷ 76 ∷ 235 ∷ 91 ∷ 91 ∷ 136 ∷ []

abbrev pub swap_exact_out : List ℕ
swap_exact_out = 250 ∷ 73 ∷ 101 ∷ 33 ∷ 38 ∷ 207 ∷ 75 ∷ 184 ∷ []

abbrev pub swap_exact_out2 : List ℕ
swap_exact_out2 = 43 ∷ 215 ∷ 247 ∷ 132 ∷ 137 ∷ 60 ∷ 243 ∷ 81 ∷ []

abbrev pub buy_exact_in : List ℕ
buy_exact_in = 250 ∷ 234 ∷ 13 ∷ 123 ∷ 213 ∷ 156 ∷ 19 ∷ 236 ∷ []

abbrev pub sell_exact_in : List ℕ
sell_exact_in = 149 ∷ 39 ∷ 222 ∷ 155 ∷ 211 ∷ 124 ∷ 152 ∷ 26 ∷ []

abbrev pub buy_exact_out : List ℕ
buy_exact_out = 24 ∷ 211 ∷ 116 ∷ 40 ∷ 105 ∷ 3 ∷ 153 ∷ 56 ∷ []

abbrev pub sell_exact_out : List ℕ
sell_exact_out = 95 ∷ 200 ∷ 71 ∷ 34 ∷ 8 ∷ 9 ∷ 11 ∷ 166 ∷ []

abbrev pub buy_v3 : List ℕ
buy_v3 = 7 ∷ 5 ∷ 29 ∷ 196 ∷ 245 ∷ 23 ∷ 101 ∷ 80 ∷ []

abbrev pub buy_exact_quote_in_v3 : List ℕ
buy_exact_quote_in_v3 = 225 ∷ 247 ∷ 80 ∷ 30 ∷ 213 ∷ 179 ∷ 132 ∷ 136 ∷ []

abbrev pub sell_v3 : List ℕ
sell_v3 = 28 ∷ 146 ∷ 222 ∷ 119 ∷ 38 ∷ 196 ∷ 105 ∷ 213 ∷ []

abbrev pub buy_v2 : List ℕ
buy_v2 = 184 ∷ 23 ∷ 238 ∷ 97 ∷ 103 ∷ 197 ∷ 211 ∷ 61 ∷ []

abbrev pub buy_exact_quote_in_v2 : List ℕ
buy_exact_quote_in_v2 = 194 ∷ 171 ∷ 28 ∷ 70 ∷ 104 ∷ 77 ∷ 91 ∷ 47 ∷ []

abbrev pub sell_v2 : List ℕ
sell_v2 = 93 ∷ 246 ∷ 130 ∷ 60 ∷ 231 ∷ 233 ∷ 64 ∷ 178 ∷ []

abbrev pub buy_exact_quote_in : List ℕ
buy_exact_quote_in = 198 ∷ 46 ∷ 21 ∷ 82 ∷ 180 ∷ 217 ∷ 232 ∷ 112 ∷ []

abbrev pub sell_bytes : List ℕ
sell_bytes = 51 ∷ 230 ∷ 133 ∷ 164 ∷ 1 ∷ 127 ∷ 131 ∷ 173 ∷ []

-- a leg's row: protocol at 4, program at 5, and further pieces
abbrev pub worked_leg_row : Id → ℕ → List (ℕ × List ℕ) → List ℕ
worked_leg_row program protocol l = row 250 ((4, protocol ∷ []) ∷ (5, id_at (number_of program)) ∷ l)

-- the accounts that are pool, trader, input and output: at 37, 69, 101 and 133
abbrev pub parties : ℕ → ℕ → ℕ → ℕ → List (ℕ × List ℕ)
parties pool trader input output = (37, key pool) ∷ (69, key trader) ∷ (101, key input) ∷ (133, key output) ∷ []

-- the mints of input and output: flags at 165 and 198, each before its mint
abbrev pub mint_pair : Key → Key → List (ℕ × List ℕ)
mint_pair x y = (165, 1 ∷ x) ∷ (198, 1 ∷ y) ∷ []

-- where they are two of the accounts
abbrev pub pair_of_accounts : ℕ → ℕ → List (ℕ × List ℕ)
pair_of_accounts x y = mint_pair (key x) (key y)

-- exact-in at 231, amount at 232, threshold at 240: the numbers as the data has them, and exchanged
abbrev pub exact_in : List (ℕ × List ℕ)
exact_in = (231, 1 ∷ []) ∷ (232, first) ∷ (240, second) ∷ []

abbrev pub exact_out : List (ℕ × List ℕ)
exact_out = (232, first) ∷ (240, second) ∷ []

abbrev pub exchanged : List (ℕ × List ℕ)
exchanged = (232, second) ∷ (240, first) ∷ []

-- the two numbers after a tag; then a price limit and a flag, then a direction
abbrev pub numbers : List ℕ
numbers = first ++ second

abbrev pub limited : ℕ → List ℕ
limited exact = numbers ++ zeros 16 ++ (exact ∷ [])

abbrev pub directed : ℕ → ℕ → List ℕ
directed exact direction = limited exact ++ (direction ∷ [])

-- a form: its program, its number of accounts, its data, and its protocol's number with what else stands in the row
abbrev pub Form : Type 0
Form = Id × ℕ × List ℕ × ℕ × List (ℕ × List ℕ)

-- the form with an account less, with a byte less, and whole: the last alone, invocation 2, is a leg
abbrev pub bounded : Form → View × Shown
bounded f =
    let n = f.1 in
    let d = f.2 in (
      saying (keys_for f.0 n) []
          (calls n (tab (λ i. i) 0 (n - 1)) d ∷ calls n (tab (λ i. i) 0 n) (take (length d - 1) d) ∷ calls n (tab (λ i. i) 0 n) d ∷ []) [],
      legs_are (worked_leg_row f.0 f.3 ((0, 2 ∷ []) ∷ f.4) ∷ []),
    )

unfoldable pub forms : List Form
forms =
    -- CLMM, 41 bytes: `swap_v2` names its mints
    (Clmm, 10, swap_bytes ++ limited 1, 5, parties 2 0 3 4 ++ exact_in)
    ∷ (Clmm, 13, swap_v2 ++ limited 0, 5, parties 2 0 3 4 ++ pair_of_accounts 11 12 ++ exact_out)
    -- Orca, 42 bytes: the direction exchanges input and output, and the mints of `swap_v2`
    ∷ (Orca, 11, swap_bytes ++ directed 1 1, 6, parties 2 1 3 5 ++ exact_in)
    ∷ (Orca, 11, swap_bytes ++ directed 0 0, 6, parties 2 1 5 3 ++ exact_out)
    ∷ (Orca, 15, swap_v2 ++ directed 0 1, 6, parties 4 3 7 9 ++ pair_of_accounts 5 6 ++ exact_out)
    ∷ (Orca, 15, swap_v2 ++ directed 1 0, 6, parties 4 3 9 7 ++ pair_of_accounts 6 5 ++ exact_in)
    -- CPMM, 24 bytes, as LaunchLab, PumpFun and PumpSwap have
    ∷ (Cpmm, 13, swap_base_in ++ numbers, 3, parties 3 0 4 5 ++ pair_of_accounts 10 11 ++ exact_in)
    ∷ (Cpmm, 13, swap_base_out ++ numbers, 3, parties 3 0 4 5 ++ pair_of_accounts 10 11 ++ exchanged)
    -- DLMM, 24 bytes, and 28 with a count of slices, here 0
    ∷ (Dlmm, 15, swap_bytes ++ numbers, 7, parties 0 10 4 5 ++ exact_in)
    ∷ (Dlmm, 15, swap_exact_out ++ numbers, 7, parties 0 10 4 5 ++ exchanged)
    ∷ (Dlmm, 16, swap2_bytes ++ numbers ++ zeros 4, 7, parties 0 10 4 5 ++ exact_in)
    ∷ (Dlmm, 16, swap_exact_out2 ++ numbers ++ zeros 4, 7, parties 0 10 4 5 ++ exchanged)
    -- LaunchLab
    ∷ (LaunchLab, 15, buy_exact_in ++ numbers, 2, parties 4 0 6 5 ++ pair_of_accounts 10 9 ++ exact_in)
    ∷ (LaunchLab, 15, sell_exact_in ++ numbers, 2, parties 4 0 5 6 ++ pair_of_accounts 9 10 ++ exact_in)
    ∷ (LaunchLab, 15, buy_exact_out ++ numbers, 2, parties 4 0 6 5 ++ pair_of_accounts 10 9 ++ exact_out)
    ∷ (LaunchLab, 15, sell_exact_out ++ numbers, 2, parties 4 0 5 6 ++ pair_of_accounts 9 10 ++ exact_out)
    -- PumpFun
    ∷ (PumpFun, 17, buy_v3 ++ numbers, 8, parties 5 8 10 9 ++ pair_of_accounts 2 1 ++ exact_out)
    ∷ (PumpFun, 17, buy_exact_quote_in_v3 ++ numbers, 8, parties 5 8 10 9 ++ pair_of_accounts 2 1 ++ exact_in)
    ∷ (PumpFun, 17, sell_v3 ++ numbers, 8, parties 5 8 9 10 ++ pair_of_accounts 1 2 ++ exact_in)
    ∷ (PumpFun, 27, buy_v2 ++ numbers, 8, parties 10 13 15 14 ++ pair_of_accounts 2 1 ++ exact_out)
    ∷ (PumpFun, 27, buy_exact_quote_in_v2 ++ numbers, 8, parties 10 13 15 14 ++ pair_of_accounts 2 1 ++ exact_in)
    ∷ (PumpFun, 26, sell_v2 ++ numbers, 8, parties 10 13 14 15 ++ pair_of_accounts 1 2 ++ exact_in)
    -- PumpSwap: 17 accounts, or 21 up
    ∷ (PumpSwap, 17, buy_exact_quote_in ++ numbers, 1, parties 0 1 6 5 ++ pair_of_accounts 4 3 ++ exact_in)
    ∷ (PumpSwap, 21, buy_exact_quote_in_v2 ++ numbers, 1, parties 0 1 6 5 ++ pair_of_accounts 4 3 ++ exact_in)
    ∷ (PumpSwap, 17, buy ++ numbers, 1, parties 0 1 6 5 ++ pair_of_accounts 4 3 ++ exact_out)
    ∷ (PumpSwap, 21, buy_v2 ++ numbers, 1, parties 0 1 6 5 ++ pair_of_accounts 4 3 ++ exact_out)
    ∷ (PumpSwap, 17, sell_bytes ++ numbers, 1, parties 0 1 5 6 ++ pair_of_accounts 3 4 ++ exact_in)
    ∷ (PumpSwap, 21, sell_v2 ++ numbers, 1, parties 0 1 5 6 ++ pair_of_accounts 3 4 ++ exact_in)
    -- AMM V4, 17 bytes, by its tag
    ∷ (AmmV4, 8, 16 ∷ numbers, 4, parties 1 7 5 6 ++ exact_in)
    ∷ (AmmV4, 8, 17 ∷ numbers, 4, parties 1 7 5 6 ++ exchanged)
    ∷ (AmmV4, 17, 9 ∷ numbers, 4, parties 1 16 14 15 ++ exact_in)
    ∷ (AmmV4, 17, 11 ∷ numbers, 4, parties 1 16 14 15 ++ exchanged)
    ∷ []

unfoldable pub leg_cases : List (View × Shown)
leg_cases = map bounded forms
