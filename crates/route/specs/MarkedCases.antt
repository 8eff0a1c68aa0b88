-- The marked cases a to k, in one list: a pack in its parts, and what is to be seen in what the call leaves of it.
-- Assumes nothing.
use Rattle.std.specs.Prelude.{ℕ, suc, List, [], ◌∷◌, ◌++◌, map, replicate, take, drop}
use Rattle.std.proofs.Math.Option.{Option, none, some}
use Rattle.wire.specs.Le.{le, le_bytes}
use Rattle.wire.specs.Zeros.{zeros}
use Rattle.ids.specs.Keys.{Key}
use Rattle.ids.specs.Ids.{id_at}
use Rattle.ids.specs.Which.{number_of}
use Rattle.ids.specs.declared.Id.{Id}
use Rattle.ids.specs.declared.Id.TheVariants.{SplToken, Token2022, PumpSwap, AmmV4, Dlmm}
use Rattle.pack.specs.Invocation.{Instruction, Position}
use Rattle.pack.specs.Group.{Group}
use Rattle.pack.specs.Items.{rows, height_at}
use Rattle.pack.specs.View.{View}
use Rattle.pack.specs.Flatten.{outermost}
use Rattle.swaps.specs.Discriminators.{SELL, SWAP2}
use Rattle.evidence.specs.MintTable.{MintRow}
use Rattle.wire.specs.Tab.{tab}
use Rattle.route.specs.Widths.{invocation_width, leg_width}
use Rattle.route.specs.Route.{Routed}
use Rattle.route.specs.Order.{mints_left}

-- what a case looks at, and what stands there
pub data Outcome : Type 0 where
  -- in table 3: trader, input and output of each leg
  legs_are : List (Key × Key × Key) → Outcome
  -- in table 1: the end of each invocation, and its parent; then the tests
  blocks_are : List ℕ → List ℕ → ℕ → Outcome
  -- in table 1: the position of each invocation
  order_is : List Position → Outcome
  -- in table 0: account, mint and mark of each row; then the passes
  mints_are : List MintRow → ℕ → Outcome
  -- how many rows table 2 has
  transfers_are : ℕ → Outcome

-- a leg's row: trader at 69, input at 101, output at 133
abbrev pub parties_read : List ℕ → Key × Key × Key
parties_read x = (take 32 (drop 69 x), take 32 (drop 101 x), take 32 (drop 133 x))

-- an invocation's row: outer at 0, inner index at 4 and height at 9, each after its flag; end at 14, parent at 23
abbrev pub position_read : List ℕ → Position
position_read x = record { outer = le 4 x 0; inner = height_at x 4; height = height_at x 9 }

abbrev pub end_read : List ℕ → ℕ
end_read x = le 4 x 14

abbrev pub parent_read : List ℕ → ℕ
parent_read x = le 4 x 23

-- the same looked at in what a call leaves
abbrev pub seen : Routed → Outcome → Outcome
seen r (legs_are l) = legs_are (map parties_read (rows leg_width r.answer.legs r.legs))
seen r (blocks_are l m n) =
    let found = rows invocation_width r.answer.invocations r.invocations in
    blocks_are (map end_read found) (map parent_read found) r.answer.tests
seen r (order_is l) = order_is (map position_read (rows invocation_width r.answer.invocations r.invocations))
seen r (mints_are l n) = mints_are (mints_left r) r.answer.passes
seen r (transfers_are n) = transfers_are r.answer.transfers

-- account i of a case is key i
unfoldable pub key : ℕ → Key
key i = replicate 32 (suc i)

-- one leg, by the accounts that are its trader, input and output; no leg
abbrev pub one_leg : ℕ → ℕ → ℕ → Outcome
one_leg trader input output = legs_are ((key trader, key input, key output) ∷ [])

abbrev pub no_leg : Outcome
no_leg = legs_are []

-- n accounts, then the keys of programs
abbrev pub keys_with : ℕ → List Key → List (ℕ × Key)
keys_with n programs = tab (λ i. (1, key i)) 0 n ++ map (λ (k : Key). (1, k)) programs

-- one program's; n is its index
abbrev pub keys_for : Id → ℕ → List (ℕ × Key)
keys_for program n = keys_with n (id_at (number_of program) ∷ [])

-- an instruction: the index of its program's key, the indexes of its accounts, its data
abbrev pub calls : ℕ → List ℕ → List ℕ → Instruction
calls program accounts d = record { program = program; accounts = accounts; bytes = d }

-- keys, balances, outer instructions and groups; no pool has graduated
abbrev pub saying : List (ℕ × Key) → List (ℕ × Key) → List Instruction → List (Group Instruction) → View
saying keys balances outer groups = record { keys = keys; balances = balances; outer = outer; groups = groups; pools = [] }

-- one instruction: a program, its number of accounts, its data
abbrev pub one : Id → ℕ → List ℕ → View
one program n d = saying (keys_for program n) [] (calls n (tab (λ i. i) 0 n) d ∷ []) []

-- an instruction of no known program, without accounts and data
abbrev pub bare : Instruction
bare = calls 0 [] []

-- an outer instruction with two inner ones: height 2, and another height or none
abbrev pub family : Option ℕ → View
family h = saying [] [] (bare ∷ []) (record { index = 0; items = (some 2, bare) ∷ (h, bare) ∷ [] } ∷ [])

-- two outer instructions, and groups of outer 1, 0 and 1 with one instruction each, told apart by heights 2, 3 and 4
abbrev pub crossed : View
crossed =
    saying [] [] (bare ∷ bare ∷ [])
    (record { index = 1; items = (some 2, bare) ∷ [] } ∷ record { index = 0; items = (some 3, bare) ∷ [] } ∷ record { index = 1; items = (some 4, bare) ∷ [] } ∷ [])

-- the first instruction of a group: its outer instruction and its height
abbrev pub led : ℕ → ℕ → Position
led o h = record { outer = o; inner = some 0; height = some h }

-- accounts 0, 1 and 2; two mints
abbrev pub A : Key
A = key 0

abbrev pub B : Key
B = key 1

abbrev pub C : Key
C = key 2

abbrev pub X : Key
X = key 8

abbrev pub Y : Key
Y = key 9

-- a plain transfer from one of these accounts to another
abbrev pub pays : ℕ → ℕ → Instruction
pays a b = calls 3 (a ∷ b ∷ a ∷ []) (3 ∷ zeros 8)

-- A is recorded with X and B with Y; then SPL Token makes transfers
abbrev pub meeting : List Instruction → View
meeting transfers = saying (keys_for SplToken 3) ((0, X) ∷ (1, Y) ∷ []) transfers []

-- PumpSwap's SELL, and DLMM's SWAP2 with what follows its two numbers
abbrev pub sell_data : List ℕ
sell_data = le_bytes 8 SELL ++ zeros 16

abbrev pub swap2_data : List ℕ → List ℕ
swap2_data l = le_bytes 8 SWAP2 ++ zeros 16 ++ l

unfoldable pub cases : List (View × Outcome)
cases =
    -- a: AMM V4 tag 9 with 17 accounts: trader 16, input 14, output 15
    (one AmmV4 17 (9 ∷ zeros 16), one_leg 16 14 15)
    -- b: with 18 each of them stands one place later
    ∷ (one AmmV4 18 (9 ∷ zeros 16), one_leg 17 15 16)
    -- c: PumpSwap takes 17 accounts and 21, not 16, 18 or 20
    ∷ (one PumpSwap 16 sell_data, no_leg)
    ∷ (one PumpSwap 17 sell_data, one_leg 1 5 6)
    ∷ (one PumpSwap 18 sell_data, no_leg)
    ∷ (one PumpSwap 20 sell_data, no_leg)
    ∷ (one PumpSwap 21 sell_data, one_leg 1 5 6)
    -- d: heights 2 and 3: ends 3, 3, 3, each in the block of the one before it, and two tests
    ∷ (family (some 3), blocks_are (3 ∷ 3 ∷ 3 ∷ []) (0 ∷ 1 ∷ 2 ∷ []) 2)
    -- e: the second height absent: the first inner ends before it, both are the outer one's, and one test more
    ∷ (family none, blocks_are (3 ∷ 2 ∷ 3 ∷ []) (0 ∷ 1 ∷ 1 ∷ []) 3)
    -- f: A to C, then B to C: C is X, in doubt, after 2 passes; reversed, Y
    ∷ (meeting (pays 0 2 ∷ pays 1 2 ∷ []), mints_are ((A, X, 0) ∷ (B, Y, 0) ∷ (C, X, 2) ∷ []) 2)
    ∷ (meeting (pays 1 2 ∷ pays 0 2 ∷ []), mints_are ((A, X, 0) ∷ (B, Y, 0) ∷ (C, Y, 2) ∷ []) 2)
    -- g: outer 0, the second group, outer 1, the first group, the third
    ∷ (crossed, order_is (outermost 0 ∷ led 0 3 ∷ outermost 1 ∷ led 1 2 ∷ led 1 4 ∷ []))
    -- h: a transfer with fee of 18 bytes is none, of 19 it is one
    ∷ (one Token2022 4 (26 ∷ 1 ∷ zeros 16), transfers_are 0)
    ∷ (one Token2022 4 (26 ∷ 1 ∷ zeros 17), transfers_are 1)
    -- i: SWAP2 of 24 bytes, without a count of slices, is no leg; of 28 with count 0 it is
    ∷ (one Dlmm 16 (swap2_data []), no_leg)
    ∷ (one Dlmm 16 (swap2_data (zeros 4)), one_leg 10 4 5)
    -- j: one slice that claims two accounts after the fixed 16: no leg of 17, a leg of 18
    ∷ (one Dlmm 17 (swap2_data (1 ∷ 0 ∷ 0 ∷ 0 ∷ 3 ∷ 0 ∷ 2 ∷ [])), no_leg)
    ∷ (one Dlmm 18 (swap2_data (1 ∷ 0 ∷ 0 ∷ 0 ∷ 3 ∷ 0 ∷ 2 ∷ [])), one_leg 10 4 5)
    -- k: initialise data [1] records a mint, [1, 0] nothing
    ∷ (one SplToken 2 (1 ∷ []), mints_are ((key 0, key 1, 0) ∷ []) 1)
    ∷ (one SplToken 2 (1 ∷ 0 ∷ []), mints_are [] 0)
    ∷ []
