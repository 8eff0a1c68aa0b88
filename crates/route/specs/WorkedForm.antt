-- The form of a worked case: a pack in its parts, and the bytes that are to be seen in what the call leaves of it. Rows are written out by the
-- offsets of docs/FORMAT.md, apart from the definitions that make them.
-- Assumes nothing.
use Rattle.std.specs.Prelude.{ℕ, List, [], ◌∷◌, ◌++◌, map, get_or}
use Rattle.std.proofs.lemmas.List.Edits.{sets}
use Rattle.wire.specs.Zeros.{zeros}
use Rattle.ids.specs.Keys.{Key}
use Rattle.ids.specs.Ids.{id_at}
use Rattle.pack.specs.Items.{rows}
use Rattle.route.specs.Route.{Lent, Routed}
use Rattle.route.specs.MarkedCases.{key}

-- what a case looks at, and what stands there
pub data Shown : Type 0 where
  -- the rows of tables 0 to 4, whole
  mints_are invocations-are transfers_are legs_are natives-are : List (List ℕ) → Shown
  -- in table 1: byte 18 of each row, byte 27 of each row
  bits_are reasons-are : List ℕ → Shown
  -- number and place of the answer
  answers : ℕ → ℕ → Shown

-- the same looked at in what a call leaves
abbrev pub shown : Routed → Shown → Shown
shown r (mints_are l) = mints_are (rows 65 r.answer.mints r.mints)
shown r (invocations-are l) = invocations-are (rows 28 r.answer.invocations r.invocations)
shown r (transfers_are l) = transfers_are (rows 150 r.answer.transfers r.transfers)
shown r (legs_are l) = legs_are (rows 250 r.answer.legs r.legs)
shown r (natives-are l) = natives-are (rows 109 r.answer.natives r.natives)
shown r (bits_are l) = bits_are (map (λ (x : List ℕ). get_or x 18 0) (rows 28 r.answer.invocations r.invocations))
shown r (reasons-are l) = reasons-are (map (λ (x : List ℕ). get_or x 27 0) (rows 28 r.answer.invocations r.invocations))
shown r (answers n k) = answers r.answer.number r.answer.place

-- the number that the answer then has
abbrev pub due : Shown → ℕ
due (mints_are l) = 0
due (invocations-are l) = 0
due (transfers_are l) = 0
due (legs_are l) = 0
due (natives-are l) = 0
due (bits_are l) = 0
due (reasons-are l) = 0
due (answers n k) = n

-- a row of n bytes: pieces at their offsets, and zeros where none stands
unfoldable pub row : ℕ → List (ℕ × List ℕ) → List ℕ
row n [] = zeros n
row n (x ∷ l) = sets (row n l) x.0 x.1

-- two numbers of eight bytes, all different
unfoldable pub first : List ℕ
first = 1 ∷ 2 ∷ 3 ∷ 4 ∷ 5 ∷ 6 ∷ 7 ∷ 8 ∷ []

unfoldable pub second : List ℕ
second = 9 ∷ 10 ∷ 11 ∷ 12 ∷ 13 ∷ 14 ∷ 15 ∷ 16 ∷ []

-- two keys that no account has, for the platform configs
abbrev pub standard : Key
standard = key 200

abbrev pub reward : Key
reward = key 201

-- the discriminators that are lent: CPMM `swap_base_input` and `swap_base_output`, PumpSwap `buy`
abbrev pub swap_base_in : List ℕ
swap_base_in = 143 ∷ 190 ∷ 90 ∷ 218 ∷ 196 ∷ 30 ∷ 51 ∷ 222 ∷ []

abbrev pub swap_base_out : List ℕ
swap_base_out = 55 ∷ 217 ∷ 98 ∷ 86 ∷ 163 ∷ 74 ∷ 180 ∷ 173 ∷ []

abbrev pub buy : List ℕ
buy = 102 ∷ 6 ∷ 61 ∷ 18 ∷ 1 ∷ 218 ∷ 235 ∷ 234 ∷ []

-- the names, and the configs behind them
unfoldable pub names : List ℕ
names = swap_base_in ++ swap_base_out ++ buy ++ standard ++ reward

-- tables with room for the rows of every case: in table 1 for 19, and for all but a byte of another
unfoldable pub worked_room : Lent
worked_room = record { mints = 520; invocations = 559; transfers = 750; legs = 500; natives = 327 }

-- rows of the table of ids
abbrev pub spl_token : Key
spl_token = id_at 0

abbrev pub token2022 : Key
token2022 = id_at 1

abbrev pub wrapped_sol : Key
wrapped_sol = id_at 2
