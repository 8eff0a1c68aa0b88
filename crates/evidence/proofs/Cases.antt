-- Worked cases of the definitions: each is computed. Assumes nothing.
use mathlib.Core.Path.{◌≡◌, refl}
use mathlib.Core.Option.{some}
use mathlib.Core.List.{List, [], ◌∷◌, ◌++◌, map}
use Prim.Native.Nat.{ℕ}
use lib.ListN.{replicate}
use Rattle.wire.specs.Same.{same}
use Rattle.wire.specs.Order.{lt_key}
use Rattle.ids.specs.Keys.{Key, zero_key}
use Rattle.evidence.specs.Table.{lookup}
use Rattle.evidence.specs.Evidence.{Evidence, put, note, note_all, recorded}
use Rattle.evidence.specs.Passes.{Transfers, fill, spread, step, pass}
use Rattle.evidence.specs.Run.{once_more, run}
use Rattle.evidence.specs.Infer.{run_from, infer}
use Rattle.evidence.specs.Sorted.{insert, sort}
use Rattle.evidence.specs.Final.{clean, final}
use Rattle.evidence.specs.Marks.{against, is_mint, gives, reaches, reaching, another, several, absent, mark_of}
use Rattle.evidence.specs.MintTable.{MintAnswer, mint_table, finish, mints}

-- evidence, plain transfers, and the answer that they have
abbrev pub Case : Type 0
Case = Evidence × Transfers × MintAnswer

-- the key of one byte, 32 times
unfoldable key : ℕ → Key
key n = replicate 32 n

-- A (1) is recorded with X (8)
unfoldable one : Evidence
one = (key 1, key 8) ∷ []

-- and B (2) with Y (9)
unfoldable two : Evidence
two = (key 1, key 8) ∷ (key 2, key 9) ∷ []

-- B has two mints
unfoldable clash : Evidence
clash = (key 2, key 8) ∷ (key 2, key 9) ∷ []

unfoldable nothing : MintAnswer
nothing = record { rows = []; room = 0; passes = 0 }

-- A alone
unfoldable alone : MintAnswer
alone = record { rows = (key 1, key 8, 0) ∷ []; room = 1; passes = 1 }

-- C (3) and D (4) filled in from A
unfoldable chain : ℕ → MintAnswer
chain n = record { rows = (key 1, key 8, 0) ∷ (key 3, key 8, 1) ∷ (key 4, key 8, 1) ∷ []; room = 3; passes = n }

-- A and B recorded, C and D between them filled in and in doubt
unfoldable between : Key → Key → MintAnswer
between c d = record { rows = (key 1, key 8, 0) ∷ (key 2, key 9, 0) ∷ (key 3, c, 2) ∷ (key 4, d, 2) ∷ []; room = 4; passes = 2 }

-- an ambiguous account alone: room, but no row
unfoldable ambiguous : MintAnswer
ambiguous = record { rows = []; room = 1; passes = 1 }

pub cases : List Case
cases =
    -- A to C, C to D: a pass sees what it has just added; and the other way round
    (one, (key 1, key 3) ∷ (key 3, key 4) ∷ [], chain 2)
    ∷ (one, (key 3, key 4) ∷ (key 1, key 3) ∷ [], chain 3)
    -- two mints; a third record, of the one and of the other; a transfer, which hands nothing on
    ∷ (clash, [], ambiguous)
    ∷ (clash ++ ((key 2, key 8) ∷ []), [], ambiguous)
    ∷ (clash ++ ((key 2, key 9) ∷ []), [], ambiguous)
    ∷ (clash, (key 2, key 3) ∷ [], ambiguous)
    -- nothing recorded, also by a zero account or a zero mint; transfers with the zero key
    ∷ ([], (key 1, key 3) ∷ [], nothing)
    ∷ ((zero_key, key 8) ∷ (key 1, zero_key) ∷ [], [], nothing)
    ∷ (one, (zero_key, key 1) ∷ (key 1, zero_key) ∷ (zero_key, key 3) ∷ [], alone)
    -- A filled in from its destination C, and sorted before it
    ∷ ((key 3, key 8) ∷ [], (key 1, key 3) ∷ [], record { rows = (key 1, key 8, 1) ∷ (key 3, key 8, 0) ∷ []; room = 2; passes = 2 })
    -- a transfer between two filled-in accounts marks both, one between two recorded accounts none
    ∷ (
      two,
      (key 1, key 3) ∷ (key 2, key 4) ∷ (key 3, key 4) ∷ [],
      between (key 8) (key 9),
    )
    ∷ (two, (key 1, key 2) ∷ [], record { rows = (key 1, key 8, 0) ∷ (key 2, key 9, 0) ∷ []; room = 2; passes = 1 })
    -- A to C, C to D, D to B: A's chain and B's go through both, whichever fills them in; one transfer more to E (5), which no other mint is beside
    ∷ (two, (key 1, key 3) ∷ (key 3, key 4) ∷ (key 4, key 2) ∷ [], between (key 8) (key 8))
    ∷ (two, (key 4, key 2) ∷ (key 3, key 4) ∷ (key 1, key 3) ∷ [], between (key 9) (key 9))
    ∷ (
      two,
      (key 1, key 3) ∷ (key 3, key 2) ∷ (key 3, key 4) ∷ (key 4, key 5) ∷ [],
      record { rows = (key 1, key 8, 0) ∷ (key 2, key 9, 0) ∷ (key 3, key 8, 2) ∷ (key 4, key 8, 2) ∷ (key 5, key 8, 2) ∷ []; room = 5; passes = 2 },
    )
    -- no chain runs through a recorded account: C to A, A to B leaves C sure
    ∷ (two, (key 3, key 1) ∷ (key 1, key 2) ∷ [], record { rows = (key 1, key 8, 0) ∷ (key 2, key 9, 0) ∷ (key 3, key 8, 1) ∷ []; room = 3; passes = 2 })
    -- two accounts with one mint put C in no doubt
    ∷ (
      (key 1, key 8) ∷ (key 2, key 8) ∷ [],
      (key 1, key 3) ∷ (key 2, key 3) ∷ [],
      record { rows = (key 1, key 8, 0) ∷ (key 2, key 8, 0) ∷ (key 3, key 8, 1) ∷ []; room = 3; passes = 2 },
    )
    -- an ambiguous account does not put C in doubt, nor does C itself, nor does a chain run through one: E (5), recorded with Y, pays it
    ∷ (
      clash ++ one,
      (key 2, key 3) ∷ (key 3, key 1) ∷ (key 3, key 3) ∷ [],
      record { rows = (key 1, key 8, 0) ∷ (key 3, key 8, 1) ∷ []; room = 3; passes = 2 },
    )
    ∷ (
      clash ++ one ++ ((key 5, key 9) ∷ []),
      (key 1, key 3) ∷ (key 3, key 2) ∷ (key 2, key 5) ∷ [],
      record { rows = (key 1, key 8, 0) ∷ (key 3, key 8, 1) ∷ (key 5, key 9, 0) ∷ []; room = 4; passes = 2 },
    )
    ∷ []

-- every case has its answer
pub worked : map (λ c. mints 512 c.0 c.1) cases ≡ map (λ c. some c.2) cases
unfolding cases key one two clash nothing alone chain between ambiguous zero_key same lt_key lookup put note note_all recorded fill spread step pass once_more run run_from infer clean insert sort final against is_mint gives reaches reaching another several absent mark_of mint_table finish mints
worked = refl
