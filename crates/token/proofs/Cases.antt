-- Worked instructions, computed: one that records without moving, and why instructions give no transfer.
-- Assumes nothing.
use mathlib.Core.Path.{◌≡◌, refl}
use mathlib.Core.Bool.{Bool, true, cond, ◌&&◌}
use mathlib.Core.List.{List, [], ◌∷◌}
use mathlib.Core.Option.{none}
use Prim.Native.Nat.{ℕ, suc}
use lib.Dec.{ltb, eqb}
use lib.ListN.{replicate}
use Rattle.wire.specs.Same.{same}
use Rattle.ids.specs.declared.Id.{Id}
use Rattle.ids.specs.declared.Id.TheVariants.{SplToken, Token2022, System, Other, Unresolved}
use Rattle.ids.specs.Keys.{Key, zero_key}
use Rattle.token.specs.Programs.{is_token, is_token2022}
use Rattle.token.specs.Tokens.{initialises, plain_transfer, checked_transfer, fee_transfer}
use Rattle.token.specs.Records.{both_ends, records}
use Rattle.token.specs.Transfers.{plainly, checked, transfer}
use Rattle.token.specs.Published.{transfer_layout, transfer_checked, transfer_checked_with_fee, total, size, starts, one_of, place, standing, role}
use Rattle.token.specs.Reasons.{transfer_layouts, begins_as, lacks_key, lacking, reason_among, reason}

-- n keys, none of them zero
abbrev pub keys_up_to : ℕ → ℕ → Key
keys_up_to n i = cond (ltb i n) (replicate 32 (suc i)) zero_key

-- a checked transfer whose source is past the keys: no transfer, and its destination is recorded all the same
pub apart : (transfer (keys_up_to 3) SplToken (255 ∷ 1 ∷ 2 ∷ 0 ∷ []) (12 ∷ replicate 9 0) ≡ none) × (records (keys_up_to 3) SplToken (255 ∷ 1 ∷ 2 ∷ 0 ∷ []) (12 ∷ replicate 9 0) ≡ (zero_key, keys_up_to 3 1) ∷ (keys_up_to 3 2, keys_up_to 3 1) ∷ [])
unfolding transfer records both_ends plainly checked zero_key same is_token is_token2022 initialises plain_transfer checked_transfer fee_transfer
apart = (refl, refl)

-- an instruction among three keys, none of them zero, by program, accounts and data; and its reason
pub record Explained : Type 0 where
  pub program : Id
  pub accounts : List ℕ
  pub bytes : List ℕ
  pub because : ℕ

abbrev pub explained : Id → List ℕ → List ℕ → ℕ → Explained
explained id accounts d n = record { program = id; accounts = accounts; bytes = d; because = n }

-- each reason, and what ends it: one thing more or another is right, and either it is a transfer or a later test fails
abbrev pub explanations : List Explained
explanations =
    -- 1: the same bytes under a token program
    explained Other (0 ∷ 1 ∷ 2 ∷ []) (3 ∷ replicate 8 0) 1
    ∷ explained Unresolved (0 ∷ 1 ∷ 2 ∷ []) (3 ∷ replicate 8 0) 1
    ∷ explained System [] [] 1
    ∷ explained SplToken (0 ∷ 1 ∷ 2 ∷ []) (3 ∷ replicate 8 0) 0
    ∷ explained Token2022 (0 ∷ 1 ∷ 2 ∷ []) (3 ∷ replicate 8 0) 0
    -- 2: the tag of a transfer
    ∷ explained SplToken (0 ∷ 1 ∷ 2 ∷ []) [] 2
    ∷ explained SplToken (0 ∷ 1 ∷ 2 ∷ []) (4 ∷ replicate 8 0) 2
    ∷ explained SplToken (0 ∷ 1 ∷ []) (1 ∷ []) 2
    ∷ explained SplToken (0 ∷ []) (17 ∷ []) 2
    ∷ explained SplToken (0 ∷ 1 ∷ 2 ∷ []) (9 ∷ []) 2
    -- tag 26: the byte after it, and the program
    ∷ explained Token2022 (0 ∷ 1 ∷ 2 ∷ 0 ∷ []) (26 ∷ []) 2
    ∷ explained Token2022 (0 ∷ 1 ∷ 2 ∷ 0 ∷ []) (26 ∷ 0 ∷ replicate 17 0) 2
    ∷ explained SplToken (0 ∷ 1 ∷ 2 ∷ 0 ∷ []) (26 ∷ 1 ∷ replicate 17 0) 2
    ∷ explained SplToken [] (26 ∷ 1 ∷ []) 2
    ∷ explained Token2022 (0 ∷ 1 ∷ 2 ∷ 0 ∷ []) (26 ∷ 1 ∷ replicate 17 0) 0
    -- 3: one account more, and then the data is looked at
    ∷ explained SplToken (0 ∷ 1 ∷ []) (3 ∷ []) 3
    ∷ explained SplToken (0 ∷ 1 ∷ 2 ∷ []) (3 ∷ []) 4
    ∷ explained SplToken (0 ∷ 1 ∷ []) (3 ∷ replicate 8 0) 3
    ∷ explained SplToken (0 ∷ 1 ∷ 2 ∷ []) (12 ∷ replicate 9 0) 3
    ∷ explained SplToken (0 ∷ 1 ∷ 2 ∷ 0 ∷ []) (12 ∷ replicate 9 0) 0
    ∷ explained Token2022 (0 ∷ 1 ∷ 2 ∷ []) (26 ∷ 1 ∷ []) 3
    ∷ explained Token2022 (0 ∷ 1 ∷ 2 ∷ 0 ∷ []) (26 ∷ 1 ∷ []) 4
    -- 4: one byte more, and then the keys are looked at
    ∷ explained SplToken (0 ∷ 1 ∷ 2 ∷ []) (3 ∷ replicate 7 0) 4
    ∷ explained SplToken (0 ∷ 1 ∷ 2 ∷ 0 ∷ []) (12 ∷ replicate 8 0) 4
    ∷ explained Token2022 (0 ∷ 1 ∷ 2 ∷ 0 ∷ []) (26 ∷ 1 ∷ replicate 16 0) 4
    ∷ explained SplToken (9 ∷ 1 ∷ 2 ∷ []) (3 ∷ replicate 7 0) 4
    ∷ explained SplToken (9 ∷ 1 ∷ 2 ∷ []) (3 ∷ replicate 8 0) 5
    -- 5: a key in the place of each that is missing; the authority is not asked for
    ∷ explained SplToken (0 ∷ 9 ∷ 2 ∷ []) (3 ∷ replicate 8 0) 5
    ∷ explained SplToken (0 ∷ 1 ∷ 9 ∷ []) (3 ∷ replicate 8 0) 0
    ∷ explained SplToken (9 ∷ 1 ∷ 2 ∷ 0 ∷ []) (12 ∷ replicate 9 0) 5
    ∷ explained SplToken (0 ∷ 9 ∷ 2 ∷ 0 ∷ []) (12 ∷ replicate 9 0) 5
    ∷ explained SplToken (0 ∷ 1 ∷ 9 ∷ 0 ∷ []) (12 ∷ replicate 9 0) 5
    ∷ explained SplToken (0 ∷ 1 ∷ 2 ∷ 9 ∷ []) (12 ∷ replicate 9 0) 0
    ∷ explained Token2022 (9 ∷ 1 ∷ 2 ∷ 0 ∷ []) (26 ∷ 1 ∷ replicate 17 0) 5
    ∷ explained Token2022 (0 ∷ 9 ∷ 2 ∷ 0 ∷ []) (26 ∷ 1 ∷ replicate 17 0) 5
    ∷ explained Token2022 (0 ∷ 1 ∷ 9 ∷ 0 ∷ []) (26 ∷ 1 ∷ replicate 17 0) 5
    ∷ []

unfoldable pub well_explained : List Explained → Bool
well_explained [] = true
well_explained (e ∷ es) = let rest = well_explained es in eqb (reason (keys_up_to 3) e.program e.accounts e.bytes) e.because && rest

pub reasons-explained : well_explained explanations ≡ true
unfolding well_explained reason reason_among transfer_layouts begins_as lacking lacks_key role standing place transfer_layout transfer_checked transfer_checked_with_fee total size starts one_of zero_key same is_token
reasons-explained = refl
