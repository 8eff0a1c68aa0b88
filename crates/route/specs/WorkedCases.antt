-- The worked cases, in one list: whole rows of each table, the programs that are passed over, the limit of keys, the room of table 1, and the legs of
-- WorkedLegs. A number of the data has bytes that are all different, and every account its own key, so that exchanged places show.
-- Assumes nothing.
use Rattle.std.specs.Prelude.{ℕ, List, [], ◌∷◌, ◌++◌, map, set, replicate}
use Rattle.std.proofs.Math.Option.{some}
use Rattle.wire.specs.Zeros.{zeros}
use Rattle.ids.specs.Keys.{Key}
use Rattle.ids.specs.Ids.{id_at}
use Rattle.ids.specs.declared.Id.{Id}
use Rattle.ids.specs.declared.Id.TheVariants.{PumpFun, LaunchLab, PumpSwap, Cpmm, AmmV4, Orca}
use Rattle.pack.specs.View.{View}
use Rattle.wire.specs.Tab.{tab}
use Rattle.route.specs.MarkedCases.{key, keys_with, keys_for, calls, saying, bare, family, X, Y}
use Rattle.route.specs.WorkedForm.{Shown, mints_are, invocations-are, transfers_are, legs_are, natives-are, bits_are, reasons-are, answers, row, first, second, standard, reward, swap_base_in, spl_token, token2022, wrapped_sol}
use Rattle.route.specs.WorkedLegs.{leg_cases, swap_v2, sell_exact_in, buy_exact_in, buy_v3, sell_v3, buy_v2, sell_v2, sell_bytes, worked_leg_row, parties, mint_pair, pair_of_accounts, exact_in, exact_out, exchanged, numbers, directed}

-- table 0: account at 0, mint at 32, mark at 64
abbrev pub held_row : ℕ → Key → ℕ → List ℕ
held_row account mint mark = row 65 ((0, key account) ∷ (32, mint) ∷ (64, mark ∷ []) ∷ [])

-- accounts 0 and 1 are recorded with X and Y, and both pay account 2; account 0 pays account 3 as well
abbrev pub doubted : View
doubted =
    saying (keys_with 4 (spl_token ∷ [])) ((0, X) ∷ (1, Y) ∷ [])
    (calls 4 (0 ∷ 2 ∷ 1 ∷ []) (3 ∷ first) ∷ calls 4 (1 ∷ 2 ∷ 0 ∷ []) (3 ∷ first) ∷ calls 4 (0 ∷ 3 ∷ 1 ∷ []) (3 ∷ first) ∷ [])
    []

-- accounts 0 and 1 are recorded so, and transfers run from the one over accounts 2 and 3 to the other
abbrev pub between : View
between =
    saying (keys_with 4 (spl_token ∷ [])) ((0, X) ∷ (1, Y) ∷ [])
    (calls 4 (0 ∷ 2 ∷ 1 ∷ []) (3 ∷ first) ∷ calls 4 (2 ∷ 3 ∷ 1 ∷ []) (3 ∷ first) ∷ calls 4 (3 ∷ 1 ∷ 0 ∷ []) (3 ∷ first) ∷ [])
    []

-- they are recorded so, account 2 pays the one, and the one the other
abbrev pub beyond : View
beyond =
    saying (keys_with 4 (spl_token ∷ [])) ((0, X) ∷ (1, Y) ∷ [])
    (calls 4 (2 ∷ 0 ∷ 1 ∷ []) (3 ∷ first) ∷ calls 4 (0 ∷ 1 ∷ 2 ∷ []) (3 ∷ first) ∷ [])
    []

-- table 1: outer at 0, inner after its flag at 4, height after its flag at 9, end at 14, bits at 18, leg at 19, parent at 23, reason at 27
abbrev pub invoked : ℕ → List ℕ → List ℕ → ℕ → ℕ → ℕ → ℕ → ℕ → List ℕ
invoked outer inner height end bits shown_leg parent because =
    row 28 ((0, outer ∷ []) ∷ (4, inner) ∷ (9, height) ∷ (14, end ∷ []) ∷ (18, bits ∷ []) ∷ (19, shown_leg ∷ []) ∷ (23, parent ∷ []) ∷ (27, because ∷ []) ∷ [])

-- an unknown program calls AMM V4, which calls SPL Token at a height of four bytes; a program that no key has; AMM V4 again
abbrev pub nested : View
nested =
    saying (keys_with 8 (id_at 11 ∷ spl_token ∷ key 100 ∷ [])) []
    (calls 10 [] [] ∷ calls 99 [] [] ∷ calls 8 (tab (λ i. i) 0 8) (17 ∷ numbers) ∷ [])
    (record { index = 0; items = (some 2, calls 8 (tab (λ i. i) 0 8) (16 ∷ numbers)) ∷ (some 67305985, calls 9 (0 ∷ 1 ∷ 2 ∷ []) (3 ∷ first)) ∷ [] } ∷ [])

-- each id, a zero key, another key, two keys without a flag, and an index that no key has
abbrev pub programs : View
programs =
    saying (tab (λ i. (1, id_at i)) 0 14 ++ ((1, zeros 32) ∷ (1, key 0) ∷ (0, id_at 0) ∷ (0, zeros 32) ∷ [])) []
    (tab (λ i. calls i [] []) 0 19) []

-- table 2: invocation at 0, program at 4, source at 36, destination at 68, mint after its flag at 100, amount at 133, fee after its flag at 141
abbrev pub paid : ℕ → Key → ℕ → ℕ → List ℕ → List ℕ → List ℕ
paid invocation program source destination mint fee =
    row 150 ((0, invocation ∷ []) ∷ (4, program) ∷ (36, key source) ∷ (68, key destination) ∷ (100, mint) ∷ (133, first) ∷ (141, fee) ∷ [])

-- account 0 is recorded with X; then SPL Token plain and checked, and Token-2022 plain, checked and with a fee
abbrev pub payments : View
payments =
    saying (keys_with 16 (spl_token ∷ token2022 ∷ [])) ((0, X) ∷ [])
    (calls 16 (0 ∷ 1 ∷ 2 ∷ []) (3 ∷ first)
    ∷ calls 16 (2 ∷ 3 ∷ 4 ∷ 5 ∷ []) (12 ∷ first ++ (9 ∷ []))
    ∷ calls 17 (5 ∷ 6 ∷ 7 ∷ []) (3 ∷ first)
    ∷ calls 17 (8 ∷ 9 ∷ 10 ∷ 11 ∷ []) (12 ∷ first ++ (9 ∷ []))
    ∷ calls 17 (12 ∷ 13 ∷ 14 ∷ 15 ∷ []) (26 ∷ 1 ∷ first ++ (20 ∷ []) ++ second)
    ∷ [])
    []

-- a transfer; the same of another program, and of one that no key has; no data; tag 26 under SPL Token, and under Token-2022; an account and data missing, data
-- alone, and the fee alone; a destination that no key is, and such a mint
abbrev pub explained : View
explained =
    saying (keys_with 4 (spl_token ∷ token2022 ∷ key 100 ∷ [])) []
    (calls 4 (0 ∷ 1 ∷ 2 ∷ []) (3 ∷ first)
    ∷ calls 6 (0 ∷ 1 ∷ 2 ∷ []) (3 ∷ first)
    ∷ calls 99 (0 ∷ 1 ∷ 2 ∷ []) (3 ∷ first)
    ∷ calls 4 (0 ∷ 1 ∷ 2 ∷ []) []
    ∷ calls 4 (0 ∷ 1 ∷ 2 ∷ 3 ∷ []) (26 ∷ 1 ∷ first ++ (20 ∷ []) ++ second)
    ∷ calls 5 (0 ∷ 1 ∷ 2 ∷ 3 ∷ []) (26 ∷ 1 ∷ first ++ (20 ∷ []) ++ second)
    ∷ calls 4 (0 ∷ 1 ∷ []) (3 ∷ [])
    ∷ calls 4 (0 ∷ 1 ∷ 2 ∷ []) (3 ∷ [])
    ∷ calls 5 (0 ∷ 1 ∷ 2 ∷ 3 ∷ []) (26 ∷ 1 ∷ first)
    ∷ calls 4 (0 ∷ 99 ∷ 2 ∷ []) (3 ∷ first)
    ∷ calls 5 (0 ∷ 99 ∷ 2 ∷ 3 ∷ []) (12 ∷ first ++ (9 ∷ []))
    ∷ [])
    []

-- one instruction of n accounts, account i of which is the key of index j; further keys stand behind the program's
abbrev pub altered : Id → ℕ → ℕ → ℕ → List Key → List ℕ → View
altered program n i j more d =
    saying (keys_for program n ++ map (λ (k : Key). (1, k)) more) [] (calls n (set (tab (λ k. k) 0 n) i j) d ∷ []) []

-- one instruction, with balances and graduated pools
abbrev pub backed : Id → ℕ → List (ℕ × Key) → List Key → List ℕ → View
backed program n balances pools d =
    record { keys = keys_for program n; balances = balances; outer = calls n (tab (λ k. k) 0 n) d ∷ []; groups = []; pools = pools }

-- one leg
abbrev pub shown_leg : Id → ℕ → List (ℕ × List ℕ) → Shown
shown_leg program protocol l = legs_are (worked_leg_row program protocol l ∷ [])

-- table 4: invocation at 0, kind at 4, account at 5, and further pieces
abbrev pub acted : ℕ → ℕ → ℕ → List (ℕ × List ℕ) → List ℕ
acted invocation kind account l = row 109 ((0, invocation ∷ []) ∷ (4, kind ∷ []) ∷ (5, key account) ∷ l)

-- accounts 1, 2 and 3 hold wrapped SOL: the first is funded, the second synced, the third closed; account 0, which has no mint, is synced
abbrev pub wrapping : View
wrapping =
    saying (keys_with 6 (zeros 32 ∷ spl_token ∷ token2022 ∷ [])) ((1, wrapped_sol) ∷ (2, wrapped_sol) ∷ (3, wrapped_sol) ∷ [])
    (calls 7 (0 ∷ []) (17 ∷ []) ∷ calls 6 (0 ∷ 1 ∷ []) (2 ∷ 0 ∷ 0 ∷ 0 ∷ first) ∷ calls 7 (2 ∷ []) (17 ∷ []) ∷ calls 8 (3 ∷ 4 ∷ 5 ∷ []) (9 ∷ []) ∷ [])
    []

-- keys, and nothing else; outer instructions, and nothing else
abbrev pub keyed : ℕ → View
keyed n = saying (replicate n (1, zeros 32)) [] [] []

abbrev pub outers : ℕ → View
outers n = saying [] [] (replicate n bare) []

unfoldable pub row_cases : List (View × Shown)
row_cases =
    -- table 0: recorded, recorded, in doubt, filled in
    (doubted, mints_are (held_row 0 X 0 ∷ held_row 1 Y 0 ∷ held_row 2 X 2 ∷ held_row 3 X 1 ∷ []))
    -- doubt travels the whole chain, and does not pass a recorded account
    ∷ (between, mints_are (held_row 0 X 0 ∷ held_row 1 Y 0 ∷ held_row 2 X 2 ∷ held_row 3 X 2 ∷ []))
    ∷ (beyond, mints_are (held_row 0 X 0 ∷ held_row 1 Y 0 ∷ held_row 2 X 1 ∷ []))
    -- table 1: bits 1 + 2 + 8, 1 + 8 + 16, 4 + 8 + 32, none, 8 + 16; legs 1 and 2; a chain of parents, and the next two outers have none; the third
    -- is a transfer, and the others are of no token program
    ∷ (
      nested,
      invocations-are
          (invoked 0 [] (1 ∷ 1 ∷ []) 3 11 0 0 1
          ∷ invoked 0 (1 ∷ 0 ∷ []) (1 ∷ 2 ∷ []) 3 25 1 1 1
          ∷ invoked 0 (1 ∷ 1 ∷ []) (1 ∷ 1 ∷ 2 ∷ 3 ∷ 4 ∷ []) 3 44 0 2 0
          ∷ invoked 1 [] (1 ∷ 1 ∷ []) 4 0 0 0 1
          ∷ invoked 2 [] (1 ∷ 1 ∷ []) 5 24 2 0 1
          ∷ []),
    )
    -- equal heights are no descent: the first inner one's block is empty, and both have the outer one as parent
    ∷ (
      family (some 2),
      invocations-are
          (invoked 0 [] (1 ∷ 1 ∷ []) 3 0 0 0 1
          ∷ invoked 0 (1 ∷ 0 ∷ []) (1 ∷ 2 ∷ []) 2 0 0 1 1
          ∷ invoked 0 (1 ∷ 1 ∷ []) (1 ∷ 2 ∷ []) 3 0 0 1 1
          ∷ []),
    )
    -- passed over are the token programs, Compute Budget, Associated Token, Memo and System, and not wrapped SOL, the eight protocols and another key;
    -- what is not resolved has no bits
    ∷ (programs, bits_are (12 ∷ 12 ∷ 8 ∷ 12 ∷ 12 ∷ 12 ∷ 8 ∷ 8 ∷ 8 ∷ 8 ∷ 8 ∷ 8 ∷ 8 ∷ 8 ∷ 12 ∷ 8 ∷ 0 ∷ 0 ∷ 0 ∷ []))
    -- why there is no transfer: of no token program, unsupported tag, too few accounts, data too short, zero key
    ∷ (explained, reasons-are (0 ∷ 1 ∷ 1 ∷ 2 ∷ 2 ∷ 0 ∷ 3 ∷ 4 ∷ 4 ∷ 5 ∷ 5 ∷ []))
    -- without data a token program's instruction has no tag; what is not resolved is of no token program
    ∷ (programs, reasons-are (2 ∷ 2 ∷ replicate 17 1))
    -- table 2: fee 0, fee 0, not known, not known, named; the third one's mint is absent
    ∷ (
      payments,
      transfers_are
          (paid 0 spl_token 0 1 (1 ∷ X) (1 ∷ [])
          ∷ paid 1 spl_token 2 4 (1 ∷ key 3) (1 ∷ [])
          ∷ paid 2 token2022 5 6 [] []
          ∷ paid 3 token2022 8 10 (1 ∷ key 9) []
          ∷ paid 4 token2022 12 14 (1 ∷ key 13) (1 ∷ second)
          ∷ []),
    )
    -- table 3: the legs of invocations 1 and 4
    ∷ (
      nested,
      legs_are
          (worked_leg_row AmmV4 4 ((0, 1 ∷ []) ∷ parties 1 7 5 6 ++ exact_in)
          ∷ worked_leg_row AmmV4 4 ((0, 4 ∷ []) ∷ parties 1 7 5 6 ++ exchanged)
          ∷ []),
    )
    -- known mints win over the pair, each side by itself; of three pools in the list only CPMM's has graduated
    ∷ (backed Cpmm 13 ((4, X) ∷ (5, Y) ∷ []) (key 3 ∷ []) (swap_base_in ++ numbers), shown_leg Cpmm 3 (parties 3 0 4 5 ++ mint_pair X Y ++ exact_in ++ ((249, 1 ∷ []) ∷ [])))
    ∷ (backed PumpSwap 17 ((6, Y) ∷ []) (key 0 ∷ []) (sell_bytes ++ numbers), shown_leg PumpSwap 1 (parties 0 1 5 6 ++ mint_pair (key 3) Y ++ exact_in))
    ∷ (backed AmmV4 8 ((5, X) ∷ []) (key 1 ∷ []) (16 ∷ numbers), shown_leg AmmV4 4 (parties 1 7 5 6 ++ ((165, 1 ∷ X) ∷ []) ++ exact_in))
    -- a mint of the pair that no key has is absent
    ∷ (altered Cpmm 13 10 255 [] (swap_base_in ++ numbers), shown_leg Cpmm 3 (parties 3 0 4 5 ++ ((198, 1 ∷ key 11) ∷ []) ++ exact_in))
    -- LaunchLab's mode at 248, by its account 3
    ∷ (altered LaunchLab 15 3 16 (standard ∷ []) (buy_exact_in ++ numbers), shown_leg LaunchLab 2 (parties 4 0 6 5 ++ pair_of_accounts 10 9 ++ exact_in ++ ((248, 1 ∷ []) ∷ [])))
    ∷ (altered LaunchLab 15 3 16 (reward ∷ []) (buy_exact_in ++ numbers), shown_leg LaunchLab 2 (parties 4 0 6 5 ++ pair_of_accounts 10 9 ++ exact_in ++ ((248, 2 ∷ []) ∷ [])))
    -- two equal token accounts turn the pair of a sell, and of Orca's `swap_v2` against the direction
    ∷ (altered LaunchLab 15 6 5 [] (sell_exact_in ++ numbers), shown_leg LaunchLab 2 (parties 4 0 5 5 ++ pair_of_accounts 10 9 ++ exact_in))
    ∷ (altered PumpSwap 17 6 5 [] (sell_bytes ++ numbers), shown_leg PumpSwap 1 (parties 0 1 5 5 ++ pair_of_accounts 4 3 ++ exact_in))
    ∷ (altered Orca 15 9 7 [] (swap_v2 ++ directed 1 0), shown_leg Orca 6 (parties 4 3 7 7 ++ pair_of_accounts 5 6 ++ exact_in))
    -- PumpFun's money side is the user where account 2 is wrapped SOL
    ∷ (altered PumpFun 17 2 18 (wrapped_sol ∷ []) (buy_v3 ++ numbers), shown_leg PumpFun 8 (parties 5 8 8 9 ++ mint_pair wrapped_sol (key 1) ++ exact_out))
    ∷ (altered PumpFun 17 2 18 (wrapped_sol ∷ []) (sell_v3 ++ numbers), shown_leg PumpFun 8 (parties 5 8 9 8 ++ mint_pair (key 1) wrapped_sol ++ exact_in))
    ∷ (altered PumpFun 27 2 28 (wrapped_sol ∷ []) (buy_v2 ++ numbers), shown_leg PumpFun 8 (parties 10 13 13 14 ++ mint_pair wrapped_sol (key 1) ++ exact_out))
    ∷ (altered PumpFun 26 2 27 (wrapped_sol ∷ []) (sell_v2 ++ numbers), shown_leg PumpFun 8 (parties 10 13 14 13 ++ mint_pair (key 1) wrapped_sol ++ exact_in))
    -- table 4: fund with source at 37 and lamports at 101; sync; close with destination at 37 and authority at 69
    ∷ (
      wrapping,
      natives-are
          (acted 1 1 1 ((37, key 0) ∷ (101, first) ∷ [])
          ∷ acted 2 2 2 []
          ∷ acted 3 3 3 ((37, key 4) ∷ (69, key 5) ∷ [])
          ∷ []),
    )
    ∷ []

-- 256 keys are taken, 257 refused
unfoldable pub key_cases : List (View × Shown)
key_cases = (keyed 256, answers 0 0) ∷ (keyed 257, answers 5 0) ∷ []

-- 19 invocations have room in the 559 bytes of table 1, 20 have not
unfoldable pub room_cases : List (View × Shown)
room_cases = (outers 19, answers 0 0) ∷ (outers 20, answers 8 1) ∷ []

unfoldable pub worked : List (View × Shown)
worked = row_cases ++ key_cases ++ room_cases ++ leg_cases
