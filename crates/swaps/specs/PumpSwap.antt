-- PumpSwap. `BUY` is lent: bytes 16 to 24 of the names.
-- Assumes nothing.
use Rattle.std.specs.Prelude.{ℕ, Bool, true, false, cond, ◌&&◌, ◌||◌, List, leb, ltb, eqb, length, Option, Some}
use Rattle.wire.specs.Le.{le}
use Rattle.wire.specs.Same.{same}
use Rattle.ids.specs.Keys.{Key}
use Rattle.swaps.specs.declared.Swap.{Swap}
use Rattle.swaps.specs.declared.draft.Form.{Form}
use Rattle.swaps.specs.Discriminators.{BUY_EXACT_QUOTE_IN, BUY_EXACT_QUOTE_IN_V2, BUY_V2, SELL, SELL_V2}
use Rattle.swaps.specs.Data.{is, is_flag, when, both}
use Rattle.swaps.specs.Draft.{bare_swap, pair_by}

-- the branch's condition: exactly 17 accounts, or 21 up
abbrev pub pump_swap_takes : ℕ → Bool
pump_swap_takes n = leb 21 n || eqb n 17

-- whether it buys, and whether it is `exact_in`; BUY that is `BUY_EXACT_QUOTE_IN` is exact-in, BUY that is `SELL` a buy
abbrev pub pump_swap_form : List ℕ → List ℕ → Option Form
pump_swap_form names d =
    cond (is d BUY_EXACT_QUOTE_IN || is d BUY_EXACT_QUOTE_IN_V2) (Some (record { buy = true; exact = true }))
    (cond (is d (le 8 names 16) || is d BUY_V2) (Some (record { buy = true; exact = false }))
    (when (is d SELL || is d SELL_V2) (Some (record { buy = false; exact = true }))))

-- `read_option_bool_idl(ix.data, 24)?` where it is asked: a buy's byte 24, where it is there, is 0 or 1; a sell's is not looked at
abbrev pub track_volume : List ℕ → Bool → Bool
track_volume d buy = cond (buy && ltb 24 (length d)) (is_flag d 24) true

-- its leg; the `explicit_pair` goes by `input == a(6)`, two keys, and not by the direction
abbrev pub pump_swap_leg : (ℕ → Key) → List ℕ → Bool → Bool → Option Swap
pump_swap_leg a d buy exact =
    let input : ℕ = cond buy 6 5 in
    when (track_volume d buy)
    (both d 8 (λ amount threshold. Some (pair_by (same (a input) (a 6)) 4 3 (bare_swap 1 0 1 input (cond buy 5 6) exact amount threshold))))

-- `swap` for PUMPSWAP_PROGRAM_ID: n accounts, a their keys, data d; BUY that is `BUY_EXACT_QUOTE_IN` is exact-in, BUY that is `SELL` a buy
unfoldable pub pump_swap : List ℕ → (ℕ → Key) → ℕ → List ℕ → Option Swap
pump_swap names a n d =
    when (pump_swap_takes n)
    (cond (is d BUY_EXACT_QUOTE_IN || is d BUY_EXACT_QUOTE_IN_V2) (pump_swap_leg a d true true)
    (cond (is d (le 8 names 16) || is d BUY_V2) (pump_swap_leg a d true false)
    (when (is d SELL || is d SELL_V2) (pump_swap_leg a d false true))))
