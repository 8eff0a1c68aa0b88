-- PumpFun. Quoted names are those of the branch of `swap`.
-- Assumes nothing.
use Rattle.std.specs.Prelude.{ℕ, Bool, cond, not, ◌&&◌, ◌||◌, List, leb, Option, Some}
use Rattle.ids.specs.Keys.{Key}
use Rattle.ids.specs.Ids.{is_wrapped_sol}
use Rattle.swaps.specs.declared.Swap.{Swap}
use Rattle.swaps.specs.declared.pumpfun.Places.{Places}
use Rattle.swaps.specs.declared.pumpfun.Form.{Form}
use Rattle.swaps.specs.Discriminators.{BUY_V2, BUY_EXACT_QUOTE_IN_V2, SELL_V2, BUY_V3, BUY_EXACT_QUOTE_IN_V3, SELL_V3}
use Rattle.swaps.specs.Data.{is, when, both}
use Rattle.swaps.specs.Draft.{bare_swap, pair_by}

-- `v2`: a form of version 2
abbrev pub is_v2 : List ℕ → Bool
is_v2 d = is d BUY_V2 || is d BUY_EXACT_QUOTE_IN_V2 || is d SELL_V2

-- `v3`: a form of version 3
abbrev pub is_v3 : List ℕ → Bool
is_v3 d = is d BUY_V3 || is d BUY_EXACT_QUOTE_IN_V3 || is d SELL_V3

-- `buy`: no sell
abbrev pub is_buy : List ℕ → Bool
is_buy d = not (is d SELL_V3) && not (is d SELL_V2)

-- `exact`: the amount is the input's
abbrev pub is_exact : List ℕ → Bool
is_exact d = not (is d BUY_V3) && not (is d BUY_V2)

-- the accounts that a form needs
abbrev pub pump_fun_floor : Bool → Bool → ℕ
pump_fun_floor v2 buy = cond v2 (cond buy 27 26) 17

-- what is asked first: `v2 || v3`, and the accounts that the form needs
abbrev pub pump_fun_takes : Bool → Bool → Bool → ℕ → Bool
pump_fun_takes v2 v3 buy n = (v2 || v3) && leb (pump_fun_floor v2 buy) n

-- which form it is
abbrev pub pump_fun_form : List ℕ → Option Form
pump_fun_form d = when (is_v2 d || is_v3 d) (Some (record { v2 = is_v2 d; buy = is_buy d; exact = is_exact d }))

-- `(pool_index, user_index, base_account, quote_account)`: where a form's accounts stand
abbrev pub pump_fun_places : Bool → Places
pump_fun_places v2 = cond v2 (record { pool = 10; user = 13; base = 14; quote = 15 }) (record { pool = 5; user = 8; base = 9; quote = 10 })

-- its leg, from `source` to `dest`; the money side is the user where the quote is wrapped SOL, else the user's quote account
abbrev pub pump_fun_leg : Places → Bool → Bool → Bool → ℕ → ℕ → Swap
pump_fun_leg p wrapped buy exact amount threshold =
    let money = cond wrapped p.user p.quote in
    pair_by buy 2 1 (bare_swap 8 p.pool p.user (cond buy money p.base) (cond buy p.base money) exact amount threshold)

-- `swap` for PUMPFUN_PROGRAM_ID: n accounts, a their keys, data d
unfoldable pub pump_fun : (ℕ → Key) → ℕ → List ℕ → Option Swap
pump_fun a n d =
    let v2 = is_v2 d in
    let buy = is_buy d in
    when (pump_fun_takes v2 (is_v3 d) buy n)
    (both d 8 (λ amount threshold. Some (pump_fun_leg (pump_fun_places v2) (is_wrapped_sol (a 2)) buy (is_exact d) amount threshold)))
