-- Raydium LaunchLab.
-- Assumes nothing.
use Rattle.std.specs.Prelude.{ℕ, Bool, true, false, cond, List, leb, take, drop, Option, Some}
use Rattle.wire.specs.Same.{same}
use Rattle.ids.specs.Keys.{Key}
use Rattle.swaps.specs.declared.Swap.{Swap}
use Rattle.swaps.specs.declared.draft.Form.{Form}
use Rattle.swaps.specs.Discriminators.{BUY_EXACT_IN, SELL_EXACT_IN, BUY_EXACT_OUT, SELL_EXACT_OUT}
use Rattle.swaps.specs.Data.{is, when, both}
use Rattle.swaps.specs.Draft.{bare_swap, pair_by, in_mode}

-- `stonkfun_mode_from_platform_config`: the lent standard config gives 1, the reward config 2, any other key 0
abbrev pub mode_of : List ℕ → Key → ℕ
mode_of names config =
    cond (same config (take 32 (drop 24 names))) 1 (cond (same config (take 32 (drop 56 names))) 2 0)

-- whether it buys, and whether it is `exact_in`
abbrev pub launch_lab_form : List ℕ → Option Form
launch_lab_form d =
    cond (is d BUY_EXACT_IN) (Some (record { buy = true; exact = true }))
    (cond (is d SELL_EXACT_IN) (Some (record { buy = false; exact = true }))
    (cond (is d BUY_EXACT_OUT) (Some (record { buy = true; exact = false }))
    (when (is d SELL_EXACT_OUT) (Some (record { buy = false; exact = false })))))

-- its leg; the `explicit_pair` goes by `input == a(6)`, two keys, and not by the direction
abbrev pub launch_lab_leg : List ℕ → (ℕ → Key) → List ℕ → Bool → Bool → Option Swap
launch_lab_leg names a d buy exact =
    let input : ℕ = cond buy 6 5 in
    let output : ℕ = cond buy 5 6 in
    both d 8 (λ amount threshold.
    Some (in_mode (mode_of names (a 3)) (pair_by (same (a input) (a 6)) 10 9 (bare_swap 2 4 0 input output exact amount threshold))))

-- `swap` for RAYDIUM_LAUNCHLAB_PROGRAM_ID: n accounts, a their keys, data d
unfoldable pub launch_lab : List ℕ → (ℕ → Key) → ℕ → List ℕ → Option Swap
launch_lab names a n d =
    when (leb 15 n)
    (cond (is d BUY_EXACT_IN) (launch_lab_leg names a d true true)
    (cond (is d SELL_EXACT_IN) (launch_lab_leg names a d false true)
    (cond (is d BUY_EXACT_OUT) (launch_lab_leg names a d true false)
    (when (is d SELL_EXACT_OUT) (launch_lab_leg names a d false false)))))
