-- Raydium CLMM.
-- Assumes nothing.
use Rattle.std.specs.Prelude.{ℕ, Bool, cond, ◌&&◌, ◌||◌, List, leb, Option, Some}
use Rattle.swaps.specs.declared.Swap.{Swap}
use Rattle.swaps.specs.Discriminators.{SWAP, SWAP_V2}
use Rattle.swaps.specs.Data.{is, is_flag, flag, when, both}
use Rattle.swaps.specs.Draft.{bare_swap, pairing}

-- the branch's condition: `swap_disc` with 10 accounts or `swap_v2` with 13
abbrev pub clmm_takes : ℕ → List ℕ → Bool
clmm_takes n d = (is d SWAP || is d SWAP_V2) && leb (cond (is d SWAP_V2) 13 10) n

-- its leg; only `swap_v2` has an `explicit_pair`
abbrev pub clmm_leg : Bool → Bool → ℕ → ℕ → Swap
clmm_leg v2 exact amount threshold =
    let s = bare_swap 5 2 0 3 4 exact amount threshold in
    cond v2 (pairing s 11 12) s

-- `swap` for RAYDIUM_CLMM_PROGRAM_ID: n accounts, data d
unfoldable pub clmm : ℕ → List ℕ → Option Swap
clmm n d =
    when (clmm_takes n d)
    (when (is_flag d 40)
    (both d 8 (λ amount threshold. Some (clmm_leg (is d SWAP_V2) (flag d 40) amount threshold))))
