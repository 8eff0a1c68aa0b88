-- Raydium AMM V4. Data that is empty has no tag; read as 0 it is none of the four.
-- Assumes nothing.
use Rattle.std.specs.Prelude.{ℕ, ◌-◌, Bool, cond, ◌&&◌, ◌||◌, List, leb, eqb, get_or, Option, Some}
use Rattle.swaps.specs.declared.Swap.{Swap}
use Rattle.swaps.specs.Data.{when, both}
use Rattle.swaps.specs.Draft.{stated}

-- the leg of `Some(16 | 17)`
abbrev pub short_leg : List ℕ → Bool → Option Swap
short_leg d exact = both d 1 (λ first second. Some (stated 4 1 7 5 6 exact first second))

-- the branch for it
abbrev pub amm_v4_short : ℕ → List ℕ → Option Swap
amm_v4_short tag d = short_leg d (eqb tag 16)

-- the leg of `Some(9 | 11)`; `shift`: with 17 accounts `target_orders` is not among them, and those after it stand one place earlier
abbrev pub long_leg : ℕ → List ℕ → Bool → Option Swap
long_leg n d exact =
    let shift : ℕ = cond (eqb n 17) 1 0 in
    both d 1 (λ first second. Some (stated 4 1 (17 - shift) (15 - shift) (16 - shift) exact first second))

-- the branch for it
abbrev pub amm_v4_long : ℕ → ℕ → List ℕ → Option Swap
amm_v4_long tag n d = long_leg n d (eqb tag 9)

-- `swap` for RAYDIUM_AMM_V4_PROGRAM_ID: n accounts, data d
unfoldable pub amm_v4 : ℕ → List ℕ → Option Swap
amm_v4 n d =
    let tag = get_or d 0 0 in
    cond ((eqb tag 16 || eqb tag 17) && leb 8 n) (amm_v4_short tag d) (when ((eqb tag 9 || eqb tag 11) && leb 17 n) (amm_v4_long tag n d))
