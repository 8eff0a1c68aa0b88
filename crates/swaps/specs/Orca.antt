-- Orca Whirlpool.
-- Assumes nothing.
use Rattle.std.specs.Prelude.{ℕ, Bool, cond, ◌&&◌, ◌||◌, List, leb, Option, Some}
use Rattle.wire.specs.Same.{same}
use Rattle.ids.specs.Keys.{Key}
use Rattle.swaps.specs.declared.Swap.{Swap}
use Rattle.swaps.specs.Discriminators.{SWAP, SWAP_V2}
use Rattle.swaps.specs.Data.{is, is_flag, flag, when, both}
use Rattle.swaps.specs.Draft.{bare_swap, pair_by}

-- the leg of `swap_disc`
abbrev pub orca_v1 : Bool → Bool → ℕ → ℕ → Swap
orca_v1 direction exact amount threshold = bare_swap 6 2 1 (cond direction 3 5) (cond direction 5 3) exact amount threshold

-- the leg of `swap_v2`; the `explicit_pair` goes by `input == a(7)`, two keys, and not by the direction
abbrev pub orca_v2 : (ℕ → Key) → Bool → Bool → ℕ → ℕ → Swap
orca_v2 a direction exact amount threshold =
    let input : ℕ = cond direction 7 9 in
    pair_by (same (a input) (a 7)) 5 6 (bare_swap 6 4 3 input (cond direction 9 7) exact amount threshold)

-- what is asked first: `swap_disc` with 11 accounts or `swap_v2` with 15, and a `direction`
abbrev pub orca_takes : ℕ → List ℕ → Bool
orca_takes n d = (is d SWAP || is d SWAP_V2) && (is_flag d 41 && leb (cond (is d SWAP_V2) 15 11) n)

-- `swap` for ORCA_WHIRLPOOL_PROGRAM_ID: n accounts, a their keys, data d
unfoldable pub orca : (ℕ → Key) → ℕ → List ℕ → Option Swap
orca a n d =
    let direction = flag d 41 in
    let exact = flag d 40 in
    when (orca_takes n d)
    (when (is_flag d 40)
    (both d 8 (λ amount threshold. Some (cond (is d SWAP_V2) (orca_v2 a direction exact amount threshold) (orca_v1 direction exact amount threshold)))))
