-- Raydium CPMM. Its two discriminators are lent: `SWAP_BASE_IN` is the first eight bytes of the names, `SWAP_BASE_OUT` the next.
-- Assumes nothing.
use Rattle.std.specs.Prelude.{ℕ, Bool, true, false, cond, List, leb, Option, Some}
use Rattle.wire.specs.Le.{le}
use Rattle.swaps.specs.declared.Swap.{Swap}
use Rattle.swaps.specs.Data.{is, when, both}
use Rattle.swaps.specs.Draft.{stated, pairing}

-- `exact_in`: base in, or base out; where the two names are equal, base in
abbrev pub cpmm_form : List ℕ → List ℕ → Option Bool
cpmm_form names d = cond (is d (le 8 names 0)) (Some true) (when (is d (le 8 names 8)) (Some false))

-- its leg, `first` and `second` exchanged where it is not `exact_in`; the `explicit_pair` is accounts 10 and 11
abbrev pub cpmm_leg : List ℕ → Bool → Option Swap
cpmm_leg d exact = both d 8 (λ first second. Some (pairing (stated 3 3 0 4 5 exact first second) 10 11))

-- `swap` for RAYDIUM_CPMM_PROGRAM_ID: n accounts, data d; where the two names are equal, base in
unfoldable pub cpmm : List ℕ → ℕ → List ℕ → Option Swap
cpmm names n d = when (leb 13 n) (cond (is d (le 8 names 0)) (cpmm_leg d true) (when (is d (le 8 names 8)) (cpmm_leg d false)))
