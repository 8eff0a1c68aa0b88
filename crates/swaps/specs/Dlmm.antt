-- Meteora DLMM. The price-impact forms pass or fail `validate_swap_layout`, and end without a leg either way.
-- Assumes nothing.
use Rattle.std.specs.Prelude.{ℕ, zero, suc, ◌+◌, ◌-◌, ◌/◌, Bool, true, false, cond, ◌&&◌, ◌||◌, List, leb, ltb, eqb, length, get_or, is_some, unwrap_or, Option, Some, None}
use Rattle.wire.specs.Le.{le}
use Rattle.swaps.specs.declared.Swap.{Swap}
use Rattle.swaps.specs.declared.dlmm.Slice.{Slice}
use Rattle.swaps.specs.Discriminators.{SWAP, SWAP2, SWAP_EXACT_OUT, SWAP_EXACT_OUT2}
use Rattle.swaps.specs.Data.{is, when, both}
use Rattle.swaps.specs.Draft.{stated}

-- `enum_size`, the bytes of a slice's tag: one for 0, 1, 2 and 4, two for 3; another tag is none
abbrev pub tag_size : ℕ → Option ℕ
tag_size tag = cond (ltb tag 3 || eqb tag 4) (Some 1) (cond (eqb tag 3) (Some 2) None)

-- the bytes of the tag at `at`, where it is one
abbrev pub size_at : List ℕ → ℕ → ℕ
size_at d at = unwrap_or (tag_size (get_or d at 0)) 0

-- a slice at `at` is whole: a known tag, and the length byte after it
abbrev pub is_slice : List ℕ → ℕ → Bool
is_slice d at = ltb at (length d) && (is_some (tag_size (get_or d at 0)) && ltb (at + size_at d at) (length d))

-- `length`: the accounts that the slice at `at` claims
abbrev pub claims : List ℕ → ℕ → ℕ
claims d at = get_or d (at + size_at d at) 0

-- the slice at `at`, where it is whole: where the next one starts, and the accounts that it claims
abbrev pub slice_at : List ℕ → ℕ → Option Slice
slice_at d at = when (is_slice d at) (Some (record { end = at + size_at d at + 1; claims = claims d at }))

-- the loop of `validate_swap_layout`: `count` slices from `at` on are whole, and with `used` before them claim no more than `remaining` accounts
unfoldable pub slices : List ℕ → ℕ → ℕ → ℕ → ℕ → Bool
slices d remaining zero at used = true
slices d remaining (suc count) at used =
    let rest = slices d remaining count (at + size_at d at + 1) (used + claims d at) in
    cond (is_slice d at && leb (used + claims d at) remaining) rest false

-- what it asks of a v2 form: a count of four bytes at 24, no more slices than there can be of two bytes each, and the loop
unfoldable pub slices_fit : ℕ → List ℕ → Bool
slices_fit n d = leb 28 (length d) && (leb (le 4 d 24) ((length d - 28) / 2) && slices d (n - 16) (le 4 d 24) 28 0)

-- `validate_swap_layout` is Some, of the four forms that make a leg: the accounts and the bytes that the form has are there
unfoldable pub swap_layout : ℕ → List ℕ → Bool
swap_layout n d =
    cond (is d SWAP || is d SWAP_EXACT_OUT) (leb 15 n && leb 24 (length d))
    (cond (is d SWAP2 || is d SWAP_EXACT_OUT2) (leb 16 n && slices_fit n d) false)

-- its leg, `first` and `second` exchanged where it is not `exact_in`
abbrev pub dlmm_leg : List ℕ → Bool → Option Swap
dlmm_leg d exact = both d 8 (λ first second. Some (stated 7 0 10 4 5 exact first second))

-- `swap` for METEORA_DLMM_PROGRAM_ID: n accounts, data d
unfoldable pub dlmm : ℕ → List ℕ → Option Swap
dlmm n d =
    when (swap_layout n d) (cond (is d SWAP || is d SWAP2) (dlmm_leg d true) (when (is d SWAP_EXACT_OUT || is d SWAP_EXACT_OUT2) (dlmm_leg d false)))
