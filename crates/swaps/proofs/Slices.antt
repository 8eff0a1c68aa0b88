-- The walk over the slices of a DLMM instruction: what each turn cites.
-- Assumes nothing.
use Rattle.std.proofs.Common.{◌≡◌, ℕ, suc, ◌+◌, ◌-◌, ◌≤◌, ◌<◌, Bool, true, false, cond, ◌&&◌, ◌||◌, List, arith, refl, leb, ltb, eqb}
use Rattle.std.specs.Prelude.{Option, Some, None, unwrap_or}
use Rattle.swaps.specs.declared.dlmm.Slice.{Slice}
use Rattle.swaps.specs.Data.{when}
use Rattle.swaps.specs.Dlmm.{tag_size, slice_at, slices}

-- a tag has at most two bytes
pub tag_small : (tag : ℕ) → unwrap_or (tag_size tag) 0 ≤ 2
tag_small tag = go (ltb tag 3 || eqb tag 4) (eqb tag 3)
  where
    go : (one two : Bool) → unwrap_or (cond one (Some 1) (cond two (Some 2) None)) 0 ≤ 2
    go true two = omega arith
    go false true = omega arith
    go false false = omega arith

-- the walk goes on with a slice that is whole
abbrev pub goes_on : Option Slice → (Slice → Bool) → Bool
goes_on None f = false
goes_on (Some s) f = f s

on : (t : Bool) (s : Slice) (f : Slice → Bool) → goes_on (when t (Some s)) f ≡ (t && f s)
on true s f = refl
on false s f = refl

joined : (t u rest : Bool) → cond (t && u) rest false ≡ (t && (u && rest))
joined true true rest = refl
joined true false rest = refl
joined false u rest = refl

module _ (d : List ℕ) (remaining count i at used : ℕ) where
  -- no slice is left
  pub ended : count ≤ i → slices d remaining (count - i) at used ≡ true
  unfolding slices
  ended h =
      let s : count - i ≡ 0 = omega arith in
      rw s

  -- the next one is looked at
  pub walked : i < count
      → slices d remaining (count - i) at used ≡ goes_on (slice_at d at) (λ s. leb (used + s.claims) remaining && slices d remaining (count - (i + 1)) s.end (used + s.claims))
  unfolding slices
  walked h =
      let s : count - i ≡ suc (count - (i + 1)) = omega arith in
      rw (s, on, joined)
