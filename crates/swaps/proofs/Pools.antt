-- The search among graduated pools, by chunks of 32 bytes.
-- Assumes nothing.
use Rattle.std.proofs.Common.{◌≡◌, ℕ, zero, suc, ◌+◌, ◌||◌, List, [], ◌∷◌, length, get_or, take, drop, refl, sym, ap, ◌∙◌, add-zero, arith}
use Rattle.std.specs.List.{list_any, range_with_len}
use Rattle.std.specs.Simd.{first_chunks}
use Rattle.wire.specs.Same.{same}
use Rattle.ids.specs.Keys.{Key}
use Rattle.pack.specs.Items.{rows}
use Rattle.swaps.specs.Leg.{contains}

-- a key is among the rows if one of them is it
pub contains-any : (ps : List Key) (k : Key) → contains ps k ≡ list_any (λ p. same p k) ps
unfolding contains
contains-any [] k = refl
contains-any (p ∷ ps) k = ap (λ b. same p k || b) (contains-any ps k)

-- the first n chunks are the first n rows
pub rows-chunks : (w n : ℕ) (s : List ℕ) → first_chunks w n s ≡ rows w n s
unfolding rows
rows-chunks w zero s = refl
rows-chunks w (suc n) s = ap (λ r. take w s ∷ r) (rows-chunks w n (drop w s))

-- and as `any` over their places goes through them, f from place a on
pub any-place : (k : Key) (f : ℕ → Key) (a : ℕ) (ps : List Key) → ((i : ℕ) → f (a + i) ≡ get_or ps i [])
    → list_any (λ i. same (f i) k) (range_with_len a (length ps)) ≡ list_any (λ p. same p k) ps
any-place k f a [] h = refl
any-place k f a (p ∷ ps) h =
    let first : f a ≡ p = ap f (sym (add-zero a)) ∙ h 0 in
    rw (first, any-place k f (a + 1) ps (λ i. ap f (omega arith) ∙ h (suc i)))
