-- The bits inside a block, one child at a time: those of the members before the child, of the child, of its block, and of the members behind it.
-- Assumes nothing.
use mathlib.Core.Path.{◌≡◌, refl, ◌∙◌}
use mathlib.Core.Bool.{Bool, true, false, ◌||◌}
use mathlib.Core.List.{List}
use Prim.Native.Nat.{ℕ, suc, ◌+◌}
use native.Mathlib.Numerals.{add-one}
use native.Mathlib.Omega.{arith}
use lib.ListN.{get_or}
use Rattle.subtrees.specs.Blocks.{any_in}
use Rattle.subtrees.specs.Subtrees.{has_transfer, has_swap, bits, bits_in, joined}
use Rattle.subtrees.proofs.Ranges.{any-parts}

pub bits_none : (own : List ℕ) (at : ℕ) → 0 ≡ bits_in own 0 at
unfolding bits_in any_in
bits_none own at = refl

transfer-bits : (t s : Bool) → has_transfer (bits t s) ≡ t
transfer-bits true true = refl
transfer-bits true false = refl
transfer-bits false true = refl
transfer-bits false false = refl

swap-bits : (t s : Bool) → has_swap (bits t s) ≡ s
swap-bits true true = refl
swap-bits true false = refl
swap-bits false true = refl
swap-bits false false = refl

-- members passed, a child, and its block
any-three : (f : ℕ → Bool) (m k a e : ℕ) → a + m ≡ e → any_in f (m + suc k) a ≡ (any_in f m a || (f e || any_in f k (e + 1)))
unfolding any_in
any-three f m k a e p =
    let q : e + 1 ≡ suc e = omega arith in
    any-parts f m (suc k) a ∙ rw (p, q)

pub bits-jump : (own : List ℕ) (m k a e : ℕ) → a + m ≡ e
    → joined (bits_in own m a) (joined (get_or own e 0) (bits_in own k (e + 1))) ≡ bits_in own (m + suc k) a
unfolding joined bits_in
bits-jump own m k a e p = simp (transfer-bits, swap-bits, any-three (λ y. has_transfer (get_or own y 0)) m k a e p, any-three (λ y. has_swap (get_or own y 0)) m k a e p)

-- a child, its block, and the members behind that
any-rest : (f : ℕ → Bool) (k r e : ℕ) → any_in f (suc (k + r)) e ≡ (f e || (any_in f k (e + 1) || any_in f r (e + 1 + k)))
unfolding any_in
any-rest f k r e = rw (add-one e, any-parts f k r (suc e))

pub bits-child : (own : List ℕ) (k r e : ℕ) → joined (get_or own e 0) (joined (bits_in own k (e + 1)) (bits_in own r (e + 1 + k))) ≡ bits_in own (suc (k + r)) e
unfolding joined bits_in
bits-child own k r e = simp (transfer-bits, swap-bits, any-rest (λ y. has_transfer (get_or own y 0)) k r e, any-rest (λ y. has_swap (get_or own y 0)) k r e)
