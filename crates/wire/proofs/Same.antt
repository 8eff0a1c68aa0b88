-- The laws by which proofs use the test of two runs: it is true exactly of equal ones, so a byte that differs decides it.
-- Assumes nothing.
use native.Mathlib.Omega.{arith}
use mathlib.Core.Path.{◌≡◌, refl, sym, ap, ap₂, subst}
use mathlib.Core.Logic.{◌≢◌}
use mathlib.Core.Bool.{Bool, true, false, ◌&&◌}
use mathlib.Core.List.{List, [], ◌∷◌, ◌++◌}
use Prim.Native.Nat.{ℕ, ◌+◌}
use borrow.Author.Tests.{eq-eqb, eqb-true}
use lib.Dec.{eqb}
use lib.ListN.{length, get_or, take, drop, length-append}
use lib.Seq.{take-add}
use Rattle.wire.proofs.Below.{and_left, and_right}
use Rattle.wire.specs.Same.{same}

pub same_refl : (a : List ℕ) → same a a ≡ true
unfolding same
same_refl [] = refl
same_refl (x ∷ xs) = rw (eq-eqb x x refl, same_refl xs)

-- equal runs pass the test
pub same-eq : {a b : List ℕ} → a ≡ b → same a b ≡ true
same-eq {a} e = subst (λ (b : List ℕ). same a b ≡ true) e (same_refl a)

-- runs that pass the test are equal
pub same_true : (a b : List ℕ) → same a b ≡ true → a ≡ b
unfolding same
same_true [] [] e = refl
same_true [] (y ∷ b) e = cc
same_true (x ∷ a) [] e = cc
same_true (x ∷ a) (y ∷ b) e = ap₂ ◌∷◌ (eqb-true x y (and_left (eqb x y) (same a b) e)) (same_true a b (and_right (eqb x y) (same a b) e))

-- different runs fail the test
pub same-ne : {a b : List ℕ} → a ≢ b → same a b ≡ false
same-ne {a} {b} n = go (same a b) refl
  where
    go : (t : Bool) → same a b ≡ t → t ≡ false
    go true e = absurd (n (same_true a b e))
    go false e = refl

-- runs that differ at one place
pub same-not-at : (a b : List ℕ) (j : ℕ) → (get_or a j 0 ≡ get_or b j 0 → ⊥) → same a b ≡ false
same-not-at a b j h = same-ne (λ e. h (ap (λ (l : List ℕ). get_or l j 0) e))

-- runs that differ in length
pub same-not-long : (a b : List ℕ) → (length a ≡ length b → ⊥) → same a b ≡ false
same-not-long a b h = same-ne (λ e. h (ap length e))

-- a common end does not count
same-before : (a b s : List ℕ) → same (a ++ s) (b ++ s) ≡ same a b
unfolding same
same-before [] [] s = same_refl s
same-before [] (y ∷ b) s = same-not-long s (y ∷ b ++ s) (λ e. omega (arith, e, length-append b s))
same-before (x ∷ a) [] s = same-not-long (x ∷ a ++ s) s (λ e. omega (arith, e, length-append a s))
same-before (x ∷ a) (y ∷ b) s = ap (λ (t : Bool). eqb x y && t) (same-before a b s)

-- runs whose n bytes from i on are equal
pub same_step : (a b : List ℕ) (i n : ℕ) → take n (drop i a) ≡ take n (drop i b) → same (take i a) (take i b) ≡ same (take (i + n) a) (take (i + n) b)
same_step a b i n e = rw (take-add i n a, take-add i n b, e) (sym (same-before (take i a) (take i b) (take n (drop i b))))
