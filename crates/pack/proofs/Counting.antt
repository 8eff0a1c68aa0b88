-- How many invocations a flattening has: the outer instructions, and those of the groups that name one of them, as the Rust counts them beforehand.
-- Assumes nothing.
use mathlib.Core.Path.{◌≡◌, refl, ap, ◌∙◌}
use mathlib.Core.Bool.{Bool, true, false, cond, ◌&&◌}
use mathlib.Core.List.{List, [], ◌∷◌, ◌++◌}
use mathlib.Core.Option.{Option}
use Prim.Native.Nat.{ℕ, suc, ◌+◌}
use native.Mathlib.Nat.{add-zero, add-suc, suc-add, zero-add}
use native.Mathlib.Omega.{arith}
use borrow.Author.Tests.{lt-ltb, lt-leb, le-leb, ltb-true, ltb-false, eqb-true, eqb-false}
use lib.Dec.{leb, ltb, eqb, leb-zero}
use lib.ListN.{length, length-append, length-map}
use Rattle.pack.specs.Group.{Group}
use Rattle.pack.specs.View.{View}
use Rattle.pack.specs.Flatten.{numbered, inside, flatten_from, kept_in, flatten, invocation}

-- 1 where a test holds
abbrev one : Bool → ℕ
one t = cond t 1 0

-- the groups between two outer instructions are those of the first and those after it
one-step : (i n k : ℕ) → one (leb i k && ltb k (i + suc n)) ≡ one (eqb k i) + one (leb (suc i) k && ltb k (suc i + n))
one-step i n k = go (ltb k i) refl (eqb k i) refl
  where
    go : (b : Bool) → ltb k i ≡ b → (e : Bool) → eqb k i ≡ e → one (leb i k && ltb k (i + suc n)) ≡ one e + one (leb (suc i) k && ltb k (suc i + n))
    go true p true q = let a = ltb-true k i p in let z = eqb-true k i q in absurd (omega arith)
    go true p false q = let a = ltb-true k i p in rw (lt-leb i k a, lt-leb (suc i) k (omega arith))
    go false p true q =
        let z = eqb-true k i q in
        rw (le-leb i k (omega arith), lt-ltb k (i + suc n) (omega arith), lt-leb (suc i) k (omega arith))
    go false p false q =
        let a = ltb-false k i p in
        let z = eqb-false k i q in
        rw (le-leb i k a, le-leb (suc i) k (omega arith), add-suc, suc-add, zero-add)

none_left : (i k : ℕ) → (leb i k && ltb k (i + 0)) ≡ false
none_left i k = go (ltb k i) refl
  where
    go : (b : Bool) → ltb k i ≡ b → (leb i k && ltb k (i + 0)) ≡ false
    go true p = rw (lt-leb i k (ltb-true k i p))
    go false p = rw (le-leb i k (ltb-false k i p), add-zero, p)

module _ {A : Type 0} where
  -- the instructions of the groups whose index passes a test
  sum_of : (ℕ → Bool) → List (Group A) → ℕ
  sum_of t [] = 0
  sum_of t (g ∷ gs) = cond (t g.index) (length g.items + sum_of t gs) (sum_of t gs)

  sum-split : (t a b : ℕ → Bool) → ((k : ℕ) → one (t k) ≡ one (a k) + one (b k)) → (gs : List (Group A)) → sum_of t gs ≡ sum_of a gs + sum_of b gs
  unfolding sum_of
  sum-split t a b h [] = refl
  sum-split t a b h (g ∷ gs) = go (t g.index) (a g.index) (b g.index) (h g.index) (length g.items) (sum_of t gs) (sum_of a gs) (sum_of b gs) (sum-split t a b h gs)
    where
      go : (t' a' b' : Bool) → one t' ≡ one a' + one b' → (n x y z : ℕ) → x ≡ y + z → cond t' (n + x) x ≡ cond a' (n + y) y + cond b' (n + z) z
      go true true true e n x y z s = absurd (omega arith)
      go true true false e n x y z s = omega arith
      go true false true e n x y z s = omega arith
      go true false false e n x y z s = absurd (omega arith)
      go false true true e n x y z s = absurd (omega arith)
      go false true false e n x y z s = absurd (omega arith)
      go false false true e n x y z s = absurd (omega arith)
      go false false false e n x y z s = s

  sum_same : (t a : ℕ → Bool) → ((k : ℕ) → t k ≡ a k) → (gs : List (Group A)) → sum_of t gs ≡ sum_of a gs
  unfolding sum_of
  sum_same t a h [] = refl
  sum_same t a h (g ∷ gs) = rw (h g.index, sum_same t a h gs)

  sum-none : (t : ℕ → Bool) → ((k : ℕ) → t k ≡ false) → (gs : List (Group A)) → sum_of t gs ≡ 0
  unfolding sum_of
  sum-none t h [] = refl
  sum-none t h (g ∷ gs) = rw (h g.index) (sum-none t h gs)

  sum_kept : (o : ℕ) (gs : List (Group A)) → sum_of (λ k. ltb k o) gs ≡ kept_in o gs
  unfolding sum_of kept_in
  sum_kept o [] = refl
  sum_kept o (g ∷ gs) = rw (sum_kept o gs)

  pub numbered-length : (i j : ℕ) (xs : List (Option ℕ × A)) → length (numbered i j xs) ≡ length xs
  unfolding numbered
  numbered-length i j [] = refl
  numbered-length i j (x ∷ xs) = ap suc (numbered-length i (suc j) xs)

  inside-length : (i : ℕ) (gs : List (Group A)) → length (inside i gs) ≡ sum_of (λ k. eqb k i) gs
  unfolding inside sum_of
  inside-length i [] = refl
  inside-length i (g ∷ gs) = go (eqb g.index i) (inside-length i gs)
    where
      go : (t : Bool) → length (inside i gs) ≡ sum_of (λ k. eqb k i) gs
          → length (cond t (numbered i 0 g.items ++ inside i gs) (inside i gs)) ≡ cond t (length g.items + sum_of (λ k. eqb k i) gs) (sum_of (λ k. eqb k i) gs)
      go true e = rw (length-append, numbered-length, e)
      go false e = e

  -- from outer i to the last
  from-length : (i : ℕ) (xs : List A) (gs : List (Group A)) → length (flatten_from i xs gs) ≡ length xs + sum_of (λ k. leb i k && ltb k (i + length xs)) gs
  unfolding flatten_from
  from-length i [] gs = rw (sum-none (λ k. leb i k && ltb k (i + 0)) (none_left i) gs)
  from-length i (x ∷ xs) gs =
      let rest = from-length (suc i) xs gs in
      let here = inside-length i gs in
      let both = length-append (inside i gs) (flatten_from (suc i) xs gs) in
      let split = sum-split (λ k. leb i k && ltb k (i + suc (length xs))) (λ k. eqb k i) (λ k. leb (suc i) k && ltb k (suc i + length xs)) (one-step i (length xs)) gs in
      omega arith

  -- from the first on
  pub all-length : (xs : List A) (gs : List (Group A)) → length (flatten_from 0 xs gs) ≡ length xs + kept_in (length xs) gs
  all-length xs gs =
      rw (from-length 0 xs gs, ← sum_kept (length xs) gs)
      (ap (λ (n : ℕ). length xs + n) (sum_same (λ k. leb 0 k && ltb k (0 + length xs)) (λ k. ltb k (length xs)) (λ k. rw (leb-zero k, zero-add)) gs))

pub flatten-length : (v : View) → length (flatten v) ≡ length v.outer + kept_in (length v.outer) v.groups
unfolding flatten
flatten-length v = length-map (flatten_from 0 v.outer v.groups) invocation ∙ all-length v.outer v.groups
