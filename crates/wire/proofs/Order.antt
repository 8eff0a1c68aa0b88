-- The laws by which proofs use the order of runs: the first byte that differs decides it, so two runs stand to each other in one of three ways, and what both
-- begin with counts for nothing.
-- Assumes nothing.
use mathlib.Core.Path.{◌≡◌, refl, sym, ◌∙◌, ap₂, subst}
use mathlib.Core.Logic.{◌≢◌, by_cases}
use mathlib.Core.Bool.{true, false, ◌&&◌, ◌||◌, false≢true, or-true, and-false}
use mathlib.Core.List.{List, [], ◌∷◌, ◌++◌, List-discrete}
use Prim.Native.Nat.{ℕ, ◌+◌, ◌≤◌, ◌<◌}
use native.Mathlib.Nat.{lt_irrefl, lt_trans}
use native.Mathlib.Numerals.{add-one}
use native.Mathlib.Decide.{ℕ_discrete, dec_lt}
use native.Mathlib.Omega.{arith}
use lib.Dec.{eqb, ltb}
use lib.ListN.{length, get_or, take, drop, take-append-drop, drop_of_length-le}
use lib.Seq.{drop-cons, drop-drop}
use borrow.Author.Tests.{eq-eqb, ne_eqb, lt-ltb, le-ltb}
use Rattle.wire.specs.Order.{Below, here, lt_key, next, shorter}

-- the decision that proofs go by cases on
pub key? : (a b : List ℕ) → Dec (a ≡ b)
key? = List-discrete ℕ_discrete

pub below_irrefl : {a : List ℕ} → ¬ Below a a
below_irrefl {a = []} h = elim h [ ]
below_irrefl {a = x ∷ a} (here h) = lt_irrefl _ h
below_irrefl {a = x ∷ a} (next e h) = below_irrefl h

pub below-differ : {a b : List ℕ} → Below a b → a ≢ b
below-differ {b} h e = below_irrefl (subst (λ (x : List ℕ). Below x b) e h)

pub below-trans : {a b c : List ℕ} → Below a b → Below b c → Below a c
below-trans shorter (here k) = shorter
below-trans shorter (next e k) = shorter
below-trans (here h) (here k) = here (lt_trans h k)
below-trans (here h) (next e k) = here (rw e at h)
below-trans (next e h) (here k) = here (rw (← e) at k)
below-trans (next e h) (next f k) = next (e ∙ f) (below-trans h k)

-- how two runs stand to each other
pub data Order (a b : List ℕ) : Type 0 where
  less : Below a b → Order a b
  level : a ≡ b → Order a b
  more : Below b a → Order a b

pub order : (a b : List ℕ) → Order a b
order [] [] = level refl
order [] (y ∷ b) = less shorter
order (x ∷ a) [] = more shorter
order (x ∷ a) (y ∷ b) = bytes (dec_lt x y) (dec_lt y x) (order a b)
  where
    rest : x ≡ y → Order a b → Order (x ∷ a) (y ∷ b)
    rest e (less h) = less (next e h)
    rest e (level h) = level (ap₂ ◌∷◌ e h)
    rest e (more h) = more (next (sym e) h)

    bytes : Dec (x < y) → Dec (y < x) → Order a b → Order (x ∷ a) (y ∷ b)
    bytes (yes h) d o = less (here h)
    bytes (no h) (yes k) o = more (here k)
    bytes (no h) (no k) o = rest (omega arith) o

-- a run below another passes the test
pub lt_key-below : {a b : List ℕ} → Below a b → lt_key a b ≡ true
unfolding lt_key
lt_key-below shorter = refl
lt_key-below (here {x} {y} h) = rw (lt-ltb x y h)
lt_key-below (next {x} {y} e h) = rw (eq-eqb x y e, lt_key-below h, or-true (ltb x y))

-- a run above another fails it
pub lt_key-above : {a b : List ℕ} → Below b a → lt_key a b ≡ false
unfolding lt_key
lt_key-above shorter = refl
lt_key-above (here {x} {y} h) = rw (le-ltb y x (omega arith), ne_eqb y x (omega arith))
lt_key-above (next {x} {y} e h) = rw (le-ltb y x (omega arith), lt_key-above h, and-false (eqb y x))

-- and so does an equal one
pub lt_key-level : {a b : List ℕ} → a ≡ b → lt_key a b ≡ false
unfolding lt_key
lt_key-level {b} e = rw e (go b)
  where
    go : (a : List ℕ) → lt_key a a ≡ false
    go [] = refl
    go (x ∷ a) = rw (le-ltb x x (omega arith), go a, and-false (eqb x x))

-- a run that passes the test is below
pub lt_key-true : (a b : List ℕ) → lt_key a b ≡ true → Below a b
lt_key-true a b e = go (order a b)
  where
    go : Order a b → Below a b
    go (less h) = h
    go (level q) = absurd (false≢true (sym (lt_key-level q) ∙ e))
    go (more h) = absurd (false≢true (sym (lt_key-above h) ∙ e))

-- one that fails it, and differs, is above
pub lt_key-false : (a b : List ℕ) → lt_key a b ≡ false → a ≢ b → Below b a
lt_key-false a b e n = go (order a b)
  where
    go : Order a b → Below b a
    go (less h) = absurd (false≢true (sym e ∙ lt_key-below h))
    go (level q) = absurd (n q)
    go (more h) = h

-- two runs from place i on, where both have a byte
pub less-step : (a b : List ℕ) (i : ℕ) → i < length a → i < length b
    → lt_key (drop i a) (drop i b) ≡ (ltb (get_or a i 0) (get_or b i 0) || eqb (get_or a i 0) (get_or b i 0) && lt_key (drop (i + 1) a) (drop (i + 1) b))
unfolding lt_key
less-step a b i p q = rw (drop-cons a i 0 p, drop-cons b i 0 q, add-one i)

-- a run that is used up stands before all but one that is used up too
pub less-end : (a b : List ℕ) (i : ℕ) → i ≤ length a → (length a < length b → length a ≤ i) → (length b ≤ length a → length b ≤ i)
    → lt_key (drop i a) (drop i b) ≡ ltb (length a) (length b)
unfolding lt_key
less-end a b i h p q =
    by_cases (dec_lt (length a) (length b))
    (λ l. rw (lt-ltb _ _ l, drop_of_length-le a {i = i} (p l), drop-cons b i 0 (omega arith)))
    (λ n. rw (le-ltb (length a) (length b) (omega arith), drop_of_length-le b {i = i} (q (omega arith))) (go (drop i a)))
  where
    go : (x : List ℕ) → lt_key x [] ≡ false
    go [] = refl
    go (x ∷ s) = refl

-- what both begin with decides nothing
less-prefix : (w x y : List ℕ) → lt_key (w ++ x) (w ++ y) ≡ lt_key x y
unfolding lt_key
less-prefix [] x y = refl
less-prefix (z ∷ w) x y = rw (le-ltb z z (omega arith), eq-eqb z z refl, less-prefix w x y)

-- n bytes from i on are the same
pub less-pass : (n : ℕ) (a b : List ℕ) (i : ℕ) → take n (drop i a) ≡ take n (drop i b) → lt_key (drop (i + n) a) (drop (i + n) b) ≡ lt_key (drop i a) (drop i b)
less-pass n a b i e =
    let p : drop i a ≡ take n (drop i b) ++ drop (i + n) a = rw (← e, ← drop-drop n i a) (sym (take-append-drop n (drop i a))) in
    let q : drop i b ≡ take n (drop i b) ++ drop (i + n) b = rw (← drop-drop n i b) (sym (take-append-drop n (drop i b))) in
    sym (ap₂ lt_key p q ∙ less-prefix (take n (drop i b)) (drop (i + n) a) (drop (i + n) b))
