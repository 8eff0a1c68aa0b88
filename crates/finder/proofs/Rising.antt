-- Laws of `rising_below`, by going up through the numbers.
-- Assumes nothing.
use mathlib.Core.Path.{◌≡◌, refl, sym}
use mathlib.Core.Bool.{Bool, true, false, cond}
use mathlib.Core.List.Memᴰ
use mathlib.Core.List.{List, [], ◌∷◌, ◌++◌, Memᴰ}
use mathlib.Core.Logic.{◌⊎◌, inl, inr}
use Prim.Native.Nat.{ℕ, zero, suc, ◌+◌, ◌≤◌, ◌<◌}
use native.Mathlib.Nat.{add-zero, add-suc, eq-or-lt_of_le, le_of_suc-le-suc}
use native.Mathlib.Omega.{arith}
use borrow.Author.Tests.{lt-ltb, le-ltb, eq-eqb, ne_eqb}
use lib.Dec.{ltb, eqb}
use lib.ListN.{length, get_or, length-append, get_or-append}
use lib.Seq.{get_or-append_seam}
use Rattle.std.proofs.lemmas.Bool.{cases_lt}
use Rattle.finder.specs.Children.{rising_below}

module _ (f : ℕ → Bool) where
  -- numbers that are not f add nothing, and one that is comes last
  pub rising-skip : (k m : ℕ) → ((y : ℕ) → m ≤ y → y < m + k → f y ≡ false) → rising_below f (m + k) ≡ rising_below f m
  unfolding rising_below
  rising-skip zero m g = rw add-zero
  rising-skip (suc k) m g = rw (add-suc m k, g (m + k) (omega arith) (omega arith)) (rising-skip k m (λ y p q. g y p (omega arith)))

  pub rising-next : (m : ℕ) → f m ≡ true → rising_below f (suc m) ≡ rising_below f m ++ (m ∷ [])
  unfolding rising_below
  rising-next m e = rw e

  -- those that are f are those that are g, where the two say the same below m
  pub rising-same : (g : ℕ → Bool) (m : ℕ) → ((y : ℕ) → y < m → f y ≡ g y) → rising_below f m ≡ rising_below g m
  unfolding rising_below
  rising-same g zero h = refl
  rising-same g (suc m) h = rw (h m (omega arith), rising-same g m (λ y p. h y (omega arith)))

  -- no more than there are numbers
  pub rising-few : (m : ℕ) → length (rising_below f m) ≤ m
  unfolding rising_below
  rising-few zero = omega arith
  rising-few (suc m) = go (f m) (rising-few m)
    where
      go : (b : Bool) → length (rising_below f m) ≤ m → length (cond b (rising_below f m ++ (m ∷ [])) (rising_below f m)) ≤ suc m
      go true h = rw (length-append (rising_below f m) (m ∷ [])) (omega arith)
      go false h = omega arith

  -- exactly those below m that are f
  pub rising-in : (m x : ℕ) → x < m → f x ≡ true → Memᴰ x (rising_below f m)
  unfolding rising_below
  rising-in zero x p e = absurd (omega arith)
  rising-in (suc m) x p e = go (rising-in m x) (eq-or-lt_of_le (le_of_suc-le-suc p))
    where
      later : (b : Bool) → Memᴰ x (rising_below f m) → Memᴰ x (cond b (rising_below f m ++ (m ∷ [])) (rising_below f m))
      later true i = Memᴰ.append_left (m ∷ []) i
      later false i = i

      go : (x < m → f x ≡ true → Memᴰ x (rising_below f m)) → (x ≡ m) ⊎ (x < m) → Memᴰ x (cond (f m) (rising_below f m ++ (m ∷ [])) (rising_below f m))
      go r (inl s) =
          let t : f m ≡ true = rw (← s) e in
          rw t (Memᴰ.append_right (rising_below f m) (Memᴰ.head s))
      go r (inr l) = later (f m) (r l e)

  pub rising-of : (m x : ℕ) → Memᴰ x (rising_below f m) → (x < m) × (f x ≡ true)
  unfolding rising_below
  rising-of zero x i = elim i [ ]
  rising-of (suc m) x i = go (f m) refl (rising-of m x) i
    where
      last : f m ≡ true → (x ≡ m) ⊎ Memᴰ x [] → (x < suc m) × (f x ≡ true)
      last e (inl s) = (omega arith, rw s e)
      last e (inr j) = elim j [ ]

      pick : f m ≡ true → (Memᴰ x (rising_below f m) → (x < m) × (f x ≡ true)) → Memᴰ x (rising_below f m) ⊎ Memᴰ x (m ∷ [])
          → (x < suc m) × (f x ≡ true)
      pick e r (inl j) = let w = r j in (omega arith, w.1)
      pick e r (inr j) = last e (Memᴰ.cases_cons j)

      go : (b : Bool) → f m ≡ b → (Memᴰ x (rising_below f m) → (x < m) × (f x ≡ true))
          → Memᴰ x (cond b (rising_below f m ++ (m ∷ [])) (rising_below f m)) → (x < suc m) × (f x ≡ true)
      go true e r j = pick e r (Memᴰ.append_cases (rising_below f m) j)
      go false e r j = let w = r j in (omega arith, w.1)

  -- place k of the list, with m at its end or not
  at_front : (b : Bool) (m k : ℕ) → k < length (rising_below f m) → get_or (cond b (rising_below f m ++ (m ∷ [])) (rising_below f m)) k 0 ≡ get_or (rising_below f m) k 0
  at_front true m k l = get_or-append (rising_below f m) (m ∷ []) 0 k l
  at_front false m k l = refl

  at_end : (m k : ℕ) → k ≡ length (rising_below f m) → get_or (rising_below f m ++ (m ∷ [])) k 0 ≡ m
  at_end m k e = rw e (get_or-append_seam (rising_below f m) m [] 0)

  -- all are below m
  rising-below : (m k : ℕ) → k < length (rising_below f m) → get_or (rising_below f m) k 0 < m
  unfolding rising_below
  rising-below zero k l = absurd (omega arith)
  rising-below (suc m) k l = go (f m) l (rising-below m k)
    where
      pick : (k < length (rising_below f m)) ⊎ (length (rising_below f m) ≤ k) → k < length (rising_below f m) + 1
          → (k < length (rising_below f m) → get_or (rising_below f m) k 0 < m) → get_or (rising_below f m ++ (m ∷ [])) k 0 < suc m
      pick (inl p) h r = omega (arith, at_front true m k p, r p)
      pick (inr p) h r = omega (arith, at_end m k (omega arith))

      go : (b : Bool) → k < length (cond b (rising_below f m ++ (m ∷ [])) (rising_below f m)) → (k < length (rising_below f m) → get_or (rising_below f m) k 0 < m)
          → get_or (cond b (rising_below f m ++ (m ∷ [])) (rising_below f m)) k 0 < suc m
      go true h r = pick (cases_lt k (length (rising_below f m))) (rw (length-append (rising_below f m) (m ∷ [])) at h) r
      go false h r = omega (arith, r h)

  -- each is lower than those behind it, so none stands twice
  pub rising-rises : (m j k : ℕ) → j < k → k < length (rising_below f m) → get_or (rising_below f m) j 0 < get_or (rising_below f m) k 0
  unfolding rising_below
  rising-rises zero j k p l = absurd (omega arith)
  rising-rises (suc m) j k p l = go (f m) l (rising-rises m j k p)
    where
      pick : (k < length (rising_below f m)) ⊎ (length (rising_below f m) ≤ k) → k < length (rising_below f m) + 1
          → (k < length (rising_below f m) → get_or (rising_below f m) j 0 < get_or (rising_below f m) k 0)
          → get_or (rising_below f m ++ (m ∷ [])) j 0 < get_or (rising_below f m ++ (m ∷ [])) k 0
      pick (inl q) h r = omega (arith, at_front true m j (omega arith), at_front true m k q, r q)
      pick (inr q) h r = omega (arith, at_front true m j (omega arith), at_end m k (omega arith), rising-below m j (omega arith))

      go : (b : Bool) → k < length (cond b (rising_below f m ++ (m ∷ [])) (rising_below f m))
          → (k < length (rising_below f m) → get_or (rising_below f m) j 0 < get_or (rising_below f m) k 0)
          → get_or (cond b (rising_below f m ++ (m ∷ [])) (rising_below f m)) j 0 < get_or (cond b (rising_below f m ++ (m ∷ [])) (rising_below f m)) k 0
      go true h r = pick (cases_lt k (length (rising_below f m))) (rw (length-append (rising_below f m) (m ∷ [])) at h) r
      go false h r = r h

-- those with a number up to i are those with one below i, and those with i
pub rising-up_to : (g : ℕ → ℕ) (i m : ℕ) → length (rising_below (λ x. ltb (g x) (i + 1)) m) ≡ length (rising_below (λ x. ltb (g x) i) m) + length (rising_below (λ x. eqb (g x) i) m)
unfolding rising_below
rising-up_to g i zero = refl
rising-up_to g i (suc m) = go (cases_lt (g m) i) (rising-up_to g i m)
  where
    up_to : List ℕ
    up_to = rising_below (λ x. ltb (g x) (i + 1)) m

    below : List ℕ
    below = rising_below (λ x. ltb (g x) i) m

    with : List ℕ
    with = rising_below (λ x. eqb (g x) i) m

    more : (l : List ℕ) → length (l ++ (m ∷ [])) ≡ length l + 1
    more l = length-append l (m ∷ [])

    rest : (i ≡ g m) ⊎ (i < g m) → length up_to ≡ length below + length with
        → length (cond (ltb (g m) (i + 1)) (up_to ++ (m ∷ [])) up_to) ≡ length (cond (ltb (g m) i) (below ++ (m ∷ [])) below) + length (cond (eqb (g m) i) (with ++ (m ∷ [])) with)
    rest (inl e) h = rw (lt-ltb (g m) (i + 1) (omega arith), le-ltb (g m) i (omega arith), eq-eqb (g m) i (sym e), more up_to, more with) (omega arith)
    rest (inr l) h = rw (le-ltb (g m) (i + 1) (omega arith), le-ltb (g m) i (omega arith), ne_eqb (g m) i (λ e. omega arith)) h

    go : (g m < i) ⊎ (i ≤ g m) → length up_to ≡ length below + length with
        → length (cond (ltb (g m) (i + 1)) (up_to ++ (m ∷ [])) up_to) ≡ length (cond (ltb (g m) i) (below ++ (m ∷ [])) below) + length (cond (eqb (g m) i) (with ++ (m ∷ [])) with)
    go (inl l) h = rw (lt-ltb (g m) (i + 1) (omega arith), lt-ltb (g m) i l, ne_eqb (g m) i (λ e. omega arith), more up_to, more below) (omega arith)
    go (inr l) h = rest (eq-or-lt_of_le l) h
