-- Laws of `last_below` and `list_below`, by going down through the numbers.
-- Assumes nothing.
use mathlib.Core.Path.{◌≡◌, refl}
use mathlib.Core.Bool.{Bool, true, false, cond}
use mathlib.Core.List.{◌∷◌, Memᴰ}
use mathlib.Core.Logic.{◌⊎◌, inl, inr}
use Prim.Native.Nat.{ℕ, zero, suc, ◌+◌, ◌≤◌, ◌<◌}
use native.Mathlib.Nat.{add-zero, add-suc, eq-or-lt_of_le, le_of_suc-le-suc}
use native.Mathlib.Omega.{arith}
use Rattle.subtrees.specs.Parents.{last_below, list_below}

module _ (f : ℕ → Bool) where
  -- none is f
  pub last-no : (m : ℕ) → ((y : ℕ) → y < m → f y ≡ false) → last_below f m ≡ 0
  unfolding last_below
  last-no zero g = refl
  last-no (suc m) g = rw (g m (omega arith)) (last-no m (λ y p. g y (omega arith)))

  -- y is the greatest that is
  pub last-is : (m y : ℕ) → y < m → f y ≡ true → ((z : ℕ) → y < z → z < m → f z ≡ false) → last_below f m ≡ suc y
  unfolding last_below
  last-is zero y p e g = absurd (omega arith)
  last-is (suc m) y p e g = go (last-is m y) (eq-or-lt_of_le (le_of_suc-le-suc p))
    where
      go : (y < m → f y ≡ true → ((z : ℕ) → y < z → z < m → f z ≡ false) → last_below f m ≡ suc y) → (y ≡ m) ⊎ (y < m) → cond (f m) (suc m) (last_below f m) ≡ suc y
      go r (inl s) = rw (← s, e)
      go r (inr l) = rw (g m l (omega arith)) (r l e (λ z u v. g z u (omega arith)))

  -- what an answer says
  pub data Last (m : ℕ) : ℕ → Type 0 where
    last_none : ((y : ℕ) → y < m → f y ≡ false) → Last m 0
    last_some : (y : ℕ) → y < m → f y ≡ true → ((z : ℕ) → y < z → z < m → f z ≡ false) → Last m (suc y)

  pub last : (m : ℕ) → Last m (last_below f m)
  unfolding last_below
  last zero = last_none (λ y p. absurd (omega arith))
  last (suc m) = go (f m) refl (last m)
    where
      more : f m ≡ false → (z : ℕ) → (z ≡ m) ⊎ (z < m) → (z < m → f z ≡ false) → f z ≡ false
      more e z (inl s) g = rw s e
      more e z (inr l) g = g l

      go : {r : ℕ} (b : Bool) → f m ≡ b → Last m r → Last (suc m) (cond b (suc m) r)
      go true e w = last_some m (omega arith) e (λ z u v. absurd (omega arith))
      go false e (last_none g) = last_none (λ y p. more e y (eq-or-lt_of_le (le_of_suc-le-suc p)) (g y))
      go false e (last_some y p t g) = last_some y (omega arith) t (λ z u v. more e z (eq-or-lt_of_le (le_of_suc-le-suc v)) (g z u))

  -- numbers at the top that are not f add nothing
  pub list-skip : (k m : ℕ) → ((y : ℕ) → m ≤ y → y < m + k → f y ≡ false) → list_below f (m + k) ≡ list_below f m
  unfolding list_below
  list-skip zero m g = rw add-zero
  list-skip (suc k) m g = rw (add-suc m k, g (m + k) (omega arith) (omega arith)) (list-skip k m (λ y p q. g y p (omega arith)))

  pub list_same : (g : ℕ → Bool) (m : ℕ) → ((y : ℕ) → y < m → f y ≡ g y) → list_below f m ≡ list_below g m
  unfolding list_below
  list_same g zero h = refl
  list_same g (suc m) h = rw (h m (omega arith), list_same g m (λ y p. h y (omega arith)))

  -- exactly those below m that are f
  pub list-in : (m x : ℕ) → x < m → f x ≡ true → Memᴰ x (list_below f m)
  unfolding list_below
  list-in zero x p e = absurd (omega arith)
  list-in (suc m) x p e = go (list-in m x) (eq-or-lt_of_le (le_of_suc-le-suc p))
    where
      later : (b : Bool) → Memᴰ x (list_below f m) → Memᴰ x (cond b (m ∷ list_below f m) (list_below f m))
      later true i = Memᴰ.tail i
      later false i = i

      go : (x < m → f x ≡ true → Memᴰ x (list_below f m)) → (x ≡ m) ⊎ (x < m) → Memᴰ x (cond (f m) (m ∷ list_below f m) (list_below f m))
      go r (inl s) =
          let t : f m ≡ true = rw (← s) e in
          rw t (Memᴰ.head s)
      go r (inr l) = later (f m) (r l e)

  pub list_of : (m x : ℕ) → Memᴰ x (list_below f m) → (x < m) × (f x ≡ true)
  unfolding list_below
  list_of zero x i = elim i [ ]
  list_of (suc m) x i = go (f m) refl (list_of m x) i
    where
      go : (b : Bool) → f m ≡ b → (Memᴰ x (list_below f m) → (x < m) × (f x ≡ true))
          → Memᴰ x (cond b (m ∷ list_below f m) (list_below f m)) → (x < suc m) × (f x ≡ true)
      go true e r (Memᴰ.head s) = (omega arith, rw s e)
      go true e r (Memᴰ.tail j) = let w = r j in (omega arith, w.1)
      go false e r j = let w = r j in (omega arith, w.1)
