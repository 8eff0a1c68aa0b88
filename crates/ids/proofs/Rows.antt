-- What the search for a key's row finds, and why one row is enough to look at: what `row_in` cites.
-- Assumes nothing.
use mathlib.Core.Path.{◌≡◌, refl, sym, ap, ◌∙◌}
use mathlib.Core.Logic.{◌≢◌, ⊎_elim, by_cases}
use mathlib.Core.Bool.{Bool, true, false, cond, false≢true}
use mathlib.Core.List.{List-discrete}
use Prim.Native.Nat.{ℕ, zero, suc, ◌+◌, ◌≤◌, ◌<◌}
use native.Mathlib.Nat.{eq-or-lt_of_le}
use native.Mathlib.Decide.{ℕ_discrete}
use native.Mathlib.Omega.{arith}
use lib.Dec.{eqb}
use lib.ListN.{get_or}
use Rattle.wire.specs.Same.{same}
use Rattle.wire.proofs.Same.{same-eq, same-ne}
use Rattle.ids.specs.Keys.{Key, zero_key}
use Rattle.ids.specs.Ids.{id_at}
use Rattle.ids.specs.Which.{row_from, row_by_fifth}
use Rattle.ids.proofs.Rule.{candidate_of, led, zero-led, distinct, nonzero}

-- what a search over m rows, from row k on, says of the key
pub data RowFound (key : Key) (m k : ℕ) : ℕ → Type 0 where
  at : {j : ℕ} → j < k + m → id_at j ≡ key → RowFound key m k j
  no_row_zero : key ≡ zero_key → RowFound key m k 14
  no_row : key ≢ zero_key → ((j : ℕ) → k ≤ j → j < k + m → id_at j ≢ key) → RowFound key m k 15

pub row-view : (key : Key) (m k : ℕ) → RowFound key m k (row_from key m k)
unfolding row_from
row-view key zero k =
    by_cases
    (List-discrete ℕ_discrete key zero_key)
    (λ e. rw (same-eq e) (no_row_zero e))
    (λ n. rw (same-ne n) (no_row n (λ j l h e. omega arith)))
row-view key (suc m) k =
    by_cases
    (List-discrete ℕ_discrete (id_at k) key)
    (λ e. rw (same-eq e) (at {j = k} (omega arith) e))
    (λ n. rw (same-ne n) (up n (row-view key m (suc k))))
  where
    up : {j : ℕ} → id_at k ≢ key → RowFound key m (suc k) j → RowFound key (suc m) k j
    up d (at {j} h e) = at {j = j} (omega arith) e
    up d (no_row_zero e) = no_row_zero e
    up d (no_row n f) = no_row n (λ j l h e. ⊎_elim (λ (q : k ≡ j). d (rw q e)) (λ q. f j (omega arith) (omega arith) e) (eq-or-lt_of_le l))

-- the key is the id of a row
pub found : (key : Key) (k : ℕ) → k < 14 → id_at k ≡ key → row_from key 14 0 ≡ k
found key k h q = go (row-view key 14 0)
  where
    go : {j : ℕ} → RowFound key 14 0 j → j ≡ k
    go (at {j} l e) = distinct j k (omega arith) h (e ∙ sym q)
    go (no_row_zero e) = absurd (nonzero k h (q ∙ e))
    go (no_row n f) = absurd (f k (omega arith) (omega arith) q)

-- the key is zero
pub found-zero : (key : Key) → key ≡ zero_key → row_from key 14 0 ≡ 14
found-zero key q = go (row-view key 14 0)
  where
    go : {j : ℕ} → RowFound key 14 0 j → j ≡ 14
    go (at {j} l e) = absurd (nonzero j (omega arith) (e ∙ q))
    go (no_row_zero e) = refl
    go (no_row n f) = absurd (n q)

-- the key is neither zero nor the id of the one row that it can be
pub missed : (key : Key) (k : ℕ) → k ≡ candidate_of key → (k < 14 → same (id_at k) key ≡ false) → (k ≡ 14 → same key zero_key ≡ false) → row_from key 14 0 ≡ 15
missed key k c f g = go (row-view key 14 0)
  where
    go : {j : ℕ} → RowFound key 14 0 j → j ≡ 15
    go (at {j} l e) =
        let q : k ≡ j = c ∙ (ap candidate_of (sym e) ∙ led j (omega arith)) in
        absurd (false≢true (sym (f (omega arith)) ∙ same-eq (rw q e)))
    go (no_row_zero e) = absurd (false≢true (sym (g (c ∙ (ap candidate_of e ∙ zero-led))) ∙ same-eq e))
    go (no_row n h) = refl

-- a row that a byte leads to, 14 or 15
pub led-below : (b m k : ℕ) → k + m ≤ 14 → row_by_fifth b m k < 16
unfolding row_by_fifth
led-below b zero k h = go (eqb b 0)
  where
    go : (t : Bool) → cond t 14 15 < 16
    go true = omega arith
    go false = omega arith
led-below b (suc m) k h = go (eqb b (get_or (id_at k) 4 0)) (led-below b m (suc k) (omega arith))
  where
    go : (t : Bool) → row_by_fifth b m (suc k) < 16 → cond t k (row_by_fifth b m (suc k)) < 16
    go true l = omega arith
    go false l = l
