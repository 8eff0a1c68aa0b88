-- The row search: what each way through it says of the first row with an account, and the rows that it gives.
-- Assumes nothing.
use mathlib.Core.Path.{◌≡◌, refl, sym, ap, ◌∙◌}
use mathlib.Core.Bool.{Bool, true, false, cond}
use mathlib.Core.List.{List}
use Prim.Native.Nat.{ℕ, zero, suc, ◌+◌, ◌-◌, ◌≤◌, ◌<◌}
use native.Mathlib.Numerals.{add-one}
use native.Mathlib.Omega.{arith}
use lib.ListN.{length, get_or, take}
use lib.Seq.{ext_get_or, length-take-le}
use Rattle.std.proofs.lemmas.List.{get_or-take}
use Rattle.std.proofs.lemmas.Bool.{lt-ltb, le-ltb}
use Rattle.std.specs.Prelude.{Some, None}
use lib.Dec.{ltb}
use Rattle.wire.specs.Same.{same}
use Rattle.wire.proofs.Same.{same_refl, same-not-at}
use Rattle.mints.specs.declared.row.Row.{Row}
use Rattle.mints.specs.Cells.{no_row, account_at, Fits, LastBytesSeen, first_row_from, first_row}
use Rattle.mints.specs.Lay.{found_row}
use Rattle.mints.specs.Gather.{row_of_account}

module _ (t : List Row) (k : List ℕ) where
  -- every byte is the key's
  pub account-is : (i : ℕ) → length (account_at t i) ≡ 32 → length k ≡ 32 → ((j : ℕ) → j < 32 → get_or (account_at t i) j 0 ≡ get_or k j 0) → same (account_at t i) k ≡ true
  account-is i l e f = rw (ext_get_or 0 (account_at t i) k (l ∙ sym e) (λ j lt. f j (omega arith))) (same_refl k)

  -- a byte is not
  pub account-not : (i j : ℕ) → (get_or (account_at t i) j 0 ≡ get_or k j 0 → ⊥) → same (account_at t i) k ≡ false
  account-not i j f = same-not-at (account_at t i) k j f

  pub skip : (n i : ℕ) → i < n → same (account_at t i) k ≡ false → first_row_from t k (n - (i + 1)) (i + 1) ≡ first_row_from t k (n - i) i
  unfolding first_row_from
  skip n i h e =
      let s : n - i ≡ suc (n - (i + 1)) = omega arith in
      rw (s, e, add-one i)

  pub found : (n i : ℕ) → i < n → same (account_at t i) k ≡ true → first_row_from t k (n - i) i ≡ i
  unfolding first_row_from
  found n i h e =
      let s : n - i ≡ suc (n - (i + 1)) = omega arith in
      rw (s, e)

  pub ended : (n i : ℕ) → n ≤ i → first_row_from t k (n - i) i ≡ i
  unfolding first_row_from
  ended n i h =
      let s : n - i ≡ 0 = omega arith in
      rw s

  pub within : (f i : ℕ) → first_row_from t k f i ≤ i + f
  unfolding first_row_from
  within zero i = omega arith
  within (suc f) i = go (same (account_at t i) k) (within f (suc i))
    where
      go : (b : Bool) → first_row_from t k f (suc i) ≤ suc i + f → cond b i (first_row_from t k f (suc i)) ≤ i + suc f
      go true h = omega arith
      go false h = omega arith

  missed : (f i : ℕ) → ((r : ℕ) → i ≤ r → r < i + f → same (account_at t r) k ≡ false) → first_row_from t k f i ≡ i + f
  unfolding first_row_from
  missed zero i h = omega arith
  missed (suc f) i h =
      let e : suc i + f ≡ i + suc f = omega arith in
      rw (h i (omega arith) (omega arith)) (missed f (suc i) (λ r a b. h r (omega arith) (omega arith)) ∙ e)

  -- no row's account ends in the key's last byte
  pub unended : (n : ℕ) (ends : List ℕ) → LastBytesSeen t n ends → get_or ends (get_or k 31 0) 0 ≡ 0 → first_row_from t k n 0 ≡ n
  unended n ends f e =
      missed n 0 (λ r a b. account-not r 31 (λ q. f r (omega arith) (ap (λ (x : ℕ). get_or ends x 0) q ∙ e))) ∙ omega arith

  -- what a search over all rows answers
  pub row-found : {i : ℕ} → first_row t k (length t) ≡ i → i < length t → Some i ≡ found_row t k
  unfolding found_row
  row-found {i} e h = rw (e, lt-ltb i (length t) h) refl

  pub row-missing : first_row t k (length t) ≡ length t → None ≡ found_row t k
  unfolding found_row
  row-missing e = rw (e, le-ltb (length t) (length t) (omega arith)) refl

-- the first n rows alone: their accounts, a search in them, and the last bytes
module _ (t : List Row) (n : ℕ) where
  pub account-before : (i : ℕ) → i < n → account_at (take n t) i ≡ account_at t i
  account-before i h = ap (λ (x : Row). x.account) (get_or-take n t i no_row h)

  pub search-before : (k : List ℕ) (f i : ℕ) → i + f ≤ n → first_row_from (take n t) k f i ≡ first_row_from t k f i
  unfolding first_row_from
  search-before k zero i h = refl
  search-before k (suc f) i h = rw (account-before i (omega arith), search-before k f (suc i) (omega arith)) refl

  pub ends-before : (ends : List ℕ) → n ≤ length t → LastBytesSeen t n ends → LastBytesSeen (take n t) (length (take n t)) ends
  ends-before ends h f r l =
      let b : r < n = omega (arith, length-take-le n t h) in
      rw (account-before r b) (f r b)

-- row 0 is there if any row is
pub row_fits : (t : List Row) (row accounts : List ℕ) (i : ℕ) → Fits t row → row_of_account row accounts i < length t
unfolding row_of_account
row_fits t row accounts i f = go (ltb i (length accounts))
  where
    go : (b : Bool) → cond b (get_or row (get_or accounts i 0) 0) 0 < length t
    go true = f (get_or accounts i 0)
    go false = omega (arith, f 0)

-- and its number is at most the one that is kept for the account
pub row_kept : (row accounts : List ℕ) (i : ℕ) → row_of_account row accounts i ≤ get_or row (get_or accounts i 0) 0
unfolding row_of_account
row_kept row accounts i = go (ltb i (length accounts))
  where
    go : (b : Bool) → cond b (get_or row (get_or accounts i 0) 0) 0 ≤ get_or row (get_or accounts i 0) 0
    go true = omega arith
    go false = omega arith
