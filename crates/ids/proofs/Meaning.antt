-- What the cases of `Id` mean: a key has the case of a row exactly when it is that row's id, and System's exactly when it is zero.
-- Assumes nothing.
use mathlib.Core.Path.{◌≡◌, refl, sym, ◌∙◌, ap}
use mathlib.Core.Bool.{true}
use Prim.Native.Nat.{ℕ, ◌<◌}
use native.Mathlib.Omega.{arith}
use borrow.Author.Tests.{eqb-true}
use lib.Dec.{eqb}
use Rattle.wire.specs.Below.{all_below}
use Rattle.wire.proofs.Below.{below_at}
use Rattle.ids.specs.Keys.{Key, zero_key}
use Rattle.ids.specs.Ids.{id_at}
use Rattle.ids.specs.Which.{number_of, of_number, row_from, which}
use Rattle.ids.specs.declared.Id.TheVariants.{System}
use Rattle.ids.proofs.Rows.{RowFound, at, no_row_zero, no_row, row-view, found, found-zero}

all-numbers : all_below (λ n. eqb (number_of (of_number n)) n) 17 ≡ true
unfolding of_number
all-numbers = refl

-- each number below 17 is that of one case
pub number_of-of : (n : ℕ) → n < 17 → number_of (of_number n) ≡ n
number_of-of n h = eqb-true _ n (below_at (λ k. eqb (number_of (of_number k)) k) 17 all-numbers n h)

-- the number of a key's case is what the search finds
pub which-number : (key : Key) → number_of (which key) ≡ row_from key 14 0
unfolding which
which-number key = number_of-of (row_from key 14 0) (small (row-view key 14 0))
  where
    small : {j : ℕ} → RowFound key 14 0 j → j < 17
    small (at h e) = omega arith
    small (no_row_zero e) = omega arith
    small (no_row n f) = omega arith

-- a key with the case of a row is that row's id
pub case-is : (key : Key) (k : ℕ) → k < 14 → number_of (which key) ≡ k → id_at k ≡ key
case-is key k h q = go (sym (which-number key) ∙ q) (row-view key 14 0)
  where
    go : {j : ℕ} → j ≡ k → RowFound key 14 0 j → id_at k ≡ key
    go p (at h e) = rw (← p) e
    go p (no_row_zero e) = absurd (omega arith)
    go p (no_row n f) = absurd (omega arith)

-- and a row's id has the case of that row
pub is-case : (key : Key) (k : ℕ) → k < 14 → id_at k ≡ key → number_of (which key) ≡ k
is-case key k h q = which-number key ∙ found key k h q

-- a key that has System's case is zero
pub system-is : (key : Key) → which key ≡ System → key ≡ zero_key
system-is key q = go (sym (which-number key) ∙ ap number_of q) (row-view key 14 0)
  where
    go : {j : ℕ} → j ≡ 14 → RowFound key 14 0 j → key ≡ zero_key
    go p (at h e) = absurd (omega arith)
    go p (no_row_zero e) = e
    go p (no_row n f) = absurd (omega arith)

-- and the zero key has it
pub is-system : which zero_key ≡ System
unfolding which of_number
is-system = ap of_number (found-zero zero_key refl)
