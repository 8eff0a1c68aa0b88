-- The rows with a mint, ascending by account, and what is written of them.
-- Assumes nothing.
use Rattle.std.specs.Prelude.{ℕ, zero, suc, ◌-◌, ◌≤◌, ◌≡◌, false, cond, ltb, get_or, take, drop}
use mathlib.Core.List.{List, [], ◌∷◌, ◌++◌, Memᴰ}
use Rattle.wire.specs.Order.{lt_key}
use Rattle.ids.specs.Keys.{Key, zero_key}
use Rattle.mints.specs.declared.row.Row.{Row}
use Rattle.mints.specs.Cells.{account_at, mint_at, state_at}

-- the first place of the list l whose row has a greater account than row r
unfoldable pub spot_in : List Row → ℕ → List ℕ → ℕ
spot_in t r [] = 0
spot_in t r (q ∷ l) = let rest = spot_in t r l in cond (lt_key (account_at t r) (account_at t q)) 0 (suc rest)

-- no row of a list has a lesser account than one before it
pub data Rising (t : List Row) : List ℕ → Type 0 where
  rising_nil : Rising t []
  rising_cons : {r : ℕ} {l : List ℕ} → ((q : ℕ) → Memᴰ q l → lt_key (account_at t q) (account_at t r) ≡ false) → Rising t l → Rising t (r ∷ l)

-- the list with r put in at place j
abbrev pub put_in : List ℕ → ℕ → ℕ → List ℕ
put_in l j r = take j l ++ (r ∷ drop j l)

-- those of the first n rows that have a mint, in order
unfoldable pub sort_to : List Row → ℕ → List ℕ
sort_to t zero = []
sort_to t (suc r) = let l = sort_to t r in cond (ltb 1 (state_at t r)) (put_in l (spot_in t r l) r) l

-- a row as it is written: account, mint, mark
unfoldable pub row_bytes : List Row → ℕ → List ℕ
row_bytes t r = account_at t r ++ mint_at t r ++ ((state_at t r - 2) ∷ [])

unfoldable pub rows_bytes : List Row → List ℕ → List ℕ
rows_bytes t [] = []
rows_bytes t (r ∷ l) = row_bytes t r ++ rows_bytes t l

-- the mint of row r, zero where it has none
unfoldable pub shown_mint : List Row → ℕ → Key
shown_mint t r = cond (ltb 1 (state_at t r)) (mint_at t r) zero_key

-- the mints of the rows of the first n key indexes
unfoldable pub mints_to : List Row → List ℕ → ℕ → List ℕ
mints_to t row zero = []
mints_to t row (suc i) = mints_to t row i ++ shown_mint t (get_or row i 0)

-- nothing but zero from place i on
abbrev pub Blank : List ℕ → ℕ → Type 0
Blank l i = (k : ℕ) → i ≤ k → get_or l k 0 ≡ 0
