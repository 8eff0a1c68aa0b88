-- What it means that the working table holds what a table of mints says, and that a change of one row keeps it so. α r is the account of row r.
-- Assumes nothing.
use mathlib.Core.Path.{◌≡◌, refl, sym, ◌∙◌}
use mathlib.Core.Logic.{◌≢◌, by_cases}
use mathlib.Core.Option.{Option, none, some}
use mathlib.Core.List.{List}
use Prim.Native.Nat.{ℕ, zero, suc, ◌≤◌, ◌<◌}
use native.Mathlib.Decide.{ℕ_discrete}
use native.Mathlib.Omega.{arith}
use lib.ListN.{length}
use Rattle.wire.proofs.Order.{key?}
use Rattle.ids.specs.Keys.{Key, zero_key}
use Rattle.evidence.specs.Table.{Table, lookup}
use Rattle.mints.specs.declared.row.Row.{Row}
use Rattle.mints.specs.declared.row.State.{State}
use Rattle.mints.specs.Cells.{account_at, mint_at, state_at, state_says, with_mint, with_state}
use Rattle.mints.proofs.Fields.{account-state, mint-state, state-other, length-state, account-mint, mint-other, states-other, length-mint}

-- n rows with different accounts, the zero key's first
pub record RowsApart (n : ℕ) (α : ℕ → Key) : Type 0 where
  pub some_row : 0 < n
  pub zero_row : α 0 ≡ zero_key
  pub apart : (r q : ℕ) → r < n → q < n → α r ≡ α q → r ≡ q

-- no other row is the zero key's
pub not-zero : {n : ℕ} {α : ℕ → Key} → RowsApart n α → (r : ℕ) → 0 < r → r < n → α r ≢ zero_key
not-zero p r h k e = let z : r ≡ 0 = p.apart r 0 k p.some_row (e ∙ sym p.zero_row) in omega arith

-- the rows of t, as states up to b and mints
pub record HoldsRows (b n : ℕ) (α : ℕ → Key) (w : List Row) (t : Table) : Type 0 where
  pub long : n ≤ length w
  pub account : (r : ℕ) → r < n → account_at w r ≡ α r
  pub first : state_at w 0 ≡ 1
  pub low : (r : ℕ) → r < n → state_at w r ≤ b
  pub said : (r : ℕ) → 0 < r → r < n → lookup t (α r) ≡ state_says (state_at w r) (mint_at w r)
  pub mint : (r : ℕ) → r < n → 1 < state_at w r → mint_at w r ≢ zero_key
  pub cover : (a m : Key) → lookup t a ≡ some m → (r : ℕ) × (0 < r) × (r < n) × (α r ≡ a)

-- what a state and a mint say of an account before the passes
unfoldable pub was : ℕ → Key → Option Key
was zero m = none
was (suc zero) m = some zero_key
was (suc (suc zero)) m = some m
was (suc (suc (suc s))) m = none

-- the rows of t, as states and mints that are recorded
pub record Was (n : ℕ) (α : ℕ → Key) (w : List Row) (t : Table) : Type 0 where
  pub wrote : (r : ℕ) → 0 < r → r < n → lookup t (α r) ≡ was (state_at w r) (mint_at w r)

-- v is w but for the mint and the state of row r
pub record Changed (w v : List Row) (r : ℕ) : Type 0 where
  pub length : length v ≡ length w
  pub account : (q : ℕ) → account_at v q ≡ account_at w q
  pub mint : (q : ℕ) → q ≢ r → mint_at v q ≡ mint_at w q
  pub state : (q : ℕ) → q ≢ r → state_at v q ≡ state_at w q

pub unchanged : (w : List Row) (r : ℕ) → Changed w w r
unchanged w r = record { length = refl; account = λ q. refl; mint = λ q n. refl; state = λ q n. refl }

pub changed-state : (w : List Row) (r : ℕ) (s : State) → Changed w (with_state w r s) r
changed-state w r s = record { length = length-state w r s; account = λ q. account-state w r s q; mint = λ q n. mint-state w r s q; state = λ q n. state-other w r s q n }

pub changed-mint : (w : List Row) (r : ℕ) (m : Key) (s : State) → Changed w (with_mint w r m s) r
changed-mint w r m s =
    record {
      length = length-mint w r m s;
      account = λ q. account-mint w r m s q;
      mint = λ q n. mint-other w r m s q n;
      state = λ q n. states-other w r m s q n;
    }

-- a change of row r, for which u differs from t at the row's account alone
pub update : {b n : ℕ} {α : ℕ → Key} {w v : List Row} {t u : Table} → RowsApart n α → HoldsRows b n α w t → (r : ℕ) → 0 < r → r < n → Changed w v r
    → ((a : Key) → a ≢ α r → lookup u a ≡ lookup t a)
    → lookup u (α r) ≡ state_says (state_at v r) (mint_at v r)
    → (1 < state_at v r → mint_at v r ≢ zero_key)
    → state_at v r ≤ b
    → HoldsRows b n α v u
update {b} {n} {α} {w} {v} {t} {u} p h r z l c other here mint low =
    record {
      long = rw c.length h.long;
      account = λ q k. c.account q ∙ h.account q k;
      first = c.state 0 (omega arith) ∙ h.first;
      low = λ q k. by_cases (ℕ_discrete q r) (λ e. rw e low) (λ d. rw (c.state q d) (h.low q k));
      said = λ q y k. by_cases (ℕ_discrete q r) (λ e. rw e here) (λ d. other (α q) (λ e. d (p.apart q r k l e)) ∙ h.said q y k ∙ sym (rw (c.state q d, c.mint q d)));
      mint = λ q k g. by_cases (ℕ_discrete q r) (λ e. rw e (mint (rw e at g))) (λ d. rw (c.mint q d) (h.mint q k (rw (c.state q d) at g)));
      cover = λ a m e. by_cases (key? a (α r)) (λ q. (r, z, l, sym q)) (λ d. h.cover a m (sym (other a d) ∙ e));
    }

-- a change that leaves what was recorded
pub keep : {n : ℕ} {α : ℕ → Key} {w v : List Row} {t : Table} → Was n α w t → (r : ℕ) → Changed w v r → was (state_at v r) (mint_at v r) ≡ was (state_at w r) (mint_at w r) → Was n α v t
keep {n} {α} {w} {v} {t} h r c e =
    record { wrote = λ q y k. h.wrote q y k ∙ by_cases (ℕ_discrete q r) (λ d. rw d (sym e)) (λ d. sym (rw (c.state q d, c.mint q d))) }
