-- What a store in one row of the table leaves of every row: a field is as it was, or is the stored one.
-- Assumes nothing.
use mathlib.Core.Path.{◌≡◌, refl, sym, ap, ◌∙◌, subst}
use mathlib.Core.Logic.{◌≢◌, by_cases}
use mathlib.Core.List.{List}
use Prim.Native.Nat.{ℕ, ◌<◌}
use native.Mathlib.Decide.{ℕ_discrete, dec_lt}
use native.Mathlib.Omega.{arith}
use lib.ListN.{length, get_or, set, length-set}
use lib.Seq.{set_out, set-set, get_or-set_same, get_or-set_other}
use Rattle.ids.specs.Keys.{Key}
use Rattle.mints.specs.declared.row.Row.{Row}
use Rattle.mints.specs.declared.row.State.{State}
use Rattle.mints.specs.Cells.{no_row, number_of, account_at, mint_at, state_at, with_account, with_mint, with_state}

-- a row after a store: the stored one, or as it was
after : (t : List Row) (r : ℕ) (x : Row) (q : ℕ) (P : Row → Type 0) → (q ≡ r → P x) → P (get_or t q no_row) → P (get_or (set t r x) q no_row)
after t r x q P here there =
    by_cases
    (ℕ_discrete q r)
    (λ e.
    by_cases
    (dec_lt r (length t))
    (λ (h : r < length t). subst P (sym (rw e (get_or-set_same t r x no_row h))) (here e))
    (λ (h : ¬ (r < length t)). subst P (sym (ap (λ (l : List Row). get_or l q no_row) (set_out t r x (omega arith)))) there))
    (λ n. subst P (sym (get_or-set_other t r q x no_row n)) there)

module _ (t : List Row) (r : ℕ) (s : State) where
  pub account-state : (q : ℕ) → account_at (with_state t r s) q ≡ account_at t q
  unfolding with_state
  account-state q = after t r _ q (λ (x : Row). x.account ≡ account_at t q) (λ e. ap (account_at t) (sym e)) refl

  pub mint-state : (q : ℕ) → mint_at (with_state t r s) q ≡ mint_at t q
  unfolding with_state
  mint-state q = after t r _ q (λ (x : Row). x.mint ≡ mint_at t q) (λ e. ap (mint_at t) (sym e)) refl

  pub state-other : (q : ℕ) → q ≢ r → state_at (with_state t r s) q ≡ state_at t q
  unfolding with_state
  state-other q n = after t r _ q (λ (x : Row). number_of x.state ≡ state_at t q) (λ e. absurd (n e)) refl

  pub state-here : r < length t → state_at (with_state t r s) r ≡ number_of s
  unfolding with_state
  state-here h = ap (λ (x : Row). number_of x.state) (get_or-set_same t r _ no_row h)

  pub length-state : length (with_state t r s) ≡ length t
  unfolding with_state
  length-state = length-set t r _

module _ (t : List Row) (r : ℕ) (m : Key) (s : State) where
  pub account-mint : (q : ℕ) → account_at (with_mint t r m s) q ≡ account_at t q
  unfolding with_mint
  account-mint q = after t r _ q (λ (x : Row). x.account ≡ account_at t q) (λ e. ap (account_at t) (sym e)) refl

  pub mint-other : (q : ℕ) → q ≢ r → mint_at (with_mint t r m s) q ≡ mint_at t q
  unfolding with_mint
  mint-other q n = after t r _ q (λ (x : Row). x.mint ≡ mint_at t q) (λ e. absurd (n e)) refl

  pub mint-here : r < length t → mint_at (with_mint t r m s) r ≡ m
  unfolding with_mint
  mint-here h = ap (λ (x : Row). x.mint) (get_or-set_same t r _ no_row h)

  pub states-other : (q : ℕ) → q ≢ r → state_at (with_mint t r m s) q ≡ state_at t q
  unfolding with_mint
  states-other q n = after t r _ q (λ (x : Row). number_of x.state ≡ state_at t q) (λ e. absurd (n e)) refl

  pub states-here : r < length t → state_at (with_mint t r m s) r ≡ number_of s
  unfolding with_mint
  states-here h = ap (λ (x : Row). number_of x.state) (get_or-set_same t r _ no_row h)

  pub length-mint : length (with_mint t r m s) ≡ length t
  unfolding with_mint
  length-mint = length-set t r _

-- a mint stored in a row, and then a state
pub mint-then-state : (t : List Row) (r : ℕ) (m : Key) (s : State) → r < length t
    → (let u = set t r (record { account = account_at t r; mint = m; state = (get_or t r no_row).state }) in set u r (record { account = account_at u r; mint = mint_at u r; state = s })) ≡ with_mint t r m s
unfolding with_mint
mint-then-state t r m s h =
    let x : Row = record { account = account_at t r; mint = m; state = (get_or t r no_row).state } in
    ap (λ (y : Row). set (set t r x) r (record { account = y.account; mint = y.mint; state = s })) (get_or-set_same t r x no_row h) ∙ set-set t r x (record { account = account_at t r; mint = m; state = s })

module _ (t : List Row) (r : ℕ) (k : Key) where
  pub account-other : (q : ℕ) → q ≢ r → account_at (with_account t r k) q ≡ account_at t q
  unfolding with_account
  account-other q n = after t r _ q (λ (x : Row). x.account ≡ account_at t q) (λ e. absurd (n e)) refl

  pub account-here : r < length t → account_at (with_account t r k) r ≡ k
  unfolding with_account
  account-here h = ap (λ (x : Row). x.account) (get_or-set_same t r _ no_row h)

  pub state-account : (q : ℕ) → state_at (with_account t r k) q ≡ state_at t q
  unfolding with_account
  state-account q = after t r _ q (λ (x : Row). number_of x.state ≡ state_at t q) (λ e. ap (state_at t) (sym e)) refl

  pub length-account : length (with_account t r k) ≡ length t
  unfolding with_account
  length-account = length-set t r _
