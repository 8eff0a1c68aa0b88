-- Evidence from balance rows and instructions: the working table holds what noting it one by one gives, because a row's account is the account that the
-- evidence names.
-- Assumes nothing.
use mathlib.Core.Path.{◌≡◌, sym, ap, ◌∙◌, subst}
use mathlib.Core.Bool.{Bool, true, false, cond}
use mathlib.Core.List.{List, []}
use Prim.Native.Nat.{ℕ, zero, suc, ◌+◌, ◌*◌, ◌/◌, ◌≤◌, ◌<◌}
use native.Mathlib.Omega.{arith}
use lib.Dec.{ltb}
use lib.ListN.{length, get_or, take, drop}
use Rattle.std.specs.Prelude.{Some}
use Rattle.wire.specs.Le.{le}
use Rattle.ids.specs.Keys.{Key, zero_key, account}
use Rattle.pack.specs.View.{balances_in}
use Rattle.pack.proofs.Rows.{balance-row, balances-length}
use Rattle.token.specs.Records.{both_ends}
use Rattle.token.specs.declared.Token.{Token}
use Rattle.token.specs.declared.Token.TheVariants.{Initialise, Plain, Checked, WithFee}
use Rattle.evidence.specs.Table.{Table}
use Rattle.evidence.specs.Evidence.{note, note_all}
use Rattle.evidence.specs.Gather.{gather}
use Rattle.evidence.proofs.Loops.{gather-take, note_all-append}
use Rattle.mints.specs.declared.row.Row.{Row}
use Rattle.mints.specs.Note.{Noted, note_at, balances_to}
use Rattle.mints.specs.Gather.{row_of_account, note_account, observed}
use Rattle.mints.specs.Inference.{balance_says}
use Rattle.mints.proofs.Pieces.{pieces}
use Rattle.mints.proofs.Holding.{RowsApart, HoldsRows}
use Rattle.mints.proofs.Recorded.{noted}

-- the table holds t, and its rows are counted
pub record Notes (n : ℕ) (α : ℕ → Key) (x : Noted) (t : Table) : Type 0 where
  pub holds : HoldsRows 2 n α x.table t
  pub counts : length t ≡ x.room

-- each key index has its row
abbrev pub Indexed : ℕ → (ℕ → Key) → (ℕ → Key) → List ℕ → Type 0
Indexed n α κ row = (j : ℕ) → (get_or row j 0 < n) × (α (get_or row j 0) ≡ κ j)

-- one note more
noted-at : {n : ℕ} {α : ℕ → Key} → RowsApart n α → (x : Noted) (t : Table) → Notes n α x t → (r : ℕ) → r < n → (a : Key) → α r ≡ a → (m : Key) → Notes n α (note_at x r m) (note t (a, m))
unfolding note_at
noted-at {n} {α} p x t h r l a e m =
    let y = noted p x.table t h.holds r l m in
    rw (← e) (record { holds = y.0; counts = y.1 ∙ omega (arith, h.counts) })

module _ {n : ℕ} {α κ : ℕ → Key} (p : RowsApart n α) (long : (j : ℕ) → length (κ j) ≡ 32) (row : List ℕ) (at : Indexed n α κ row) where
  -- the row of an instruction's account, and the account
  pub row-account : (a : List ℕ) (i : ℕ) → (row_of_account row a i < n) × (α (row_of_account row a i) ≡ account κ a i)
  unfolding row_of_account
  row-account a i = go (ltb i (length a))
    where
      go : (b : Bool) → (cond b (get_or row (get_or a i 0) 0) 0 < n) × (α (cond b (get_or row (get_or a i 0) 0) 0) ≡ cond b (κ (get_or a i 0)) zero_key)
      go true = at (get_or a i 0)
      go false = (p.some_row, p.zero_row)

  one-account : (a : List ℕ) (x : Noted) (t : Table) (i : ℕ) → Notes n α x t → Notes n α (note_account κ row a x i) (note t (account κ a i, account κ a 1))
  unfolding note_account
  one-account a x t i h = let r = row-account a i in noted-at p x t h (row_of_account row a i) r.0 (account κ a i) r.1 (account κ a 1)

  -- a token instruction
  pub observes : (token : Token) (a : List ℕ) (x : Noted) (t : Table) → Notes n α x t → Notes n α (observed κ row token a x) (note_all t (pieces κ (Some token) a))
  unfolding observed pieces both_ends note_all
  observes Initialise a x t h = one-account a x t 0 h
  observes (Plain k) a x t h = h
  observes (Checked k) a x t h = one-account a (note_account κ row a x 0) (note t (account κ a 0, account κ a 1)) 2 (one-account a x t 0 h)
  observes (WithFee k f) a x t h = one-account a (note_account κ row a x 0) (note t (account κ a 0, account κ a 1)) 2 (one-account a x t 0 h)

-- one balance row more
balances-next : (κ : ℕ → Key) (t : Table) (s : List ℕ) (i : ℕ) → i < length s / 36
    → note_all t (gather (balance_says κ) (take (suc i) (balances_in s))) ≡ note (note_all t (gather (balance_says κ) (take i (balances_in s)))) (κ (le 4 s (i * 36)), take 32 (drop (i * 36 + 4) s))
unfolding balance_says note_all
balances-next κ t s i h =
    ap (note_all t) (gather-take (balance_says κ) (balances_in s) i (0, []) (omega (arith, balances-length s)))
    ∙ note_all-append t (gather (balance_says κ) (take i (balances_in s))) (balance_says κ (get_or (balances_in s) i (0, [])))
    ∙ ap (λ (b : ℕ × Key). note_all (note_all t (gather (balance_says κ) (take i (balances_in s)))) (balance_says κ b)) (balance-row s i (0, []) h)

-- the balance rows
pub balances-noted : {n : ℕ} {α κ : ℕ → Key} → RowsApart n α → (row : List ℕ) → Indexed n α κ row → (s : List ℕ) (w : List Row) (t : Table) → Notes n α (record { table = w; room = 0 }) t → (i : ℕ) → i ≤ length s / 36
    → Notes n α (balances_to s row w i) (note_all t (gather (balance_says κ) (take i (balances_in s))))
unfolding balances_to gather note_all
balances-noted p row at s w t h zero l = h
balances-noted {n} {α} {κ} p row at s w t h (suc i) l =
    let j = le 4 s (i * 36) in
    let m = take 32 (drop (i * 36 + 4) s) in
    let u = note_all t (gather (balance_says κ) (take i (balances_in s))) in
    let y = noted-at p (balances_to s row w i) u (balances-noted p row at s w t h i (omega arith)) (get_or row j 0) (at j).0 (κ j) (at j).1 m in
    subst (λ (v : Table). Notes n α (note_at (balances_to s row w i) (get_or row j 0) m) v) (sym (balances-next κ t s i (omega arith))) y
