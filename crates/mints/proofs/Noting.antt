-- The ways through a note of evidence, each by the tests that lead there, and one balance row more.
-- Assumes nothing.
use mathlib.Core.Path.{◌≡◌, refl}
use mathlib.Core.Logic.{◌≢◌}
use mathlib.Core.Bool.{Bool, true, false, cond}
use mathlib.Core.List.{List}
use Prim.Native.Nat.{ℕ, ◌+◌, ◌*◌, ◌≤◌}
use native.Mathlib.Numerals.{add-one}
use native.Mathlib.Omega.{arith}
use lib.Dec.{eqb}
use lib.ListN.{get_or, take, drop}
use borrow.Author.Tests.{eq-eqb, ne_eqb}
use Rattle.wire.specs.Le.{le}
use Rattle.wire.specs.Same.{same}
use Rattle.ids.specs.Keys.{Key, zero_key, account}
use Rattle.mints.specs.declared.row.Row.{Row}
use Rattle.mints.specs.declared.row.State.TheVariants.{Ambiguous, Recorded}
use Rattle.mints.specs.Cells.{mint_at, state_at, with_mint, with_state}
use Rattle.mints.specs.Gather.{row_of_account, note_account}
use Rattle.mints.specs.Note.{record_at, new_at, Noted, note_at, balances_to}

module _ (t : List Row) (r : ℕ) (m : Key) where
  pub note-zero : same m zero_key ≡ true → (t ≡ record_at t r m) × (0 ≡ new_at t r m)
  unfolding record_at new_at
  note-zero e = simp e (refl, refl)

  pub note-first : same m zero_key ≡ false → state_at t r ≡ 0 → (with_mint t r m Recorded ≡ record_at t r m) × (1 ≡ new_at t r m)
  unfolding record_at new_at
  note-first e f = simp (e, eq-eqb _ _ f) (refl, refl)

  -- a zero mint and another one leave the same
  idle : (b : Bool) → (t ≡ cond b t t) × (◌≡◌ {A = ℕ} 0 (cond b 0 0))
  idle true = (refl, refl)
  idle false = (refl, refl)

  pub note-ambiguous : state_at t r ≢ 0 → state_at t r ≢ 2 → (t ≡ record_at t r m) × (0 ≡ new_at t r m)
  unfolding record_at new_at
  note-ambiguous f g = simp (ne_eqb _ _ f, ne_eqb _ _ g) (idle (same m zero_key))

  pub note-again : state_at t r ≡ 2 → same m (mint_at t r) ≡ true → (t ≡ record_at t r m) × (0 ≡ new_at t r m)
  unfolding record_at new_at
  note-again f g = simp (f, g) (idle (same m zero_key))

  pub note-other : same m zero_key ≡ false → state_at t r ≡ 2 → same m (mint_at t r) ≡ false → (with_state t r Ambiguous ≡ record_at t r m) × (0 ≡ new_at t r m)
  unfolding record_at new_at
  note-other e f g = simp (e, f, g) (refl, refl)

  pub one-new : new_at t r m ≤ 1
  unfolding new_at
  one-new = go (same m zero_key) (eqb (state_at t r) 0)
    where
      go : (a b : Bool) → cond a 0 (cond b 1 0) ≤ 1
      go true b = omega arith
      go false true = omega arith
      go false false = omega arith

-- one balance row more
pub balance-next : (s row : List ℕ) (t : List Row) (i : ℕ) {u : List Row} {k : ℕ} → balances_to s row t i ≡ record { table = u; room = k }
    → balances_to s row t (i + 1) ≡ note_at (record { table = u; room = k }) (get_or row (le 4 s (i * 36)) 0) (take 32 (drop (i * 36 + 4) s))
unfolding balances_to
balance-next s row t i e = rw (add-one i, e)

-- a note records at most one account more
pub one_more : (κ : ℕ → Key) (row accounts : List ℕ) (x : Noted) (i : ℕ) → (note_account κ row accounts x i).room ≤ x.room + 1
unfolding note_account note_at
one_more κ row accounts x i = omega (arith, one-new x.table (row_of_account row accounts i) (account κ accounts 1))
