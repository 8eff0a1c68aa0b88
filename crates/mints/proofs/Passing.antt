-- One transfer more in a pass, and one pass more, each by the tests that lead there.
-- Assumes nothing.
use mathlib.Core.Path.{◌≡◌, refl}
use mathlib.Core.Bool.{Bool, true, false, cond}
use mathlib.Core.Option.{none, some}
use mathlib.Core.List.{List}
use Prim.Native.Nat.{ℕ, zero, suc, ◌+◌, ◌-◌, ◌≤◌, ◌<◌}
use native.Mathlib.Numerals.{add-one}
use native.Mathlib.Omega.{arith}
use lib.Dec.{eqb, ltb}
use lib.ListN.{length}
use borrow.Author.Tests.{eq-eqb, ne_eqb, lt-ltb, le-ltb}
use Rattle.mints.specs.declared.row.Row.{Row}
use Rattle.mints.specs.Cells.{state_at}
use Rattle.mints.specs.declared.pass.Transfer.{Transfer}
use Rattle.mints.specs.Pass.{from_at, to_at, hand_at, step_at, filled_at, pass_to, passes_from}

-- a transfer fills in at most one account
pub one-filled : (t : List Row) (a b : ℕ) → filled_at t a b ≤ 1
unfolding filled_at
one-filled t a b = go (eqb (state_at t a) 0) (ltb 1 (state_at t b)) (eqb (state_at t b) 0) (ltb 1 (state_at t a))
  where
    go : (p q r s : Bool) → cond p (cond q 1 0) (cond r (cond s 1 0) 0) ≤ 1
    go true true r s = omega arith
    go true false r s = omega arith
    go false q true true = omega arith
    go false q true false = omega arith
    go false q false s = omega arith

-- the ways through a step, by the states of the two rows
module _ (t : List Row) (a b : ℕ) where
  pub step-low : state_at t a ≡ 0 → state_at t b ≤ 1 → (step_at t a b ≡ t) × (filled_at t a b ≡ 0)
  unfolding step_at filled_at
  step-low e f = simp (eq-eqb _ _ e, le-ltb 1 (state_at t b) f) (refl, refl)

  pub step_back : state_at t a ≡ 0 → 1 < state_at t b → (step_at t a b ≡ hand_at t b a) × (filled_at t a b ≡ 1)
  unfolding step_at filled_at
  step_back e f = simp (eq-eqb _ _ e, lt-ltb 1 (state_at t b) f) (refl, refl)

  pub step-forth : 1 < state_at t a → state_at t b ≡ 0 → (step_at t a b ≡ hand_at t a b) × (filled_at t a b ≡ 1)
  unfolding step_at filled_at
  step-forth e f = simp (ne_eqb (state_at t a) 0 (λ q. omega arith), eq-eqb _ _ f, lt-ltb 1 (state_at t a) e) (refl, refl)

  pub step-doubled : state_at t a ≡ 1 → state_at t b ≡ 0 → (step_at t a b ≡ t) × (filled_at t a b ≡ 0)
  unfolding step_at filled_at
  step-doubled e f = simp (ne_eqb (state_at t a) 0 (λ q. omega arith), eq-eqb _ _ f, le-ltb 1 (state_at t a) (omega arith)) (refl, refl)

  pub step_both : 0 < state_at t a → 0 < state_at t b → (step_at t a b ≡ t) × (filled_at t a b ≡ 0)
  unfolding step_at filled_at
  step_both e f = simp (ne_eqb (state_at t a) 0 (λ q. omega arith), ne_eqb (state_at t b) 0 (λ q. omega arith)) (refl, refl)

module _ (ts : List Transfer) (t : List Row) where
  pub pass-next : (i : ℕ) {u : List Row} {k : ℕ} → pass_to ts t i ≡ record { table = u; room = k }
      → pass_to ts t (i + 1) ≡ record { table = step_at u (from_at ts i) (to_at ts i); room = k + filled_at u (from_at ts i) (to_at ts i) }
  unfolding pass_to
  pass-next i e = rw (add-one i, e)

  pub filled-bound : (i : ℕ) → (pass_to ts t i).room ≤ i
  unfolding pass_to
  filled-bound zero = omega arith
  filled-bound (suc i) = omega (arith, filled-bound i, one-filled (pass_to ts t i).table (from_at ts i) (to_at ts i))

module _ (ts : List Transfer) (t : List Row) (room p : ℕ) where
  pub passes-last : p < 512 → (pass_to ts t (length ts)).room ≡ 0 → passes_from ts (512 - p) t room p ≡ record { table = (pass_to ts t (length ts)).table; room = room; passes = some (p + 1) }
  unfolding passes_from
  passes-last h e =
      let s : 512 - p ≡ suc (512 - (p + 1)) = omega arith in
      rw (s, eq-eqb _ _ e)

  pub passes-next : p < 512 → ((pass_to ts t (length ts)).room ≡ 0 → ⊥) → passes_from ts (512 - (p + 1)) (pass_to ts t (length ts)).table (room + (pass_to ts t (length ts)).room) (p + 1) ≡ passes_from ts (512 - p) t room p
  unfolding passes_from
  passes-next h e =
      let s : 512 - p ≡ suc (512 - (p + 1)) = omega arith in
      rw (s, ne_eqb _ _ e)

  pub passes_over : 512 ≤ p → passes_from ts (512 - p) t room p ≡ record { table = t; room = room; passes = none }
  unfolding passes_from
  passes_over h =
      let s : 512 - p ≡ 0 = omega arith in
      rw s
