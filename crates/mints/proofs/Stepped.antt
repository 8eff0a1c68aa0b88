-- Plain transfers: a step between two rows is a step between their accounts, in each pair of states that they can have.
-- Assumes nothing.
use mathlib.Core.Path.{◌≡◌, refl, ap, ◌∙◌}
use mathlib.Core.Logic.{by_cases}
use mathlib.Core.Bool.{or-true}
use mathlib.Core.Option.{none, some}
use mathlib.Core.List.{List, [], ◌∷◌, ◌++◌}
use Prim.Native.Nat.{ℕ, zero, suc, ◌+◌, ◌<◌}
use native.Mathlib.Decide.{ℕ_discrete}
use native.Mathlib.Omega.{arith}
use lib.ListN.{length}
use Rattle.wire.proofs.Same.{same-eq}
use Rattle.ids.specs.Keys.{Key, zero_key, is_zero}
use Rattle.evidence.specs.Table.{Table, add, lookup}
use Rattle.evidence.specs.Passes.{Transfers, step, pass}
use Rattle.evidence.proofs.Passes.{length-add}
use Rattle.evidence.proofs.Lookups.{add-here, add-other, step-zero, step-forth, step_back, step-known, step-unknown, step-ambiguous, step-ambiguous-back}
use Rattle.evidence.proofs.Loops.{pass-append}
use Rattle.mints.specs.declared.row.Row.{Row}
use Rattle.mints.specs.declared.row.State.TheVariants.{FilledIn}
use Rattle.mints.specs.Cells.{number_of, mint_at, state_at, state_says}
use Rattle.mints.specs.declared.pass.Transfer.{Transfer}
use Rattle.mints.specs.Pass.{from_at, to_at, hand_at, step_at, filled_at, pass_to}
use Rattle.mints.proofs.Passing as passing
use Rattle.mints.proofs.Fields.{mint-here, states-here}
use Rattle.mints.proofs.Holding.{RowsApart, not-zero, HoldsRows, was, Was, changed-mint, update, keep}

-- the table holds t, and what is recorded is r₀
pub record Held (n : ℕ) (α : ℕ → Key) (r₀ : Table) (w : List Row) (t : Table) : Type 0 where
  pub now : HoldsRows 3 n α w t
  pub then : Was n α w r₀

module _ {n : ℕ} {α : ℕ → Key} {r₀ : Table} (p : RowsApart n α) {w : List Row} {t : Table} (h : Held n α r₀ w t) where
  -- a mint handed from row a to row b
  handed : (a b : ℕ) → 0 < b → a < n → b < n → state_at w b ≡ 0 → 1 < state_at w a → Held n α r₀ (hand_at w a b) (add t (α b) (mint_at w a)) × (length (add t (α b) (mint_at w a)) ≡ length t + 1)
  unfolding state_says was number_of
  handed a b z k l q o =
      let f : b < length w = omega (arith, h.now.long) in
      let s = states-here w b (mint_at w a) FilledIn f in
      let m = mint-here w b (mint_at w a) FilledIn f in
      let g : lookup t (α b) ≡ none = h.now.said b z l ∙ rw q in (
        record {
          now = update p h.now b z l (changed-mint w b (mint_at w a) FilledIn) (λ c d. add-other t (mint_at w a) d) (add-here t (α b) (mint_at w a) g ∙ rw (s, m)) (λ _. rw m (h.now.mint a k o)) (omega (arith, s));
          then = keep h.then b (changed-mint w b (mint_at w a) FilledIn) (rw (s, q));
        },
        length-add t (α b) (mint_at w a) ∙ omega arith,
      )

  -- what is to be shown of a step
  SteppedRow : ℕ → ℕ → Type 0
  SteppedRow a b = Held n α r₀ (step_at w a b) (step t (α a, α b)) × (length (step t (α a, α b)) ≡ length t + filled_at w a b)

  -- nothing happens, in the working table or in t
  still : (a b : ℕ) → (step_at w a b ≡ w) × (filled_at w a b ≡ 0) → step t (α a, α b) ≡ t → SteppedRow a b
  unfolding SteppedRow
  still a b q e = rw (q.0, q.1, e) (h, omega arith)

  -- by the states of the two rows
  module _ (a b : ℕ) (za : 0 < a) (zb : 0 < b) (k : a < n) (l : b < n) where
    unsaid : (r : ℕ) → 0 < r → r < n → state_at w r ≡ 0 → lookup t (α r) ≡ none
    unfolding state_says
    unsaid r z o q = h.now.said r z o ∙ rw q

    doubled : (r : ℕ) → 0 < r → r < n → state_at w r ≡ 1 → lookup t (α r) ≡ some zero_key
    unfolding state_says
    doubled r z o q = h.now.said r z o ∙ rw q

    known : (r x : ℕ) → 0 < r → r < n → state_at w r ≡ suc (suc x) → lookup t (α r) ≡ some (mint_at w r)
    unfolding state_says
    known r x z o q = h.now.said r z o ∙ rw q

    by-states : (x y : ℕ) → state_at w a ≡ x → state_at w b ≡ y → SteppedRow a b
    unfolding SteppedRow
    by-states zero zero e f = still a b (passing.step-low w a b e (omega arith)) (step-unknown t (α a, α b) (unsaid a za k e) (unsaid b zb l f))
    by-states zero (suc zero) e f = still a b (passing.step-low w a b e (omega arith)) (step-ambiguous-back t (α a, α b) (unsaid a za k e) (doubled b zb l f))
    by-states zero (suc (suc y)) e f =
        let g = passing.step_back w a b e (omega arith) in
        rw (g.0, g.1, step_back t (α a, α b) (mint_at w b) (not-zero p a za k) (not-zero p b zb l) (unsaid a za k e) (known b y zb l f) (h.now.mint b l (omega arith)))
        (handed b a za l k e (omega arith))
    by-states (suc zero) zero e f = still a b (passing.step-doubled w a b e f) (step-ambiguous t (α a, α b) (doubled a za k e) (unsaid b zb l f))
    by-states (suc (suc x)) zero e f =
        let g = passing.step-forth w a b (omega arith) f in
        rw (g.0, g.1, step-forth t (α a, α b) (mint_at w a) (not-zero p a za k) (not-zero p b zb l) (known a x za k e) (h.now.mint a k (omega arith)) (unsaid b zb l f))
        (handed a b zb k l f (omega arith))
    by-states (suc zero) (suc zero) e f = still a b (passing.step_both w a b (omega arith) (omega arith)) (step-known t (α a, α b) zero_key zero_key (doubled a za k e) (doubled b zb l f))
    by-states (suc zero) (suc (suc y)) e f = still a b (passing.step_both w a b (omega arith) (omega arith)) (step-known t (α a, α b) zero_key (mint_at w b) (doubled a za k e) (known b y zb l f))
    by-states (suc (suc x)) (suc zero) e f = still a b (passing.step_both w a b (omega arith) (omega arith)) (step-known t (α a, α b) (mint_at w a) zero_key (known a x za k e) (doubled b zb l f))
    by-states (suc (suc x)) (suc (suc y)) e f = still a b (passing.step_both w a b (omega arith) (omega arith)) (step-known t (α a, α b) (mint_at w a) (mint_at w b) (known a x za k e) (known b y zb l f))

  -- row 0 at an end
  row_zero : (r : ℕ) → r ≡ 0 → state_at w r ≡ 1
  row_zero r z = ap (λ (k : ℕ). state_at w k) z ∙ h.now.first

  from_zero : (a b : ℕ) → a ≡ 0 → SteppedRow a b
  from_zero a b z =
      by_cases
      (ℕ_discrete (state_at w b) 0)
      (λ f. still a b (passing.step-doubled w a b (row_zero a z) f) idle)
      (λ f. still a b (passing.step_both w a b (omega (arith, row_zero a z)) (omega arith)) idle)
    where
      idle : step t (α a, α b) ≡ t
      idle = step-zero t (α a, α b) (rw (same-eq (ap α z ∙ p.zero_row)))

  to-zero : (a b : ℕ) → b ≡ 0 → SteppedRow a b
  to-zero a b z =
      by_cases
      (ℕ_discrete (state_at w a) 0)
      (λ f. still a b (passing.step-low w a b f (omega (arith, row_zero b z))) idle)
      (λ f. still a b (passing.step_both w a b (omega arith) (omega (arith, row_zero b z))) idle)
    where
      idle : step t (α a, α b) ≡ t
      idle = step-zero t (α a, α b) (rw (same-eq (ap α z ∙ p.zero_row)) (or-true (is_zero (α a))))

  pub stepped : (a b : ℕ) → a < n → b < n → Held n α r₀ (step_at w a b) (step t (α a, α b)) × (length (step t (α a, α b)) ≡ length t + filled_at w a b)
  unfolding SteppedRow
  stepped a b k l =
      by_cases
      (ℕ_discrete a 0)
      (λ z. from_zero a b z)
      (λ za. by_cases (ℕ_discrete b 0) (λ z. to-zero a b z) (λ zb. by-states a b (omega arith) (omega arith) k l (state_at w a) (state_at w b) refl refl))

-- the accounts of the first i transfers between rows
unfoldable pub pairs_to : (ℕ → Key) → List Transfer → ℕ → Transfers
pairs_to α ts zero = []
pairs_to α ts (suc i) = pairs_to α ts i ++ ((α (from_at ts i), α (to_at ts i)) ∷ [])

-- a pass over row numbers is a pass over their accounts
pub passed : {n : ℕ} {α : ℕ → Key} {r₀ : Table} → RowsApart n α → {w : List Row} {t : Table} → Held n α r₀ w t → (ts : List Transfer) → ((i : ℕ) → from_at ts i < n) → ((i : ℕ) → to_at ts i < n) → (i : ℕ)
    → Held n α r₀ (pass_to ts w i).table (pass t (pairs_to α ts i)) × (length (pass t (pairs_to α ts i)) ≡ length t + (pass_to ts w i).room)
unfolding pass_to pairs_to pass
passed p h ts a b zero = (h, omega arith)
passed {n} {α} {r₀} p {w} {t} h ts a b (suc i) =
    let x = passed p h ts a b i in
    let y = stepped p x.0 (from_at ts i) (to_at ts i) (a i) (b i) in
    rw (pass-append t (pairs_to α ts i) ((α (from_at ts i), α (to_at ts i)) ∷ [])) (y.0, omega (arith, x.1, y.1))
