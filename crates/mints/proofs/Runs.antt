-- Passes over row numbers until one fills in nothing are passes over the accounts until one adds nothing, because both count the same accounts.
-- Assumes nothing.
use mathlib.Core.Path.{◌≡◌, refl, ap, ◌∙◌, subst}
use mathlib.Core.Logic.{◌≢◌, by_cases}
use mathlib.Core.Option.{Option, none, some}
use mathlib.Core.List.{List, [], ◌∷◌}
use Prim.Native.Nat.{ℕ, zero, suc, ◌+◌, ◌-◌, ◌<◌}
use native.Mathlib.Decide.{ℕ_discrete}
use native.Mathlib.Numerals.{add-one}
use native.Mathlib.Omega.{arith}
use lib.ListN.{length}
use borrow.Author.Tests.{eq-eqb, ne_eqb}
use Rattle.ids.specs.Keys.{Key}
use Rattle.evidence.specs.Table.{Table}
use Rattle.evidence.specs.Evidence.{Evidence, recorded}
use Rattle.evidence.specs.Passes.{Transfers, pass}
use Rattle.evidence.specs.Run.{TableAfter, run}
use Rattle.evidence.specs.Infer as theory
use Rattle.evidence.proofs.Infer as laws
use Rattle.evidence.proofs.Loops.{plus, run-start, run-next, run-last, run-over, infer-empty, infer-run}
use Rattle.mints.specs.declared.row.Row.{Row}
use Rattle.mints.specs.declared.pass.Transfer.{Transfer}
use Rattle.mints.specs.Pass.{from_at, to_at, pass_to, Ran, passes_from, passes}
use Rattle.mints.proofs.Holding.{RowsApart}
use Rattle.mints.proofs.Stepped.{Held, pairs_to, passed}

-- what the passes come to: a table that is held, with its rows and passes counted, or too many passes
pub data Ended (n : ℕ) (α : ℕ → Key) (r₀ : Table) (x : Ran) : Option TableAfter → Type 0 where
  done : {u : Table} {k : ℕ} → Held n α r₀ x.table u → length u ≡ x.room → x.passes ≡ some k → Ended n α r₀ x (some (u, k))
  over : x.passes ≡ none → Ended n α r₀ x none

no_rows : (t : Table) → length t ≡ 0 → t ≡ []
no_rows [] q = refl
no_rows (x ∷ t) q = absurd (omega arith)

module _ {n : ℕ} {α : ℕ → Key} {r₀ : Table} (p : RowsApart n α) (ts : List Transfer) (a : (i : ℕ) → from_at ts i < n) (b : (i : ℕ) → to_at ts i < n) where
  runs : (d k : ℕ) → k + d ≡ 512 → {w : List Row} {t : Table} (room : ℕ) → Held n α r₀ w t → length t ≡ room
      → Ended n α r₀ (passes_from ts d w room k) (plus k (run (512 - k) (theory.pass_over (pairs_to α ts (length ts))) t))
  unfolding passes_from
  runs zero k q {w} {t} room h e =
      let z : k ≡ 512 = omega arith in
      rw (z, run-over 512 (theory.pass_over (pairs_to α ts (length ts))) t) (over refl)
  runs (suc d) k q {w} {t} room h e =
      by_cases
      (ℕ_discrete (pass_to ts w (length ts)).room 0)
      (λ z. last z (passed p h ts a b (length ts)))
      (λ z. next z (passed p h ts a b (length ts)) (λ u v. runs d (k + 1) (omega arith) {w = (pass_to ts w (length ts)).table} {t = pass t (pairs_to α ts (length ts))} (room + (pass_to ts w (length ts)).room) u v))
    where
      ps : Transfers
      ps = pairs_to α ts (length ts)

      last : (pass_to ts w (length ts)).room ≡ 0 → Held n α r₀ (pass_to ts w (length ts)).table (pass t (pairs_to α ts (length ts))) × (length (pass t (pairs_to α ts (length ts))) ≡ length t + (pass_to ts w (length ts)).room)
          → Ended n α r₀ (passes_from ts (suc d) w room k) (plus k (run (512 - k) (theory.pass_over (pairs_to α ts (length ts))) t))
      last z x =
          let l : length (pass t (pairs_to α ts (length ts))) ≡ length t = omega (arith, x.1) in
          rw (eq-eqb _ _ z, run-last 512 (theory.pass_over (pairs_to α ts (length ts))) k t (omega arith) l)
          (done (subst (λ (u : Table). Held n α r₀ (pass_to ts w (length ts)).table u) (laws.pass-still t (pairs_to α ts (length ts)) l).1 x.0) e (ap some (add-one k)))

      next : (pass_to ts w (length ts)).room ≢ 0 → Held n α r₀ (pass_to ts w (length ts)).table (pass t (pairs_to α ts (length ts))) × (length (pass t (pairs_to α ts (length ts))) ≡ length t + (pass_to ts w (length ts)).room)
          → (Held n α r₀ (pass_to ts w (length ts)).table (pass t (pairs_to α ts (length ts))) → length (pass t (pairs_to α ts (length ts))) ≡ room + (pass_to ts w (length ts)).room → Ended n α r₀ (passes_from ts d (pass_to ts w (length ts)).table (room + (pass_to ts w (length ts)).room) (k + 1)) (plus (k + 1) (run (512 - (k + 1)) (theory.pass_over (pairs_to α ts (length ts))) (pass t (pairs_to α ts (length ts))))))
          → Ended n α r₀ (passes_from ts (suc d) w room k) (plus k (run (512 - k) (theory.pass_over (pairs_to α ts (length ts))) t))
      next z x below =
          rw (ne_eqb _ _ z, run-next 512 (theory.pass_over (pairs_to α ts (length ts))) k t (omega arith) (λ l. z (omega (arith, x.1))), ← add-one k)
          (below x.0 (omega (arith, x.1)))

  -- from what is recorded
  pub ran : (e : Evidence) {w : List Row} (room : ℕ) → Held n α r₀ w (recorded e) → length (recorded e) ≡ room → Ended n α r₀ (passes ts w room) (theory.infer 512 e (pairs_to α ts (length ts)))
  unfolding passes
  ran e {w} room h q =
      by_cases
      (ℕ_discrete room 0)
      (λ z.
      rw (eq-eqb _ _ z, infer-empty 512 e (pairs_to α ts (length ts)) (q ∙ z))
      (done (subst (λ (u : Table). Held n α r₀ w u) (no_rows (recorded e) (q ∙ z)) h) refl refl))
      (λ z.
      rw (ne_eqb _ _ z, infer-run 512 e (pairs_to α ts (length ts)) (omega arith), ← run-start 512 (theory.pass_over (pairs_to α ts (length ts))) (recorded e))
      (runs 512 0 (omega arith) room h q))
