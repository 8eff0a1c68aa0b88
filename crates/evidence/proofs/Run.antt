-- How a run of passes ends, for any pass that takes no row away: with a pass that leaves the length, or when the fuel is used up. Assumes nothing.
use mathlib.Core.Path.{◌≡◌}
use mathlib.Core.Logic.{◌≢◌, by_cases}
use mathlib.Core.Option.{Option, none, some}
use Prim.Native.Nat.{ℕ, zero, suc, ◌+◌, ◌≤◌, ◌<◌}
use native.Mathlib.Decide.{ℕ_discrete}
use native.Mathlib.Omega.{arith}
use lib.ListN.{length}
use borrow.Author.Tests.{eq-eqb, ne_eqb}
use Rattle.evidence.specs.Table.{Table}
use Rattle.evidence.specs.Run.{TableAfter, once_more, run}

-- u comes from t by passes g
pub data Passed (g : Table → Table) (u : Table) : Table → Type 0 where
  at_end : Passed g u u
  one_more : {t : Table} → Passed g u (g t) → Passed g u t

-- n passes from t, each but the last adding a row, end in u
pub data RanTo (g : Table → Table) (u : Table) : Table → ℕ → Type 0 where
  ends : length (g u) ≡ length u → RanTo g u u 1
  goes : {t : Table} {n : ℕ} → length t < length (g t) → RanTo g u (g t) n → RanTo g u t (suc n)

-- what a run answers: the passes that it made, or a table with a row more for each unit of fuel
pub data RunEnds (g : Table → Table) (t : Table) (f : ℕ) : Option TableAfter → Type 0 where
  gave : {u : Table} {n : ℕ} → RanTo g u t n → RunEnds g t f (some (u, n))
  spent : {u : Table} → Passed g u t → length t + f ≤ length u → RunEnds g t f none

module _ {g : Table → Table} (grows : (t : Table) → length t ≤ length (g t)) where
  pub run_ends : (f : ℕ) (t : Table) → RunEnds g t f (run f g t)
  unfolding run once_more
  run_ends zero t = spent at_end (omega arith)
  run_ends (suc f) t =
      by_cases
      (ℕ_discrete (length (g t)) (length t))
      (λ e. rw (eq-eqb _ _ e, run) (gave (ends e)))
      (λ n. rw (ne_eqb _ _ n, run) (more n (run_ends f (g t))))
    where
      more : {o : Option TableAfter} → length (g t) ≢ length t → RunEnds g (g t) f o → RunEnds g t (suc f) (once_more o)
      more n (gave r) = gave (goes {t = t} (omega (arith, grows t)) r)
      more n (spent {u} p l) = spent (one_more p) (omega (arith, grows t))

module _ {g : Table → Table} {u : Table} where
  pub ran-passed : {t : Table} {n : ℕ} → RanTo g u t n → Passed g u t
  ran-passed (ends e) = at_end
  ran-passed (goes l r) = one_more (ran-passed r)

  pub ran-still : {t : Table} {n : ℕ} → RanTo g u t n → length (g u) ≡ length u
  ran-still (ends e) = e
  ran-still (goes l r) = ran-still r

  -- every pass but the last adds a row
  pub ran-length : {t : Table} {n : ℕ} → RanTo g u t n → length t + n ≤ suc (length u)
  ran-length (ends e) = omega arith
  ran-length (goes l r) = omega (arith, ran-length r)

  pub ran-positive : {t : Table} {n : ℕ} → RanTo g u t n → 0 < n
  ran-positive (ends e) = omega arith
  ran-positive (goes l r) = omega arith
