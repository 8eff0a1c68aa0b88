-- What is promised of the five tables on the way: cleared, and filled.
-- Assumes nothing.
use Rattle.std.specs.Prelude.{ℕ, List, ◌≡◌, length, Result, IsOk}
use Rattle.wire.specs.Zeros.{zeros}
use Rattle.route.specs.declared.Answer.{Answer}
use Rattle.route.specs.declared.refusal.Refusal.{Refusal}
use Rattle.route.specs.Fit.{answered}
use Rattle.route.specs.Route.{lent, route}

-- all five are zero throughout
pub record Cleared (t0 t1 t2 t3 t4 : List ℕ) : Type 0 where
  pub mints : t0 ≡ zeros (length t0)
  pub invocations : t1 ≡ zeros (length t1)
  pub transfers : t2 ≡ zeros (length t2)
  pub legs : t3 ≡ zeros (length t3)
  pub natives : t4 ≡ zeros (length t4)

-- a pack: the answer, and the tables of a success
pub record Filled (names p t0 t1 t2 t3 t4 : List ℕ) (r : Result Answer Refusal) (o0 o1 o2 o3 o4 : List ℕ) : Type 0 where
  pub answer : answered r ≡ (route names p (lent t0 t1 t2 t3 t4)).answer
  pub mints : IsOk r → o0 ≡ (route names p (lent t0 t1 t2 t3 t4)).mints
  pub invocations : IsOk r → o1 ≡ (route names p (lent t0 t1 t2 t3 t4)).invocations
  pub transfers : IsOk r → o2 ≡ (route names p (lent t0 t1 t2 t3 t4)).transfers
  pub legs : IsOk r → o3 ≡ (route names p (lent t0 t1 t2 t3 t4)).legs
  pub natives : IsOk r → o4 ≡ (route names p (lent t0 t1 t2 t3 t4)).natives
