-- The rows of table 1 that an answer counts are in the table: a success lays them out there, and a refusal counts none.
-- Assumes nothing.
use mathlib.Core.Path.{◌≡◌, ap}
use mathlib.Core.Logic.{by_cases}
use mathlib.Core.List.{List}
use Prim.Native.Nat.{ℕ, ◌*◌, ◌≤◌}
use native.Mathlib.Decide.{ℕ_discrete}
use native.Mathlib.Omega.{arith}
use Rattle.route.specs.declared.Answer.{Answer}
use Rattle.route.specs.Widths.{invocation_width}
use Rattle.route.specs.Route.{Lent, refused, route}
use Rattle.route.proofs.Claims.{no-counts}
use Rattle.route.proofs.Laid.{all_laid}

pub rows_fit : (names p : List ℕ) (l : Lent) → (route names p l).answer.invocations * invocation_width ≤ l.invocations
unfolding refused
rows_fit names p l =
    by_cases
    (ℕ_discrete (route names p l).answer.number 0)
    (λ e. (all_laid names p l e).invocations.room)
    (λ n.
    let e : (route names p l).answer.invocations ≡ 0 = ap (λ (a : Answer). a.invocations) (no-counts names p l n) in
    omega arith)
