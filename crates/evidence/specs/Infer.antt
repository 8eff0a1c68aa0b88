-- The table of all evidence and all plain transfers: recorded, and then passed over until nothing is added. Assumes nothing.
use Rattle.std.proofs.Math.Option.{Option, some}
use Rattle.std.specs.Prelude.{[], ◌∷◌, ℕ}
use Rattle.evidence.specs.Table.{Table}
use Rattle.evidence.specs.Evidence.{Evidence, recorded}
use Rattle.evidence.specs.Passes.{Transfers, pass}
use Rattle.evidence.specs.Run.{TableAfter, run}

-- one pass over the plain transfers
abbrev pub pass_over : Transfers → Table → Table
pass_over ps t = pass t ps

-- no recorded account at all means no pass
unfoldable pub run_from : ℕ → Table → Transfers → Option TableAfter
run_from f [] ps = some ([], 0)
run_from f (r ∷ t) ps = run f (pass_over ps) (r ∷ t)

-- the table of all evidence and all plain transfers, and its passes
unfoldable pub infer : ℕ → Evidence → Transfers → Option TableAfter
infer f e ps = run_from f (recorded e) ps
