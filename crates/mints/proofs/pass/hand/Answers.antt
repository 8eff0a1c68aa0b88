-- The mint and the state are stored one after the other.
use Rattle.mints.specs.declared.row.State.TheVariants.{FilledIn}
use Rattle.mints.specs.Cells.{mint_at}
use Rattle.mints.proofs.Fields.{mint-then-state}
use native.Mathlib.Omega.{arith}
use Rattle.mints.proofs.pass.hand.Goals as goal

pub returns : goal.returns
returns c =
    let a = c.args in
    mint-then-state a.table.now a.b (mint_at a.table.now a.a) FilledIn (omega arith)
