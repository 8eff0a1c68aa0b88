-- A key that is stored over an account is the account from then on, since both have 32 bytes.
use Rattle.mints.specs.Cells.{with_account}
use Rattle.wire.proofs.Sets.{sets-whole}
use mathlib.Core.Path.{◌≡◌, sym, ◌∙◌}
use native.Mathlib.Omega.{arith}
use Rattle.mints.proofs.table.add.Goals as goal

pub returns-clause-table_after : goal.returns-clause-table_after
unfolding with_account
returns-clause-table_after c =
    let whole : c.put.new.d ≡ c.args.key.now = c.put.ensures ∙ sets-whole _ c.args.key.now (omega arith) in
    rw (whole, sym c.is_some.ensures ∙ c.if-is_some.false)
