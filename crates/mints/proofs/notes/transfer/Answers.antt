-- A row number is one that `row` holds, or 0, so it is a u32.
use Rattle.mints.specs.Gather.{transfer_of}
use Rattle.mints.proofs.Search.{row_kept}
use lib.ListN.{get_or}
use mathlib.Core.Path.{refl}
use native.Mathlib.Omega.{arith}
use Rattle.mints.proofs.notes.transfer.Goals as goal

pub overflow_cast-result : goal.overflow_cast-result
overflow_cast-result c =
    let a = c.args in
    let x = a.accounts.now in
    omega (arith, c.account_row.ensures, row_kept a.row.now x 0, c.type_inv.row (get_or x 0 0))

pub overflow_cast-result-2 : goal.overflow_cast-result-2
overflow_cast-result-2 c =
    let a = c.args in
    let x = a.accounts.now in
    omega (arith, c.account_row-2.ensures, row_kept a.row.now x 1, c.type_inv.row (get_or x 1 0))

pub returns : goal.returns
unfolding transfer_of
returns c = rw (c.account_row.ensures, c.account_row-2.ensures) refl
