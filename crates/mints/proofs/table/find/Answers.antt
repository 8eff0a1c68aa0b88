-- The first row with the key, from row i on, is the answer as long as no row before i has it; a byte that differs rules a row out.
use Rattle.mints.proofs.Search.{account-is, account-not, skip, found, ended, row-found, row-missing}
use lib.ListN.{length}
use Prim.Native.Nat.{◌-◌}
use mathlib.Core.Path.{◌≡◌, sym, ◌∙◌}
use native.Mathlib.Omega.{arith}
use Rattle.mints.proofs.table.find.Goals as goal

pub rows-preserved : goal.rows-preserved
rows-preserved c =
    let o = c.rows in
    let a = c.args in
    let l = c.loop-j in
    let q = c.account-account.ensures.0 in
    let e = skip a.table.now a.key.now (length a.table.now) o.i (omega arith) (account-not a.table.now a.key.now o.i (31 - l.j) (rw q at c.if-account-j.true)) ∙ o.invariant.1 in
    (omega arith, rw l.invariant.0 e)

pub returns-then-table-i : goal.returns-then-table-i
returns-then-table-i c =
    let o = c.rows in
    let a = c.args in
    let e : o.i ≡ length a.table.now = omega arith in
    row-missing a.table.now a.key.now (sym o.invariant.1 ∙ ended a.table.now a.key.now (length a.table.now) o.i (omega arith) ∙ e)

pub returns-after-loop-j : goal.returns-after-loop-j
returns-after-loop-j c =
    let o = c.rows in
    let a = c.args in
    let l = c.loop-j in
    let q = c.account-account.ensures in
    let here = account-is a.table.now a.key.now o.i q.1 (omega arith) (λ m h. rw q.0 at (l.invariant.1 m (omega arith) h)) in
    rw l.invariant.0 (row-found a.table.now a.key.now (sym o.invariant.1 ∙ found a.table.now a.key.now (length a.table.now) o.i (omega arith) here) (omega arith))
