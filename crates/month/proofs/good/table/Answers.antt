-- As long as the loop runs, all flags passed are good; one that is not makes the table bad (`table-cut`).
use Rattle.std.proofs.Common.{◌+◌, ◌*◌, leb, get_or, sym, refl, add-one, arith, ne_eqb, le-leb}
use mathlib.Core.Bool.{and-false}
use borrow.Author.Tests.{lt-leb}
use Rattle.month.specs.Bytes.{flags_to, good_table}
use Rattle.month.proofs.Prefixes.{table-cut, table-whole}
use Rattle.month.proofs.good.table.Goals as goal
use Rattle.month.proofs.good.table.Goals.{then-t-at-gt1-via-then-t-at-gt1, then-t-at-gt1-via-else-t-at-gt1+then-t-at-gt1-2}

pub returns-then-t-ne0 : goal.returns-then-t-ne0
unfolding good_table
returns-then-t-ne0 c = simp (ne_eqb _ _ c.if-t-ne0.true)

pub loop-i-init : goal.loop-i-init
unfolding flags_to
loop-i-init c = refl

pub returns-then-t-at-gt1 : goal.returns-then-t-at-gt1
returns-then-t-at-gt1 c =
    let i = c.loop-i.i in
    let t = c.args.t.now in
    elim c.then-t-at-gt1.branch [
      | then-t-at-gt1-via-then-t-at-gt1 w ↦ sym (table-cut t i (omega arith) (rw (lt-leb _ _ w.if-t-at-gt1.true)))
      | then-t-at-gt1-via-else-t-at-gt1+then-t-at-gt1-2 w ↦ sym (table-cut t i (omega arith) (rw (lt-leb _ _ w.if-t-at-gt1-2.true) (and-false (leb (get_or t (i * 150 + 100) 0) 1))))
    ]

pub loop-i-preserved : goal.loop-i-preserved
unfolding flags_to
loop-i-preserved c = simp (add-one, c.loop-i.invariant, le-leb _ _ c.if-t-at-gt1.false, le-leb _ _ c.if-t-at-gt1-2.false)

pub returns : goal.returns
returns c = sym (table-whole c.args.t.now c.loop-i.i c.if-t-ne0.false (omega arith) c.loop-i.invariant)
