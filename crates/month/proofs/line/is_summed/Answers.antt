-- The flag first, then the two numbers, as `summed` tests them.
use Rattle.std.proofs.Common.{◌*◌, sym, ◌∙◌, ne_eqb}
use Rattle.month.proofs.Numbered.{summed-not, summed_by}
use Rattle.month.proofs.line.is_summed.Goals as goal

pub returns-then-t-at-eq1 : goal.returns-then-t-at-eq1
returns-then-t-at-eq1 c =
    let a = c.args in
    rw (c.u64_at.ensures, c.u64_at-then-t-at-eq1.ensures) (sym (summed_by a.t.now (a.i * 150) c.if-t-at-eq1.true))

pub returns-else-t-at-eq1 : goal.returns-else-t-at-eq1
returns-else-t-at-eq1 c =
    let a = c.args in
    ne_eqb _ _ c.if-t-at-eq1.false ∙ sym (summed-not a.t.now (a.i * 150) c.if-t-at-eq1.false)
