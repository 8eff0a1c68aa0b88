-- The flag decides which test is left.
-- Assumes nothing.
use Rattle.pack.specs.Items.{height_good}
use borrow.Author.Tests.{eq-eqb, ne_eqb}
use lib.ListN.{get_or}
use Rattle.pack.proofs.whole.height_good.Goals as goal

pub returns-then-flag-eq0 : goal.returns-then-flag-eq0
unfolding height_good
returns-then-flag-eq0 c =
    let a = c.args in
    rw (c.four.ensures, eq-eqb (get_or a.s.now a.at 0) 0 c.if-flag-eq0.true)

pub returns : goal.returns
unfolding height_good
returns c =
    let a = c.args in
    rw (ne_eqb (get_or a.s.now a.at 0) 0 c.if-flag-eq0.false)
