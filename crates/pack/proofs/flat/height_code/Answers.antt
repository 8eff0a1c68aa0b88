-- The flag decides.
-- Assumes nothing.
use Rattle.pack.specs.Items.{height_at}
use Rattle.pack.specs.Layout.{raised}
use native.Mathlib.Numerals.{add-one}
use borrow.Author.Tests.{eq-eqb, ne_eqb}
use lib.ListN.{get_or}
use Rattle.pack.proofs.flat.height_code.Goals as goal

pub returns-then-s-at-eq0 : goal.returns-then-s-at-eq0
unfolding raised height_at
returns-then-s-at-eq0 c =
    let a = c.args in
    rw (eq-eqb (get_or a.s.now a.at 0) 0 c.if-s-at-eq0.true)

pub returns : goal.returns
unfolding raised height_at
returns c =
    let a = c.args in
    rw (c.four.ensures, ne_eqb (get_or a.s.now a.at 0) 0 c.if-s-at-eq0.false) (add-one _)
