-- The tables are tried in the order in which the definition tries them.
use Rattle.route.specs.Fit.{fits}
use borrow.Author.Tests.{lt-ltb, le-ltb}
use Rattle.route.proofs.fit.fit.Goals as goal

pub returns-then-lent-room : goal.returns-then-lent-room
unfolding fits
returns-then-lent-room c = simp (lt-ltb _ _ c.if-lent-room.true)

pub returns-then-lent-a : goal.returns-then-lent-a
unfolding fits
returns-then-lent-a c = simp (le-ltb _ _ c.if-lent-room.false, lt-ltb _ _ c.if-lent-a.true)

pub returns-then-lent-a-2 : goal.returns-then-lent-a-2
unfolding fits
returns-then-lent-a-2 c = simp (le-ltb _ _ c.if-lent-room.false, le-ltb _ _ c.if-lent-a.false, lt-ltb _ _ c.if-lent-a-2.true)

pub returns-then-lent-a-3 : goal.returns-then-lent-a-3
unfolding fits
returns-then-lent-a-3 c = simp (le-ltb _ _ c.if-lent-room.false, le-ltb _ _ c.if-lent-a.false, le-ltb _ _ c.if-lent-a-2.false, lt-ltb _ _ c.if-lent-a-3.true)

pub returns-then-lent-a-4 : goal.returns-then-lent-a-4
unfolding fits
returns-then-lent-a-4 c = simp (le-ltb _ _ c.if-lent-room.false, le-ltb _ _ c.if-lent-a.false, le-ltb _ _ c.if-lent-a-2.false, le-ltb _ _ c.if-lent-a-3.false, lt-ltb _ _ c.if-lent-a-4.true)

pub returns : goal.returns
unfolding fits
returns c = simp (le-ltb _ _ c.if-lent-room.false, le-ltb _ _ c.if-lent-a.false, le-ltb _ _ c.if-lent-a-2.false, le-ltb _ _ c.if-lent-a-3.false, le-ltb _ _ c.if-lent-a-4.false)
