-- A start is read from the trailer, whose place stands for the sixth.
-- Assumes nothing.
use Rattle.pack.specs.Sections.{start_of}
use borrow.Author.Tests.{lt-ltb, le-ltb}
use Rattle.pack.proofs.trailer.start.Goals as goal

pub returns-then-k-lt5 : goal.returns-then-k-lt5
unfolding start_of
returns-then-k-lt5 c = simp (lt-ltb _ _ c.if-k-lt5.true, c.u32_at.ensures, c.trailer_at-t.ensures)

pub returns-else-k-lt5 : goal.returns-else-k-lt5
unfolding start_of
returns-else-k-lt5 c = simp (le-ltb _ _ c.if-k-lt5.false, c.trailer_at-t.ensures)
