-- The test of the index, then that of the count.
-- Assumes nothing.
use Rattle.pack.specs.Loops.{keeps}
use Rattle.wire.specs.Le.{le}
use native.Mathlib.Omega.{arith}
use borrow.Author.Tests.{lt-ltb, le-ltb}
use Rattle.pack.proofs.chain.keeps.Goals as goal

pub returns-then-u32_at-o : goal.returns-then-u32_at-o
unfolding keeps
returns-then-u32_at-o c =
    let a = c.args in
    rw (c.u16_at.ensures, lt-ltb (le 4 a.s.now a.g) a.o (omega (arith, c.u32_at.ensures)))

pub returns-else-u32_at-o : goal.returns-else-u32_at-o
unfolding keeps
returns-else-u32_at-o c =
    let a = c.args in
    rw (c.u32_at.ensures, le-ltb (le 4 a.s.now a.g) a.o (omega (arith, c.u32_at.ensures)))
