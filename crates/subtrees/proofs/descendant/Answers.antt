-- By the numbers that the places hold the definition is a row of tests (`descendant-raised`), which the code makes.
-- Assumes nothing.
use Rattle.subtrees.proofs.Numbers.{descendant-raised}
use native.Mathlib.Omega.{arith}
use Rattle.std.proofs.lemmas.Bool.Decides.{nat_tests}
use Rattle.subtrees.proofs.descendant.Goals as goal

pub returns-then-parent-eq0 : goal.returns-then-parent-eq0
returns-then-parent-eq0 c = grind (arith, nat_tests, descendant-raised)

pub returns-else-parent-eq0 : goal.returns-else-parent-eq0
returns-else-parent-eq0 c = grind (arith, nat_tests, descendant-raised)

pub returns-else-later : goal.returns-else-later
returns-else-later c = grind (arith, nat_tests, descendant-raised)
