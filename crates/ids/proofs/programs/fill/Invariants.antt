-- Before turn i the programs of the first i keys stand, and the others are not resolved (`Filled`).
-- Assumes nothing.
use Rattle.ids.proofs.Filling.{Filled}
use Rattle.ids.proofs.programs.fill.Given as goal

abbrev pub invariant-loop-i : goal.invariant-loop-i
invariant-loop-i l = Filled l.keys l.programs l.i
