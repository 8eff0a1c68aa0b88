-- Each turn marks one row more; marks keep the length, so that the rows go on fitting.
use Rattle.mints.specs.Doubt.{marks_to}
use lib.ListN.{length}
use mathlib.Core.Path.{◌≡◌}
use Rattle.mints.proofs.doubt.mark.Given as goal

abbrev pub invariant-loop-r : goal.invariant-loop-r
invariant-loop-r l = (length l.table ≡ length l.initial.table) × (l.table ≡ marks_to l.initial.table l.label l.r)
