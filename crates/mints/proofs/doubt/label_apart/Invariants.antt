-- Each turn writes one label more, and the last leaves none of the old ones.
use Rattle.mints.specs.Doubt.{own_labels}
use lib.Seq.{sets}
use lib.ListN.{length, take}
use mathlib.Core.Path.{◌≡◌}
use Rattle.mints.proofs.doubt.label_apart.Given as goal

abbrev pub invariant-loop-r : goal.invariant-loop-r
invariant-loop-r l = (length l.label ≡ length l.initial.label) × (l.label ≡ sets l.initial.label 0 (take l.r (own_labels (length l.initial.label))))
