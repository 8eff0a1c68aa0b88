-- Each turn renames one label more, and those from it on are as they were; two equal names change nothing.
use Rattle.mints.specs.Doubt.{relabelled}
use lib.Seq.{sets}
use lib.ListN.{length, take}
use mathlib.Core.Path.{◌≡◌}
use Rattle.mints.proofs.doubt.relabel.Given as goal

abbrev pub invariant-loop-z : goal.invariant-loop-z
invariant-loop-z l = (length l.label ≡ length l.initial.label) × (l.label ≡ sets l.initial.label 0 (take l.z-index (relabelled l.x l.y l.initial.label)))
