-- Each turn walks one transfer more; the labels keep their length, so row numbers go on fitting.
use Rattle.mints.specs.Doubt.{labels_to}
use lib.ListN.{length}
use mathlib.Core.Path.{◌≡◌}
use Rattle.mints.proofs.doubt.meet_all.Given as goal

abbrev pub invariant-loop-transfer : goal.invariant-loop-transfer
invariant-loop-transfer l = (length l.label ≡ length l.initial.label) × (l.label ≡ labels_to l.transfers l.table l.initial.label l.transfer-index)
