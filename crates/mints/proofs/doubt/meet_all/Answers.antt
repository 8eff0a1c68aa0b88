-- Each turn walks one transfer more; the labels keep their length, so row numbers go on fitting.
use Rattle.mints.proofs.Labelling.{meet-next}
use Rattle.mints.specs.Doubt.{labels_to}
use mathlib.Core.Path.{refl, ◌∙◌}
use Rattle.mints.proofs.doubt.meet_all.Goals as goal

pub loop-transfer-init : goal.loop-transfer-init
unfolding labels_to
loop-transfer-init c = (refl, refl)

pub loop-transfer-preserved : goal.loop-transfer-preserved
loop-transfer-preserved c =
    let l = c.loop-transfer in
    let a = c.args in
    (c.meet.auto.label ∙ l.invariant.0, c.meet.ensures ∙ meet-next a.transfers.now a.table.now a.label.now l.transfer-index l.invariant.1)
