-- Each turn marks one row more; marks keep the length, so that the rows go on fitting.
use Rattle.mints.proofs.Labelling.{mark-skip, mark-next}
use Rattle.mints.specs.Doubt.{marks_to}
use mathlib.Core.Path.{refl, ◌∙◌}
use Rattle.mints.proofs.doubt.mark.Goals as goal
use Rattle.mints.proofs.doubt.mark.Goals.{then-label-r-eq0, else-label-r-eq0}

pub loop-r-init : goal.loop-r-init
unfolding marks_to
loop-r-init c = (refl, refl)

pub loop-r-preserved : goal.loop-r-preserved
loop-r-preserved c =
    let l = c.loop-r in
    let a = c.args in
    elim c.if-label-r-eq0.branch [
      | then-label-r-eq0 w ↦ rw w.table-is (w.doubt.auto.table ∙ l.invariant.0, w.doubt.ensures ∙ mark-next a.table.now a.label.now l.r l.invariant.1 w.if-label-r-eq0.true)
      | else-label-r-eq0 w ↦ rw w.table-is (l.invariant.0, mark-skip a.table.now a.label.now l.r l.invariant.1 w.if-label-r-eq0.false)
    ]
