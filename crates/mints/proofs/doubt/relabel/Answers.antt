-- Each turn renames one label more, and those from it on are as they were; two equal names change nothing.
use Rattle.mints.proofs.Labelling.{relabelled-none, relabelled-more, relabelled-length}
use Rattle.mints.specs.Doubt.{relabelled}
use Rattle.wire.proofs.Sets.{sets-whole}
use lib.Seq.{take_all}
use lib.ListN.{length, length-set}
use mathlib.Core.Path.{◌≡◌, sym, ◌∙◌}
use native.Mathlib.Omega.{arith}
use Rattle.mints.proofs.doubt.relabel.Goals as goal

pub returns-then-x-y : goal.returns-then-x-y
returns-then-x-y c =
    let a = c.args in
    sym (relabelled-none a.x a.y a.label.now c.if-x-y.true)

pub loop-z-preserved : goal.loop-z-preserved
loop-z-preserved c =
    let l = c.loop-z in
    let a = c.args in
    (simp length-set l.invariant.0, rw (c.rename.ensures, l.invariant.1) (relabelled-more a.x a.y a.label.now l.z-index (omega arith)))

pub returns : goal.returns
returns c =
    let l = c.loop-z in
    let a = c.args in
    let v = relabelled a.x a.y a.label.now in
    let e : length v ≡ length a.label.now = relabelled-length a.x a.y a.label.now in
    l.invariant.1 ∙ rw (take_all l.z-index v (omega arith)) (sets-whole a.label.now v e)
