-- Each turn writes one label more, and the last leaves none of the old ones.
use Rattle.mints.proofs.Labelling.{own-more}
use Rattle.mints.specs.Doubt.{own_labels}
use Rattle.wire.proofs.Sets.{sets-whole}
use Rattle.wire.proofs.Tab.{tab-length}
use lib.Seq.{take_all}
use lib.ListN.{length, length-set}
use Prim.Native.Nat.{ℕ}
use mathlib.Core.Path.{◌≡◌, ◌∙◌}
use native.Mathlib.Omega.{arith}
use Rattle.mints.proofs.doubt.label_apart.Goals as goal

pub loop-r-preserved : goal.loop-r-preserved
loop-r-preserved c =
    let l = c.loop-r in
    let a = c.args in
    (simp length-set l.invariant.0, rw l.invariant.1 (own-more a.label.now (length a.label.now) l.r (omega arith)))

pub returns : goal.returns
returns c =
    let l = c.loop-r in
    let n = length c.args.label.now in
    let e : length (own_labels n) ≡ n = tab-length (λ (r : ℕ). r) 0 n in
    l.invariant.1 ∙ rw (take_all l.r (own_labels n) (omega arith)) (sets-whole c.args.label.now (own_labels n) e)
