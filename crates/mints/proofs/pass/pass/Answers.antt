-- Each turn makes one step more, and a step fills in at most one account, so the count does not overflow.
use Rattle.mints.proofs.Passing.{one-filled, pass-next}
use Rattle.mints.specs.Pass.{from_at, to_at, pass_to}
use mathlib.Core.Path.{refl, ◌∙◌}
use native.Mathlib.Omega.{arith}
use Rattle.mints.proofs.pass.pass.Goals as goal

pub loop-transfer-init : goal.loop-transfer-init
unfolding pass_to
loop-transfer-init c = (refl, omega arith, refl)

pub overflow_add-added : goal.overflow_add-added
overflow_add-added c =
    let l = c.loop-transfer in
    let a = c.args in
    omega (arith, c.step-added.ensures.1, one-filled l.table (from_at a.transfers.now l.transfer-index) (to_at a.transfers.now l.transfer-index))

pub loop-transfer-preserved : goal.loop-transfer-preserved
loop-transfer-preserved c =
    let l = c.loop-transfer in
    let a = c.args in
    let q = c.step-added.ensures in (
      c.step-added.auto.table ∙ l.invariant.0,
      omega (arith, q.1, one-filled l.table (from_at a.transfers.now l.transfer-index) (to_at a.transfers.now l.transfer-index)),
      rw (q.0, q.1) (pass-next a.transfers.now a.table.now l.transfer-index l.invariant.2),
    )
