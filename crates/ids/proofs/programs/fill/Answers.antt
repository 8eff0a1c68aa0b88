-- The constant is the table of the definitions, and past the keys every program is not resolved.
-- Assumes nothing.
use native.Mathlib.Omega.{arith}
use Rattle.ids.proofs.Filling.{filled-none, filled_more, filled-all}
use Rattle.ids.proofs.programs.fill.Goals as goal

pub loop-i-init : goal.loop-i-init
loop-i-init c = filled-none c.args.keys.now

pub loop-i-preserved : goal.loop-i-preserved
loop-i-preserved c =
    let l = c.loop-i in
    filled_more c.args.keys.now l.programs l.i c.program_at.result l.invariant (omega arith) c.program_at.ensures

pub returns : goal.returns
returns c =
    let l = c.loop-i in
    filled-all c.args.keys.now l.programs l.i l.invariant (λ j a b. omega arith)
