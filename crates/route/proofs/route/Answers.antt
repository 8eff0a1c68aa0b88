-- The tables are cleared and filled: after a success they hold what `fill` promises, after a refusal they are cleared again.
use Rattle.route.proofs.Called.{refusal-cleared}
use mathlib.Core.Path.{◌∙◌}
use Rattle.route.proofs.route.Goals as goal

pub returns-in-Err : goal.returns-in-Err
returns-in-Err c =
    let z = c.clear.auto in
    let f = c.fill.auto in
    let w = c.clear-in-Err.auto in
    rw c.answer.ensures
    (refusal-cleared c.args.names.now c.args.pack.now
    (record { mints = z.t0; invocations = z.t1; transfers = z.t2; legs = z.t3; natives = z.t4 })
    c.in-Err.ensures
    c.clear-in-Err.ensures
    (record {
      mints = w.t0 ∙ f.t0 ∙ z.t0;
      invocations = w.t1 ∙ f.t1 ∙ z.t1;
      transfers = w.t2 ∙ f.t2 ∙ z.t2;
      legs = w.t3 ∙ f.t3 ∙ z.t3;
      natives = w.t4 ∙ f.t4 ∙ z.t4;
    }))
