-- The lines so far grow by what each answer adds, and the last line stands behind them.
-- Assumes nothing.
use Rattle.std.proofs.Common.{[], arith}
use Rattle.std.proofs.KnownBytes.{Appends-nil, Appends-trans}
use Rattle.std.proofs.lemmas.Result.{on_ok_weaker}
use Rattle.records.specs.Told.{none}
use Rattle.records.proofs.run.Goals as goal

pub returns : goal.returns
returns g c =
    let w = c.loop-totals.invariant.1 in
    on_ok_weaker c.write_all.result (λ a. record {
      answers = c.loop-totals.totals.0;
      different = c.loop-totals.totals.1.0;
      lines = w.0;
      told = w.1;
      written = Appends-trans _ _ _ _ _ w.2 (rw (c.as_bytes.ensures.value, c.in_ok-line.ensures.ok) at a);
    }) c.write_all.ensures.bytes

pub loop-totals-init : goal.loop-totals-init
loop-totals-init g c = (omega arith, ([], none, Appends-nil _))
