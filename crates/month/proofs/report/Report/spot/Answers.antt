-- The line before the place found is below, the line there is not, and they ascend: that is the spot.
use Rattle.std.proofs.Common.{[], length, sym, ap, arith}
use Rattle.month.proofs.Tables.{lines-ascend}
use Rattle.month.proofs.Views.{rows-length, lines-length}
use Rattle.month.proofs.Spots.{spot-met}
use Rattle.month.proofs.report.Report.spot.Goals as goal

pub halved-requires : goal.halved-requires
halved-requires c = λ i h. omega (arith, rows-length c.self.inside.bytes.now c.self.inside.rows, ap length c.self.view_is)

pub returns : goal.returns
returns c =
    let s = c.self in
    let h = c.halved.ensures in
    let long = lines-length s.inside.bytes.now s.inside.rows in
    rw (← s.view_is)
    (spot-met c.args.line.now [] c.halved.result (lines-ascend s.invariant.sorted) (omega (arith, long, h.within))
    (λ p. rw s.view_is (sym (h.before p)))
    (λ p. rw s.view_is (sym (h.here (omega (arith, long))))))
