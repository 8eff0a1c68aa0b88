-- A row is there, and its line are its first 66 bytes.
use Rattle.std.proofs.Common.{◌<◌, length, ap, arith}
use native.Mathlib.Nat.{add-sub_cancel_left}
use Rattle.month.proofs.Views.{rows-length, line_at}
use Rattle.month.proofs.report.Report.line.Goals as goal

pub overflow_mul-at : goal.overflow_mul-at
overflow_mul-at c = omega (arith, c.self.invariant.inside, rows-length c.self.inside.bytes.now c.self.inside.rows, ap length c.self.view_is)

pub overflow_add-result : goal.overflow_add-result
overflow_add-result c = omega (arith, c.self.invariant.inside, rows-length c.self.inside.bytes.now c.self.inside.rows, ap length c.self.view_is)

pub slice_bounds-result-end : goal.slice_bounds-result-end
slice_bounds-result-end c = omega (arith, c.self.invariant.inside, rows-length c.self.inside.bytes.now c.self.inside.rows, ap length c.self.view_is)

pub returns : goal.returns
returns c =
    let b = c.self.inside.bytes.now in
    let n = c.self.inside.rows in
    let h : c.args.i < n = omega (arith, rows-length b n, ap length c.self.view_is) in
    rw (← c.self.view_is, line_at b n c.args.i h) (simp add-sub_cancel_left)
