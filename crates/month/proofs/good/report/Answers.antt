-- As long as the loop runs, the rows passed are good, and the lines up to the next one rise.
use Rattle.std.proofs.Common.{◌≡◌, suc, ◌+◌, ◌*◌, ◌<◌, true, sym, ◌∙◌, add-one, arith}
use borrow.Author.Tests.{lt-leb}
use Rattle.month.specs.Bytes.{report_row_at, rows_to, rises, good_row, good_report}
use Rattle.month.proofs.Prefixes.{goods-none, goods-next, rises_next, lines_at, rises-none, rises-one, report-cut, report-falls, report-whole}
use Rattle.month.proofs.good.report.Goals as goal
use Rattle.month.proofs.good.report.Goals.{else-i-rows-via-then-i-rows+else-not-less, else-i-rows-via-else-i-rows}

pub returns-then-report-rows : goal.returns-then-report-rows
unfolding good_report
returns-then-report-rows c = simp (lt-leb _ _ c.if-report-rows.true)

pub loop-i-init : goal.loop-i-init
loop-i-init c =
    let a = c.args in
    (goods-none a.fed a.report.now, rises-none a.report.now, λ h. rises-one a.report.now)

pub returns-then-not-row : goal.returns-then-not-row
returns-then-not-row c =
    let a = c.args in
    sym (report-cut a.report.now a.rows a.fed c.loop-i.i (omega arith) (sym c.row.ensures ∙ c.if-not-row.true))

pub returns-then-not-less : goal.returns-then-not-less
returns-then-not-less c =
    let a = c.args in
    let i = c.loop-i.i in
    let b = a.report.now in
    sym (report-falls b a.rows a.fed i (omega arith) (sym (lines_at b i) ∙ sym c.less.ensures ∙ c.if-not-less.true))

pub loop-i-preserved : goal.loop-i-preserved
loop-i-preserved c =
    let a = c.args in
    let l = c.loop-i in
    let r = c.row in
    let b = a.report.now in
    let good : good_row a.fed (report_row_at b (l.i * 118)) ≡ true = sym r.ensures ∙ c.if-not-row.false in
    let up : rises (rows_to b (suc l.i)) ≡ true = l.invariant.2 (omega arith) in
    let next : l.i + 1 < a.rows → rises (rows_to b (suc (suc l.i))) ≡ true
    = λ h. elim c.else-i-rows.branch [
      | else-i-rows-via-then-i-rows+else-not-less w ↦ rises_next b l.i ∙ rw (up, ← lines_at b l.i, ← w.less.ensures) w.if-not-less.false
      | else-i-rows-via-else-i-rows w ↦ absurd (omega arith)
    ] in
    rw (add-one l.i) (goods-next a.fed b l.i ∙ rw (l.invariant.0, good), up, λ h. next (omega arith))

pub returns : goal.returns
returns c =
    let a = c.args in
    let l = c.loop-i in
    sym (report-whole a.report.now a.rows a.fed l.i (omega arith) (omega arith) l.invariant.1 l.invariant.0)
