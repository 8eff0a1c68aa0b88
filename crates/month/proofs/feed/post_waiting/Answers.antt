-- Each turn feeds one waiting transfer: `post` adds it, since the report has its lines from the start and keeps them.
use Rattle.std.proofs.Common.{◌-◌, length, take, sym, refl, ◌∙◌, arith}
use Rattle.month.specs.Bytes.{rows_to}
use Rattle.month.specs.Lookup.{transfers_at}
use Rattle.month.proofs.Reports.{fed-nothing}
use Rattle.month.proofs.Gathering.{place_in}
use Rattle.month.proofs.Bearing.{bears-less}
use Rattle.month.proofs.Batches.{stands-fed, posted}
use Rattle.month.proofs.feed.post_waiting.Goals as goal

pub loop-i-init : goal.loop-i-init
loop-i-init c =
    let a = c.args in
    let p = c.requires in
    (refl, sym (fed-nothing p.0.sorted), bears-less (length a.wait.now - 0) (length a.wait.now) (rows_to a.report.now a.rows) (omega arith) p.3)

pub post-requires : goal.post-requires
post-requires c =
    let l = c.loop-i in
    let a = c.args in
    let p = c.requires in (
      place_in a.t.now a.wait.now l.i-index p.2 c.loop-i-test.true,
      stands-fed l.report a.rows (rows_to a.report.now a.rows) (transfers_at a.t.now (take l.i-index a.wait.now)) (omega (arith, p.0.inside, l.invariant.0)) l.invariant.1,
      bears-less 1 (length a.wait.now - l.i-index) (rows_to l.report a.rows) (omega arith) l.invariant.2,
    )

pub loop-i-preserved : goal.loop-i-preserved
loop-i-preserved c =
    let q = c.post in
    let l = c.loop-i in
    let a = c.args in
    let p = c.requires in
    let s = posted (rows_to a.report.now a.rows) (rows_to l.report a.rows) (rows_to q.new.report a.rows) a.t.now a.wait.now l.i-index q.result
    (λ j. omega (arith, c.type_inv.t j)) c.loop-i-test.true p.1 p.2 p.4 l.invariant.1 l.invariant.2 q.ensures.0 q.ensures.1 in
    (q.auto.report ∙ l.invariant.0, s.0, s.1)
