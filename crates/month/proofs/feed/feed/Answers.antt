-- Each turn feeds the transfers from one place to the next: a walk posts some, and those that wait are admitted.
use Rattle.std.proofs.Common.{◌≡◌, ◌+◌, ◌-◌, ◌/◌, length, sym, refl, ap, ◌∙◌, length-take-le, arith}
use Rattle.month.specs.Report.{Report, used, fed_into}
use Rattle.month.specs.Bytes.{rows_to, transfers_to}
use Rattle.month.specs.Lookup.{transfers_from}
use Rattle.month.specs.Standing.{Bears}
use Rattle.month.proofs.Views.{rows-length}
use Rattle.month.proofs.Bearing.{bears-less}
use Rattle.month.proofs.Batches.{stands-fed, fed-start, to_end, room-part, batch}
use Rattle.month.proofs.feed.feed.Goals as goal
use Rattle.month.proofs.feed.feed.Goals.{After-walk-walked}

-- the report as it stood, and with the transfers up to where a walk ended
abbrev old : After-walk-walked → Report
old c = rows_to c.args.report.now c.args.rows

abbrev later : After-walk-walked → Report
later c = let l = c.loop-from in fed_into (rows_to l.report l.used) (transfers_from c.args.t.now l.from (c.walk-walked.result.to - l.from))

fed-on :
    (c : After-walk-walked)
    → (later c ≡ fed_into (old c) (transfers_to c.args.t.now c.walk-walked.result.to)) × Bears (length c.args.t.now / 150 - c.walk-walked.result.to) (later c)
fed-on c =
    let w = c.walk-walked.ensures in
    let l = c.loop-from in
    batch (old c) (rows_to l.report l.used) c.args.t.now l.from c.walk-walked.result.to (λ j. omega (arith, c.type_inv.t j)) w.further w.in_table c.requires.1 l.invariant.3 l.invariant.4

pub loop-from-init : goal.loop-from-init
loop-from-init c =
    let a = c.args in
    let p = c.requires in (
      omega arith,
      refl,
      refl,
      fed-start a.t.now p.0.sorted,
      bears-less (length a.t.now / 150 - 0) (length a.t.now / 150) (rows_to a.report.now a.rows) (omega arith) p.2,
    )

pub walk-walked-requires : goal.walk-walked-requires
walk-walked-requires c =
    let h = c.loop-from-test.true in
    let l = c.loop-from in
    let a = c.args in
    let p = c.requires in
    let r = rows_to a.report.now a.rows in (
      stands-fed l.report l.used r (transfers_to a.t.now l.from)
          (omega (arith, rows-length l.report l.used, ap (λ (s : Report). used s) l.invariant.3, room-part r a.t.now l.from l.invariant.0, p.3, l.invariant.2))
          l.invariant.3,
      h,
      omega (arith, l.invariant.1),
      l.invariant.4,
      p.1,
    )

pub admit-used-requires : goal.admit-used-requires
admit-used-requires c =
    let w = c.walk-walked in
    let l = c.loop-from in
    let a = c.args in
    let p = c.requires in
    let long = length-take-le w.result.waiting w.new.wait w.ensures.wait_most in (
      w.ensures.stands_after,
      omega (arith, long, w.ensures.wait_most, w.auto.wait, l.invariant.1),
      w.ensures.wait_there,
      rw long (bears-less w.result.waiting (length a.t.now / 150 - w.result.to + w.result.waiting) (rows_to w.new.report l.used) (omega arith) w.ensures.bears_after),
      omega
          (arith, ap (λ (m : Report). used m) (w.ensures.fed_later ∙ (fed-on (goal.at.admit-used-requires c).After-walk-walked).0), room-part (old (goal.at.admit-used-requires c).After-walk-walked) a.t.now w.result.to w.ensures.in_table, p.3, l.invariant.2, w.auto.report),
    )

pub loop-from-preserved : goal.loop-from-preserved
loop-from-preserved c =
    let q = c.admit-used in
    let w = c.walk-walked in
    let l = c.loop-from in
    let s = fed-on (goal.at.loop-from-preserved c).After-walk-walked in
    let e = q.ensures.0 ∙ w.ensures.fed_later in
    (w.ensures.in_table, w.auto.wait ∙ l.invariant.1, q.auto.report ∙ w.auto.report ∙ l.invariant.2, e ∙ s.0, rw e s.1)

pub returns : goal.returns
returns c =
    let l = c.loop-from in
    let a = c.args in
    let m : l.from ≡ length a.t.now / 150 = omega arith in
    let e = l.invariant.3 ∙ ap (fed_into (rows_to a.report.now a.rows)) (to_end a.t.now l.from m) in
    (e, sym (rows-length l.report l.used) ∙ ap (λ (s : Report). used s) e)
