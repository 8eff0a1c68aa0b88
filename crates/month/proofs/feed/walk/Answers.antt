-- Each transfer is posted or waits; fed into what is there, those that wait give what all so far give.
use Rattle.std.proofs.Common.{◌≡◌, suc, ◌+◌, ◌-◌, ◌*◌, ◌/◌, [], ◌∷◌, length, sym, refl, ap, ◌∙◌, arith, length-set}
use mathlib.Core.List.Memᴰ
use Rattle.month.specs.Report.{fed_into}
use Rattle.month.specs.Bytes.{rows_to}
use Rattle.month.specs.Lookup.{fed_at}
use Rattle.month.proofs.Reports.{fed-sorted}
use Rattle.month.proofs.Reading.{transfer-formed}
use Rattle.month.proofs.Bearing.{bears-less, bears-fed}
use Rattle.month.proofs.Batches.{from-none, step-posts, step_waits, places-more}
use Rattle.month.proofs.feed.walk.Goals as goal
use Rattle.month.proofs.feed.walk.Goals.{then-not-post, else-not-post}

pub loop-i-init : goal.loop-i-init
loop-i-init c =
    let a = c.args in
    let p = c.requires in
    let r = rows_to a.report.now a.rows in (
      omega arith,
      omega arith,
      refl,
      refl,
      λ j m. absurd (Memᴰ.not-nil m),
      ap (fed_into r) (sym (from-none a.t.now a.from)),
      p.0.sorted,
      bears-less (length a.t.now / 150 - a.from + 0) (length a.t.now / 150 - a.from) r (omega arith) p.3,
    )

pub loop-i-preserved : goal.loop-i-preserved
loop-i-preserved c =
    let q = c.post in
    let l = c.loop-i in
    let a = c.args in
    let p = c.requires in
    let r = rows_to a.report.now a.rows in
    let cur = rows_to l.report a.rows in
    let next = rows_to q.new.report a.rows in
    let n = length a.t.now / 150 in
    let x = fed_at a.t.now l.i in
    elim c.if-not-post.branch [
      | then-not-post w ↦
          let e : next ≡ cur = q.ensures.1 ∙ rw w.if-not-post.true in
          rw (w.wait-is, w.waiting-is) (
            omega arith,
            omega (arith, length-set l.wait l.waiting l.i),
            length-set l.wait l.waiting l.i ∙ l.invariant.2,
            q.auto.report ∙ l.invariant.3,
            places-more a.t.now l.wait l.waiting l.i (omega arith) (omega arith) l.invariant.4,
            step_waits r cur next a.t.now l.wait a.from l.waiting l.i l.invariant.5 (omega arith) e (omega arith),
            rw e l.invariant.6,
            rw e (bears-less (n - (l.i + 1) + (l.waiting + 1)) (n - l.i + l.waiting) cur (omega arith) l.invariant.7),
          )
      | else-not-post w ↦
          let e : next ≡ fed_into cur (x ∷ []) = q.ensures.1 ∙ rw w.if-not-post.false in
          rw (w.wait-is, w.waiting-is) (
            omega arith,
            l.invariant.1,
            l.invariant.2,
            q.auto.report ∙ l.invariant.3,
            l.invariant.4,
            step-posts r cur next a.t.now l.wait a.from l.waiting l.i l.invariant.5 (omega arith) e,
            rw e (fed-sorted cur (x ∷ [])),
            rw e (bears-fed (n - (l.i + 1) + l.waiting) (transfer-formed a.t.now (l.i * 150) (λ j. omega (arith, c.type_inv.t j)) (omega arith)) l.invariant.6 (omega (arith, p.4))
                (bears-less (suc (n - (l.i + 1) + l.waiting)) (n - l.i + l.waiting) cur (omega arith) l.invariant.7)),
          )
    ]
