-- A line can stand only at its spot, because lines ascend.
use Rattle.std.proofs.Common.{◌≡◌, ℕ, true, false, [], length, get_or, sym, ap, ◌∙◌, subst, arith}
use Rattle.std.specs.Prelude.{Some}
use Rattle.wire.specs.Same.{same}
use Rattle.wire.specs.Ascending.{Ascending}
use Rattle.month.specs.Report.{lines_of}
use Rattle.month.proofs.Tables.{lines-ascend}
use Rattle.month.proofs.Views.{rows-length, lines-length}
use Rattle.month.proofs.Spots.{row-spot, row-end, row-other}
use Rattle.month.proofs.report.Report.find.Goals as goal
use Rattle.month.proofs.report.Report.find.Goals.{else-place-self-via-then-place-self+else-equal, else-place-self-via-else-place-self}

pub line-requires : goal.line-requires
line-requires c = omega (arith, rows-length c.self.inside.bytes.now c.self.inside.rows, ap length c.self.view_is)

pub returns-then-equal : goal.returns-then-equal
returns-then-equal c =
    let s = c.self in
    let l = lines_of c.args.self.now in
    let e = c.spot-place.ensures in
    let up : Ascending (λ x. x) l = rw (← s.view_is) (lines-ascend s.invariant.sorted) in
    let long : length l ≡ s.inside.rows = rw (← s.view_is) (lines-length s.inside.bytes.now s.inside.rows) in
    let m = subst (λ (j : ℕ). same c.args.line.now (get_or l j []) ≡ true) e (rw (← c.line.ensures) (sym c.equal.ensures ∙ c.if-equal.true)) in
    ap Some e ∙ sym (row-spot c.args.line.now [] up (omega (arith, long, e)) m)

pub returns-else-place-self : goal.returns-else-place-self
returns-else-place-self c =
    let s = c.self in
    let l = lines_of c.args.self.now in
    let e = c.spot-place.ensures in
    let up : Ascending (λ x. x) l = rw (← s.view_is) (lines-ascend s.invariant.sorted) in
    let long : length l ≡ s.inside.rows = rw (← s.view_is) (lines-length s.inside.bytes.now s.inside.rows) in
    elim c.else-place-self.branch [
      | else-place-self-via-then-place-self+else-equal w ↦
          let m = subst (λ (j : ℕ). same c.args.line.now (get_or l j []) ≡ false) e (rw (← w.line.ensures) (sym w.equal.ensures ∙ w.if-equal.false)) in
          sym (row-other c.args.line.now [] up m)
      | else-place-self-via-else-place-self w ↦ sym (row-end c.args.line.now [] up (omega (arith, long, e)))
    ]
