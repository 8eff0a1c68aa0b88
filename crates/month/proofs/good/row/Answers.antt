-- Each test is made where those before it hold, in the order of `good_row`.
use Rattle.std.proofs.Common.{◌≡◌, ℕ, ◌+◌, ◌^◌, Bool, List, ◌&&◌, leb, ltb, get_or, sym, ap, ◌∙◌, le-leb}
use borrow.Author.Tests.{lt-leb}
use mathlib.Core.Bool.{and_assoc}
use Rattle.wire.specs.Le.{le}
use Rattle.month.specs.Bytes.{report_row_at, good_row}
use Rattle.month.proofs.Prefixes.{row-tests}
use Rattle.month.proofs.good.row.Goals as goal
use Rattle.month.proofs.good.row.Goals.{Joined-report-at-le1, Joined-report-at-le1-2, Joined-small, Joined-small-2, then-report-at-le1, else-report-at-le1, then-report-at-le1-2, else-report-at-le1-2, then-small, else-small, then-small-2, else-small-2}

flags : (c : Joined-report-at-le1) → c.if-report-at-le1.value ≡ leb (get_or c.args.report.now c.args.at 0) 1 && leb (get_or c.args.report.now (c.args.at + 33) 0) 1
flags c =
    elim c.if-report-at-le1.branch [
      | then-report-at-le1 w ↦ w.value-is ∙ rw (le-leb _ _ w.if-report-at-le1.true)
      | else-report-at-le1 w ↦ w.value-is ∙ rw (lt-leb _ _ w.if-report-at-le1.false)
    ]

debits : (c : Joined-report-at-le1-2) → c.if-report-at-le1-2.value ≡ c.if-report-at-le1.value && ltb (le 16 c.args.report.now (c.args.at + 66)) (2 ^ 96)
debits c =
    elim c.if-report-at-le1-2.branch [
      | then-report-at-le1-2 w ↦ w.value-is ∙ rw w.if-report-at-le1-2.true w.small.ensures
      | else-report-at-le1-2 w ↦ w.value-is ∙ rw w.if-report-at-le1-2.false
    ]

credits : (c : Joined-small) → c.if-small.value ≡ c.if-report-at-le1-2.value && ltb (le 16 c.args.report.now (c.args.at + 82)) (2 ^ 96)
credits c =
    elim c.if-small.branch [
      | then-small w ↦ w.value-is ∙ rw w.if-small.true w.small-then-small.ensures
      | else-small w ↦ w.value-is ∙ rw w.if-small.false
    ]

fees : (c : Joined-small-2) → c.if-small-2.value ≡ c.if-small.value && ltb (le 16 c.args.report.now (c.args.at + 98)) (2 ^ 96)
fees c =
    elim c.if-small-2.branch [
      | then-small-2 w ↦ w.value-is ∙ rw w.if-small-2.true w.small-then-small-2.ensures
      | else-small-2 w ↦ w.value-is ∙ rw w.if-small-2.false
    ]

-- the tests one after the other are all of them
all-tests : (m : ℕ) (s : List ℕ) (at : ℕ) {v w x y : Bool}
    → v ≡ leb (get_or s at 0) 1 && leb (get_or s (at + 33) 0) 1
    → w ≡ v && ltb (le 16 s (at + 66)) (2 ^ 96)
    → x ≡ w && ltb (le 16 s (at + 82)) (2 ^ 96)
    → y ≡ x && ltb (le 16 s (at + 98)) (2 ^ 96)
    → y && leb (le 4 s (at + 114)) m ≡ good_row m (report_row_at s at)
all-tests m s at i j k l = rw (l, k, j, i, row-tests m s at) (simp and_assoc)

pub returns-then-small-3 : goal.returns-then-small-3
returns-then-small-3 c =
    let a = c.args in
    let p = goal.at.returns-then-small-3 c in
    rw c.u32_at.ensures
    (ap (λ (v : Bool). v && leb (le 4 a.report.now (a.at + 114)) a.fed) (sym c.if-small-3.true)
    ∙ all-tests a.fed a.report.now a.at (flags p.Joined-report-at-le1) (debits p.Joined-report-at-le1-2) (credits p.Joined-small) (fees p.Joined-small-2))

pub returns-else-small-3 : goal.returns-else-small-3
returns-else-small-3 c =
    let a = c.args in
    let p = goal.at.returns-else-small-3 c in
    c.if-small-3.false
    ∙ ap (λ (v : Bool). v && leb (le 4 a.report.now (a.at + 114)) a.fed) (sym c.if-small-3.false)
    ∙ all-tests a.fed a.report.now a.at (flags p.Joined-report-at-le1) (debits p.Joined-report-at-le1-2) (credits p.Joined-small) (fees p.Joined-small-2)
