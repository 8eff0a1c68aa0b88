-- A line that is not above the bound, or stands in the report or among those held, changes nothing; any other is put in at its place.
use Rattle.std.proofs.Common.{◌≡◌, ℕ, ◌+◌, ◌*◌, ◌/◌, ◌≤◌, false, List, [], length, take, sym, ◌∙◌, arith}
use Rattle.month.specs.Transfers.{Line}
use Rattle.month.specs.Report.{lines_of}
use Rattle.month.specs.Adding.{among}
use Rattle.month.specs.Lookup.{line_numbered, lines_numbered, spot_of, least_with}
use Rattle.month.specs.Standing.{Picked}
use Rattle.month.proofs.Noting.{note-below, note-old, note-behind, note-there, note-put, held-length, Keeps, keeps, Noted, picked}
use Rattle.month.proofs.Spots.{spot-most, row-is, among-spot}
use Rattle.month.proofs.new.Lines.enter.Goals as goal
use Rattle.month.proofs.new.Lines.enter.Goals.{After-insert, After-is_some, After-spot-place, After-has_at, After-min-kept}

-- whether the report has the line
there : (c : After-is_some) → among c.numbered-line.result (lines_of c.args.report.now) ≡ c.is_some.result
there c = sym (c.is_some.ensures ∙ rw c.find.ensures (row-is c.numbered-line.result (lines_of c.args.report.now)))

-- its place among those held
seat : (c : After-spot-place) → c.spot-place.result ≡ spot_of c.numbered-line.result (lines_numbered c.self.inside.table.now (take c.self.inside.count c.self.inside.numbers))
seat c = rw (← c.self.view_is) at c.spot-place.ensures

-- whether it is one of them
amid : (c : After-has_at) → among c.numbered-line.result (lines_numbered c.self.inside.table.now (take c.self.inside.count c.self.inside.numbers)) ≡ c.has_at.result
amid c =
    let e = rw (← c.self.view_is) at c.has_at.ensures in
    let q = rw (← c.self.view_is) at c.spot-place.ensures in
    among-spot c.numbered-line.result [] c.self.invariant.0.held_ascend ∙ sym (rw q at e)

-- the place is among those that stay
kept : (c : After-min-kept) → Keeps c.spot-place.result c.self.inside.count (length c.self.inside.numbers) c.min-kept.result
kept c =
    let s = c.self in
    let e = rw (← s.view_is) at c.spot-place.ensures in
    let m = s.invariant.1 in
    keeps
    (omega (arith, e, spot-most c.numbered-line.result (lines_numbered s.inside.table.now (take s.inside.count s.inside.numbers)), held-length s.invariant.0))
    (omega arith)
    s.invariant.0.held_most
    (rw m c.min-kept.ensures)

-- a line that changes nothing
stays : {t ns : List ℕ} {k : ℕ} (old : List Line) (bound : Line) (n : ℕ) → length ns ≡ 3072 → Noted t ns k old bound n ns k
    → ◌≡◌ {A = Picked} (record { table = t; lines = lines_numbered t (take k ns) }) (record { table = t; lines = least_with 3072 old bound (line_numbered t n) (lines_numbered t (take k ns)) })
stays {t} old bound n m e = picked t (rw m at e.entered)

pub returns-then-not-less : goal.returns-then-not-less
returns-then-not-less c =
    let a = c.args in
    let s = c.self in
    rw (← s.view_is) (stays (lines_of a.report.now) a.bound.now a.n s.invariant.1 (note-below s.invariant.0 (lines_of a.report.now) a.bound.now a.n c.numbered-line.ensures (sym c.less.ensures ∙ c.if-not-less.true)))

pub returns-then-is_some : goal.returns-then-is_some
returns-then-is_some c =
    let a = c.args in
    let s = c.self in
    let at = goal.at.returns-then-is_some c in
    rw (← s.view_is) (stays (lines_of a.report.now) a.bound.now a.n s.invariant.1 (note-old s.invariant.0 (lines_of a.report.now) a.bound.now a.n c.numbered-line.ensures (there at.After-is_some ∙ c.if-is_some.true)))

pub returns-then-place-ge-MOST : goal.returns-then-place-ge-MOST
returns-then-place-ge-MOST c =
    let a = c.args in
    let s = c.self in
    let at = goal.at.returns-then-place-ge-MOST c in
    rw (← s.view_is)
    (stays (lines_of a.report.now) a.bound.now a.n s.invariant.1
    (note-behind s.invariant.0 (lines_of a.report.now) a.bound.now a.n c.numbered-line.ensures
    (sym c.less.ensures ∙ c.if-not-less.false) (there at.After-is_some ∙ c.if-is_some.false) (seat at.After-spot-place) (omega (arith, s.invariant.1, c.if-place-ge-MOST.true))))

pub returns-then-has_at : goal.returns-then-has_at
returns-then-has_at c =
    let a = c.args in
    let s = c.self in
    let at = goal.at.returns-then-has_at c in
    rw (← s.view_is)
    (stays (lines_of a.report.now) a.bound.now a.n s.invariant.1
    (note-there s.invariant.0 (lines_of a.report.now) a.bound.now a.n c.numbered-line.ensures
    (sym c.less.ensures ∙ c.if-not-less.false) (there at.After-is_some ∙ c.if-is_some.false) (seat at.After-spot-place) (amid at.After-has_at ∙ c.if-has_at.true)))

pub insert-requires : goal.insert-requires
insert-requires c =
    let k = kept (goal.at.insert-requires c).After-min-kept in
    (k.1, k.2)

-- what is held with the line put in
put : (c : After-insert)
    → among c.numbered-line.result (lines_of c.args.report.now) ≡ false
    → c.spot-place.result ≡ spot_of c.numbered-line.result (lines_numbered c.self.inside.table.now (take c.self.inside.count c.self.inside.numbers))
    → Keeps c.spot-place.result c.self.inside.count (length c.self.inside.numbers) c.min-kept.result
    → among c.numbered-line.result (lines_numbered c.self.inside.table.now (take c.self.inside.count c.self.inside.numbers)) ≡ false
    → Noted c.self.inside.table.now c.self.inside.numbers c.self.inside.count (lines_of c.args.report.now) c.args.bound.now c.args.n c.insert.new.numbers (c.min-kept.result + 1)
put c new place k apart =
    let a = c.args in
    let s = c.self in
    let room : a.n / 3 * 150 + 150 ≤ length s.inside.table.now = rw (← s.view_is) at c.requires in
    note-put s.invariant.0 (lines_of a.report.now) a.bound.now a.n c.numbered-line.ensures (sym c.less.ensures ∙ c.if-not-less.false) new place room c.insert.auto.numbers k apart c.insert.ensures

pub invariant_of-self : goal.invariant_of-self
invariant_of-self c =
    let at = goal.at.invariant_of-self c in
    let e = put at.After-insert (there at.After-is_some ∙ c.if-is_some.false) (seat at.After-spot-place) (kept at.After-min-kept) (amid at.After-has_at ∙ c.if-has_at.false) in
    (e.holds_lines, c.insert.auto.numbers ∙ c.self.invariant.1)

pub returns : goal.returns
returns c =
    let at = goal.at.returns c in
    let e = put at.After-insert (there at.After-is_some ∙ c.if-is_some.false) (seat at.After-spot-place) (kept at.After-min-kept) (amid at.After-has_at ∙ c.if-has_at.false) in
    rw (← c.self.view_is) (picked c.self.inside.table.now (rw c.self.invariant.1 at e.entered))
