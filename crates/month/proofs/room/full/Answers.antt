-- The new lines are those counted and those above the last one counted. They are too many as soon as more are held than there is room left for, and all are
-- counted when fewer are held than can be.
use Rattle.month.proofs.Counting.{rows-asked, new-few, new-all, held-least, held-last}
use Rattle.month.specs.Report.{lines_of, lines_in, used, fed_into}
use Rattle.month.specs.Bytes.{transfers_in}
use Rattle.std.proofs.Common.{◌≡◌, ◌-◌, ◌<◌, ◌≤◌, [], length, get_or, take, refl, ap, arith, take_all, le-ltb, lt-ltb}
use Rattle.month.specs.Lookup.{new_above}
use Rattle.month.specs.Standing.{Picked}
use Rattle.month.proofs.room.full.Goals as goal
use Rattle.month.proofs.room.full.Goals.{After-len-k}

pub returns-then-t-room : goal.returns-then-t-room
returns-then-t-room c =
    let a = c.args in
    let h : used (fed_into a.report.now (transfers_in a.t.now)) ≤ a.size =
    omega (arith, c.requires, c.len.ensures.rows, rows-asked a.report.now a.t.now c.len.ensures.ascends, new-few a.report.now a.t.now) in
    rw (le-ltb _ _ h)

pub loop-fresh-init : goal.loop-fresh-init
loop-fresh-init c =
    let a = c.args in
    (ap (λ (p : Picked). p.table) c.none_of-lines.ensures, refl, omega arith, omega arith, omega (arith, new-all a.report.now a.t.now))

-- what was held this time
lines : (c : After-len-k) → c.least.new.lines.lines ≡ take 3072 (new_above (lines_of c.args.report.now) (take c.loop-fresh.width c.loop-fresh.last) (lines_in (transfers_in c.args.t.now)))
lines c = ap (λ (p : Picked). p.lines) c.least.ensures

pub returns-then-room-fresh : goal.returns-then-room-fresh
returns-then-room-fresh c =
    let a = c.args in
    let l = c.loop-fresh in
    let r = rows-asked a.report.now a.t.now c.len.ensures.ascends in
    let m = held-least (lines_of a.report.now) (take l.width l.last) (lines_in (transfers_in a.t.now)) 3072 (lines (goal.at.returns-then-room-fresh c).After-len-k) in
    let h : a.size < used (fed_into a.report.now (transfers_in a.t.now)) = omega (arith, c.requires, c.len.ensures.rows, c.len-k.ensures.lines, r, m, l.invariant.3, l.invariant.4) in
    rw (lt-ltb _ _ h)

pub returns-then-k-lt-MOST : goal.returns-then-k-lt-MOST
returns-then-k-lt-MOST c =
    let a = c.args in
    let l = c.loop-fresh in
    let r = rows-asked a.report.now a.t.now c.len.ensures.ascends in
    let m = held-least (lines_of a.report.now) (take l.width l.last) (lines_in (transfers_in a.t.now)) 3072 (lines (goal.at.returns-then-k-lt-MOST c).After-len-k) in
    let h : used (fed_into a.report.now (transfers_in a.t.now)) ≤ a.size = omega (arith, c.requires, c.len.ensures.rows, c.len-k.ensures.lines, r, m, l.invariant.3, l.invariant.4) in
    rw (le-ltb _ _ h)

pub loop-fresh-preserved : goal.loop-fresh-preserved
loop-fresh-preserved c =
    let a = c.args in
    let l = c.loop-fresh in
    let p = c.line-last in
    let f : p.result ≡ get_or c.least.new.lines.lines (length c.least.new.lines.lines - 1) [] = rw (← c.len-k.ensures.lines) p.ensures.line in
    let e = held-last (lines_of a.report.now) (take l.width l.last) (lines_in (transfers_in a.t.now)) 3072 (lines (goal.at.loop-fresh-preserved c).After-len-k) (omega (arith, c.len-k.ensures.lines)) (omega (arith, c.len-k.ensures.lines)) f in
    (ap (λ (q : Picked). q.table) c.least.ensures, p.ensures.bytes, omega arith, omega arith, rw (take_all 66 p.result (omega (arith, p.ensures.bytes))) (omega (arith, c.len-k.ensures.lines, e, l.invariant.4)))
