-- What the rows left and the lines left give together, before the rows that are done, is always what all of them give. Each turn puts in the last line left.
-- Assumes nothing.
use Rattle.std.proofs.Common.{◌≡◌, ◌+◌, ◌-◌, ◌*◌, ◌≤◌, ◌++◌, length, take, sym, refl, ap, ◌∙◌, append-nil, take_all, arith}
use Rattle.month.specs.Report.{Report, lines_of}
use Rattle.month.specs.Adding.{add_rows}
use Rattle.month.specs.Bytes.{rows_to}
use Rattle.month.specs.Lookup.{spot_of, empty_rows}
use Rattle.month.proofs.Views.{lines-length, rows-part}
use Rattle.month.proofs.Spots.{spot-most}
use Rattle.month.proofs.Merging.{put_in, front-sorted, front-among, rows_before, put_step, rows_none, rows_whole, lines_next, lines-below, line-held}
use Rattle.month.proofs.empty.put_in.Goals as goal
use Rattle.month.proofs.empty.put_in.Goals.{After-spot-place}

-- the spot is one of the rows left
place-most : (c : After-spot-place) → c.spot-place.result ≤ c.loop-j.i
place-most c =
    let l = c.loop-j in
    omega (arith, rw c.new.ensures at c.spot-place.ensures, spot-most c.line-line.result (lines_of (rows_to l.report l.i)), lines-length l.report l.i)

pub loop-j-init : goal.loop-j-init
loop-j-init c =
    let b = c.args.report.now in
    let ks = c.args.lines.now.lines in
    let n = c.args.rows + length ks in
    let all = add_rows (rows_to b c.args.rows) (empty_rows ks) in
    let whole : take c.len-j.result ks ≡ ks = take_all c.len-j.result ks (omega (arith, c.len-j.ensures.lines)) in
    (omega arith, refl, c.requires.0.sorted, c.requires.2, rw (whole, c.len-j.ensures.lines) (ap (λ (r : Report). all ++ r) (rows_none b n) ∙ append-nil all))

pub overflow_mul-place : goal.overflow_mul-place
overflow_mul-place c = omega (arith, place-most (goal.at.overflow_mul-place c).After-spot-place, c.len-j.ensures.lines)

pub overflow_add-place : goal.overflow_add-place
overflow_add-place c = omega (arith, place-most (goal.at.overflow_add-place c).After-spot-place, c.len-j.ensures.lines)

pub overflow_mul-place-in-loop-j : goal.overflow_mul-place-in-loop-j
overflow_mul-place-in-loop-j c = omega (arith, place-most (goal.at.overflow_mul-place-in-loop-j c).After-spot-place, c.len-j.ensures.lines)

pub shift-requires : goal.shift-requires
shift-requires c =
    let most = place-most (goal.at.shift-requires c).After-spot-place in
    (omega arith, omega (arith, c.len-j.ensures.lines))

pub put_row-requires : goal.put_row-requires
put_row-requires c = (omega (arith, place-most (goal.at.put_row-requires c).After-spot-place, c.len-j.ensures.lines, c.shift.auto.d), c.line-line.ensures.bytes)

pub loop-j-preserved : goal.loop-j-preserved
loop-j-preserved c =
    let l = c.loop-j in
    let ks = c.args.lines.now.lines in
    let b = l.report in
    let p = c.spot-place.result in
    let j = l.j - 1 in
    let line = c.line-line.result in
    let this = c.line-line.ensures.line in
    let n = c.args.rows + length ks in
    let step : j + 1 ≡ l.j = omega arith in
    let most = place-most (goal.at.loop-j-preserved c).After-spot-place in
    let wide : length line ≡ 66 = c.line-line.ensures.bytes in
    let inside : l.j ≤ length ks = omega (arith, c.len-j.ensures.lines) in
    let room : n * 118 ≤ length b = omega arith in
    let seat : p ≡ spot_of line (lines_of (rows_to b l.i)) = rw (← c.new.ensures) c.spot-place.ensures in
    let out : c.put_row.new.report ≡ put_in b p l.i l.j j line =
    c.put_row.ensures ∙ rw (c.shift.ensures, step) in
    let before : rows_to c.put_row.new.report p ≡ take p (rows_to b l.i) =
    rw out (rows_before b p l.i l.j j n line most step (omega arith) room wide ∙ sym (rows-part b l.i p most)) in
    let whole =
    put_step b p l.i l.j j n line most step (omega arith) room wide l.invariant.2 (l.invariant.3 line (rw this (line-held c.len-j.ensures.ascend l.j j step inside))) seat
    (take j ks) (rw this (lines-below c.len-j.ensures.ascend l.j j step inside)) in (
      omega arith,
      c.put_row.auto.report ∙ c.shift.auto.d ∙ l.invariant.1,
      rw before (front-sorted p l.invariant.2),
      λ x i. rw before (front-among x p (rows_to b l.i) (l.invariant.3 x i)),
      rw (out, whole, this, ← lines_next c.len-j.ensures.ascend l.j j step inside) l.invariant.4,
    )

pub returns : goal.returns
unfolding add_rows
returns c =
    let l = c.loop-j in
    let none : l.j ≡ 0 = omega arith in
    let end : l.i + l.j ≡ l.i = omega arith in
    sym (rows_whole l.report l.i (c.args.rows + length c.args.lines.now.lines) (omega arith)) ∙ (rw (end, none) at l.invariant.4)
