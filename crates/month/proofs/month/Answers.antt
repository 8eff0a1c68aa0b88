-- A refusal leaves all. Without one all tests are passed: `feed` leaves the rows, and the rest is made 0.
use Rattle.std.proofs.Common.{◌*◌, sym, ◌∙◌, arith, rules}
use Rattle.month.proofs.Answers.{Passed, number-not-0, passed-zero, good-stands, passed-bears, transfers-count, tail-cleared, refused-feeds, passed-feeds}
use Rattle.month.proofs.month.Goals as goal
use Rattle.month.proofs.month.Goals.{In_default}

-- what judge has found where it refuses nothing
passed : (c : In_default) → let a = c.args in Passed a.report.now a.rows a.fed a.transfers.now
passed c = let a = c.args in passed-zero a.report.now a.rows a.fed a.transfers.now c.in_default.ensures

pub returns-in-Err : goal.returns-in-Err
returns-in-Err c =
    let a = c.args in
    refused-feeds a.report.now a.rows a.fed a.transfers.now c.number.result (c.number.ensures ∙ sym c.in-Err.ensures) (rw c.number.ensures (number-not-0 c.in-Err.refusal))

pub feed-used-requires : goal.feed-used-requires
feed-used-requires c =
    let a = c.args in
    let p = passed (goal.at.feed-used-requires c).In_default in
    let k = transfers-count a.transfers.now in
    (good-stands a.report.now a.rows a.fed p.report_good, omega (arith, p.limit, k), passed-bears p, omega (arith, p.room))

pub overflow_mul-used : goal.overflow_mul-used
overflow_mul-used c =
    let p = passed (goal.at.overflow_mul-used c).In_default in
    let f = c.feed-used in
    omega (arith, p.room, f.ensures.1, f.auto.report)

pub slice_bounds-fill-count : goal.slice_bounds-fill-count
slice_bounds-fill-count c =
    let p = passed (goal.at.slice_bounds-fill-count c).In_default in
    let f = c.feed-used in
    omega (arith, p.room, f.ensures.1, f.auto.report)

pub slice_bounds-fill-start : goal.slice_bounds-fill-start
slice_bounds-fill-start c =
    let p = passed (goal.at.slice_bounds-fill-start c).In_default in
    let f = c.feed-used in
    omega (arith, p.room, f.ensures.1, f.auto.report)

pub overflow_cast-result : goal.overflow_cast-result
overflow_cast-result c =
    let p = passed (goal.at.overflow_cast-result c).In_default in
    omega (arith, p.limit, transfers-count c.args.transfers.now)

pub overflow_add-result : goal.overflow_add-result
overflow_add-result c =
    let p = passed (goal.at.overflow_add-result c).In_default in
    omega (arith, p.limit, transfers-count c.args.transfers.now)

pub returns : goal.returns
returns c =
    let p = passed (goal.at.returns c).In_default in
    let f = c.feed-used in
    let d = f.new.report in
    let u = f.result in
    rw (c.fill.ensures.after (λ y e. e), tail-cleared d (u * 118) (omega (arith, p.room, f.ensures.1, f.auto.report)))
    (passed-feeds p d u f.ensures.0 f.ensures.1 (λ i. search rules) f.auto.report)
