-- The rows found are those of the transfer's lines; the lines stay through each addition, and three additions, or one, are the transfer fed.
use Rattle.std.proofs.Common.{◌≡◌, ◌-◌, ◌*◌, ◌^◌, ◌<◌, ◌≤◌, true, sym, refl, ◌∙◌, arith}
use Rattle.std.specs.Prelude.{Some}
use Rattle.month.specs.Transfers.{summed, own, source_line, destination_line}
use Rattle.month.specs.Report.{lines_of}
use Rattle.month.specs.Bytes.{rows_to}
use Rattle.month.specs.Lookup.{fed_at, row_of}
use Rattle.month.specs.Standing.{Stands}
use Rattle.month.proofs.Bound.{AllWithin}
use Rattle.month.proofs.Spots.{row-none}
use Rattle.month.proofs.Numbered.{line-own, line-source, line-destination}
use Rattle.month.proofs.Posts.{found, found_in, found-line, has-not-own, has-own, has-not-source, has-not-destination, has-three, bears-takes, two-takes, takes_two, takes_one, add-stands, Light, whole_by, source_by, fee-most, one-fed, three-fed}
use Rattle.month.proofs.sums.post.Goals as goal
use Rattle.month.proofs.sums.post.Goals.{After-add-2, After-is_summed, After-row-2, After-row-3, After-u64_at-amount, After-u64_at-fee}

-- what was found is the row of each line
own-row : (c : After-is_summed) → Some c.in-Some.own ≡ row_of (own (fed_at c.args.t.now c.args.i)) (lines_of (rows_to c.args.report.now c.args.rows))
own-row c = rw (line-own, c.new-lines.ensures) at c.in-Some.ensures

source-row : (c : After-row-3) → Some c.in-Some-row.source ≡ row_of (source_line (fed_at c.args.t.now c.args.i)) (lines_of (rows_to c.args.report.now c.args.rows))
source-row c = rw (line-source, c.new-lines.ensures) at c.in-Some-row.ensures

destination-row : (c : After-u64_at-amount) → Some c.in-Some-row-2.destination ≡ row_of (destination_line (fed_at c.args.t.now c.args.i)) (lines_of (rows_to c.args.report.now c.args.rows))
destination-row c = rw (line-destination, c.new-lines.ensures) at c.in-Some-row-2.ensures

-- past the first test it is summed
is-summed : (c : After-row-2) → summed (fed_at c.args.t.now c.args.i) ≡ true
is-summed c = sym c.is_summed.ensures ∙ c.if-not-is_summed.false

-- the two numbers of the transfer
fee-below : (c : After-u64_at-fee) → c.u64_at-fee.result ≤ c.u64_at-amount.result
fee-below c =
    let a = c.args in
    fee-most a.t.now a.i c.u64_at-amount.result c.u64_at-fee.result (sym c.is_summed.ensures ∙ c.if-not-is_summed.false) c.u64_at-amount.ensures c.u64_at-fee.ensures

light-whole : (c : After-u64_at-fee) → Light (whole_by c.u64_at-amount.result c.u64_at-fee.result)
light-whole c = record { debits_below = omega arith; credits_below = omega arith; fees_below = omega arith; apart_most = omega arith }

light-source : (c : After-u64_at-fee) → Light (source_by c.u64_at-amount.result)
light-source c = record { debits_below = omega arith; credits_below = omega arith; fees_below = omega arith; apart_most = omega arith }

-- after the first addition
stands2 : (c : After-add-2) → c.in-Some.own < c.args.rows → Stands c.add-2.new.report c.args.rows
stands2 c h =
    let a = c.args in
    add-stands a.report.now c.add-2.new.report a.rows c.in-Some.own (whole_by c.u64_at-amount.result c.u64_at-fee.result) h c.requires.1 c.add-2.auto.report c.add-2.ensures

room2 : (c : After-add-2) → c.in-Some.own < c.args.rows → Light (whole_by c.u64_at-amount.result c.u64_at-fee.result)
    → AllWithin (2 ^ 128 - 2 * 2 ^ 64) 4294967294 (rows_to c.add-2.new.report c.args.rows)
room2 c h l =
    let a = c.args in
    takes_two a.report.now c.add-2.new.report a.rows c.in-Some.own (whole_by c.u64_at-amount.result c.u64_at-fee.result) h c.requires.1 c.add-2.auto.report c.add-2.ensures c.requires.2 l

pub returns-in_default : goal.returns-in_default
returns-in_default c =
    let a = c.args in
    let r = rows_to a.report.now a.rows in
    (sym (has-not-own r (fed_at a.t.now a.i) (row-none _ (lines_of r) (rw (line-own, c.new-lines.ensures) at c.in_default.ensures))), refl)

pub add-requires : goal.add-requires
add-requires c =
    let a = c.args in
    (found_in a.report.now a.rows (own (fed_at a.t.now a.i)) (own-row (goal.at.add-requires c).After-is_summed), omega arith, c.requires.1, bears-takes (rows_to a.report.now a.rows) c.requires.2)

pub returns-then-not-is_summed : goal.returns-then-not-is_summed
returns-then-not-is_summed c =
    let a = c.args in
    let t = fed_at a.t.now a.i in
    let e = own-row (goal.at.returns-then-not-is_summed c).After-is_summed in
    let q = sym c.is_summed.ensures ∙ c.if-not-is_summed.true in (
      sym (has-own (rows_to a.report.now a.rows) t q (found a.report.now a.rows (own t) e)),
      one-fed a.report.now c.add.new.report a.rows c.in-Some.own t c.requires.1 q (found-line a.report.now a.rows (own t) e) c.add.ensures,
    )

pub returns-in_default-row : goal.returns-in_default-row
returns-in_default-row c =
    let a = c.args in
    let b = a.report.now in
    let t = fed_at a.t.now a.i in
    let at = goal.at.returns-in_default-row c in
    let o = found b a.rows (own t) (own-row at.After-is_summed) in
    (sym (has-not-source (rows_to b a.rows) t (is-summed at.After-row-2) o (row-none _ (lines_of (rows_to b a.rows)) (rw (line-source, c.new-lines.ensures) at c.in_default-row.ensures))), refl)

pub returns-in_default-row-2 : goal.returns-in_default-row-2
returns-in_default-row-2 c =
    let a = c.args in
    let b = a.report.now in
    let t = fed_at a.t.now a.i in
    let at = goal.at.returns-in_default-row-2 c in
    let o = found b a.rows (own t) (own-row at.After-is_summed) in
    let p = found b a.rows (source_line t) (source-row at.After-row-3) in
    (sym (has-not-destination (rows_to b a.rows) t (is-summed at.After-row-2) o p (row-none _ (lines_of (rows_to b a.rows)) (rw (line-destination, c.new-lines.ensures) at c.in_default-row-2.ensures))), refl)

pub overflow_sub-amount : goal.overflow_sub-amount
overflow_sub-amount c = fee-below (goal.at.overflow_sub-amount c).After-u64_at-fee

pub add-requires-2 : goal.add-requires-2
add-requires-2 c =
    let a = c.args in
    let b = a.report.now in
    let at = goal.at.add-requires-2 c in
    (found_in b a.rows (own (fed_at a.t.now a.i)) (own-row at.After-is_summed), omega arith, c.requires.1, bears-takes (rows_to b a.rows) c.requires.2)

pub add-requires-3 : goal.add-requires-3
add-requires-3 c =
    let a = c.args in
    let b = a.report.now in
    let t = fed_at a.t.now a.i in
    let at = goal.at.add-requires-3 c in
    let h = found_in b a.rows (own t) (own-row at.After-is_summed) in (
      found_in b a.rows (source_line t) (source-row at.After-row-3),
      omega arith,
      stands2 at.After-add-2 h,
      two-takes (rows_to c.add-2.new.report a.rows) (room2 at.After-add-2 h (light-whole at.After-u64_at-fee)),
    )

pub overflow_sub-amount-2 : goal.overflow_sub-amount-2
overflow_sub-amount-2 c = fee-below (goal.at.overflow_sub-amount-2 c).After-u64_at-fee

pub add-requires-4 : goal.add-requires-4
add-requires-4 c =
    let a = c.args in
    let b = a.report.now in
    let n = a.rows in
    let t = fed_at a.t.now a.i in
    let at = goal.at.add-requires-4 c in
    let h = found_in b n (own t) (own-row at.After-is_summed) in
    let g = found_in b n (source_line t) (source-row at.After-row-3) in
    let p = c.in-Some-row.source in
    let x = source_by c.u64_at-amount.result in
    let s = stands2 at.After-add-2 h in (
      found_in b n (destination_line t) (destination-row at.After-u64_at-amount),
      omega arith,
      add-stands c.add-2.new.report c.add-3.new.report n p x g s c.add-3.auto.report c.add-3.ensures,
      takes_one c.add-2.new.report c.add-3.new.report n p x g s c.add-3.auto.report c.add-3.ensures (room2 at.After-add-2 h (light-whole at.After-u64_at-fee)) (light-source at.After-u64_at-fee),
    )

pub returns : goal.returns
returns c =
    let a = c.args in
    let b = a.report.now in
    let n = a.rows in
    let t = fed_at a.t.now a.i in
    let at = goal.at.returns c in
    let o = own-row at.After-is_summed in
    let s = source-row at.After-row-3 in
    let d = destination-row at.After-u64_at-amount in
    let q = is-summed at.After-row-2 in (
      sym (has-three (rows_to b n) t q (found b n (own t) o) (found b n (source_line t) s) (found b n (destination_line t) d)),
      three-fed b c.add-2.new.report c.add-3.new.report c.add-4.new.report n c.in-Some.own c.in-Some-row.source c.in-Some-row-2.destination a.t.now a.i c.u64_at-amount.result c.u64_at-fee.result c.requires.1
          (found_in b n (own t) o) (found_in b n (source_line t) s) c.add-2.auto.report q c.u64_at-amount.ensures c.u64_at-fee.ensures
          (found-line b n (own t) o) (found-line b n (source_line t) s) (found-line b n (destination_line t) d)
          c.add-2.ensures c.add-3.ensures c.add-4.ensures,
    )
