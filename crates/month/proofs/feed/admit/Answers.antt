-- The lines that waiting transfers bring get empty rows, which change no sum; then the report has all their lines, and they are posted.
use Rattle.std.proofs.Common.{◌≡◌, ◌+◌, List, [], length, take, sym, ap, ◌∙◌, arith}
use Rattle.std.proofs.lemmas.List.{nil_from_length}
use borrow.Author.Tests.{eqb-true}
use Rattle.month.specs.Transfers.{FedTransfer}
use Rattle.month.specs.Report.{Report, used, lines_of, lines_in, fed_into}
use Rattle.month.specs.Adding.{add_rows}
use Rattle.month.specs.Bytes.{rows_to}
use Rattle.month.specs.Lookup.{transfers_at, new_above, empty_rows}
use Rattle.month.specs.Standing.{Picked}
use Rattle.month.proofs.Reports.{fed-nothing}
use Rattle.month.proofs.Adding.{add-all-sorted}
use Rattle.month.proofs.Views.{rows-length}
use Rattle.month.proofs.Bearing.{bears-empty}
use Rattle.month.proofs.Batches.{fresh, admitted-all, admitted-fed, admit-used, admit-out, admit-rows}
use Rattle.month.proofs.feed.admit.Goals as goal
use Rattle.month.proofs.feed.admit.Goals.{After-gather, After-put_in}

-- the report as it stood, and the transfers that wait
abbrev old : After-gather → Report
old c = rows_to c.args.report.now c.args.rows

abbrev waits : After-gather → List FedTransfer
waits c = let a = c.args in transfers_at a.t.now a.wait.now

-- the lines that they bring
lines_are : (c : After-gather) → c.gather.new.lines.lines ≡ take 3072 (new_above (lines_of (old c)) [] (lines_in (waits c)))
lines_are c = ap (λ (p : Picked). p.lines) (rw (c.new.ensures, c.none_of-lines.ensures) at c.gather.ensures)

-- how many rows there are then
rows_then : (c : After-gather) → c.args.rows + length c.gather.new.lines.lines ≡ used (fed_into (old c) (waits c))
rows_then c =
    let a = c.args in
    omega (arith, rows-length a.report.now a.rows, admit-used (old c) a.t.now a.wait.now c.requires.1 (lines_are c) c.requires.0.sorted)

-- the report with the empty rows
made :
    (c : After-put_in)
    → c.gather.new.lines.lines ≡ take 3072 (new_above (lines_of (rows_to c.args.report.now c.args.rows)) [] (lines_in (transfers_at c.args.t.now c.args.wait.now)))
    → rows_to c.put_in.new.report (c.args.rows + c.len.result) ≡ add_rows (rows_to c.args.report.now c.args.rows) (empty_rows (fresh (rows_to c.args.report.now c.args.rows) (transfers_at c.args.t.now c.args.wait.now)))
made c e =
    let a = c.args in
    rw c.len.ensures.lines (c.put_in.ensures ∙ admit-rows (rows_to a.report.now a.rows) a.t.now a.wait.now c.requires.1 e)

pub returns-then-is_empty : goal.returns-then-is_empty
returns-then-is_empty c =
    let a = c.args in
    let p = c.requires in
    let e : rows_to a.report.now a.rows ≡ fed_into (rows_to a.report.now a.rows) (transfers_at a.t.now a.wait.now) =
    rw (nil_from_length a.wait.now (eqb-true _ _ (sym c.is_empty.ensures ∙ c.if-is_empty.true))) (sym (fed-nothing p.0.sorted)) in
    (e, sym (rows-length a.report.now a.rows) ∙ ap used e)

pub overflow_add-used : goal.overflow_add-used
overflow_add-used c = omega (arith, rows_then (goal.at.overflow_add-used c).After-gather, c.len.ensures.lines, c.requires.4)

pub put_in-requires : goal.put_in-requires
put_in-requires c =
    let a = c.args in
    let p = c.requires in
    let g = (goal.at.put_in-requires c).After-gather in (
      p.0,
      omega (arith, rows_then g, p.4),
      admit-out (rows_to a.report.now a.rows) a.t.now a.wait.now p.1 (lines_are g),
    )

pub post_waiting-requires : goal.post_waiting-requires
post_waiting-requires c =
    let q = c.put_in in
    let p = c.requires in
    let e = made (goal.at.post_waiting-requires c).After-put_in (lines_are (goal.at.post_waiting-requires c).After-gather) in (
      record {
        inside = omega (arith, rows_then (goal.at.post_waiting-requires c).After-gather, c.len.ensures.lines, p.4, q.auto.report);
        sorted = rw e (add-all-sorted (empty_rows (fresh (old (goal.at.post_waiting-requires c).After-gather) (waits (goal.at.post_waiting-requires c).After-gather))) p.0.sorted);
      },
      p.1,
      p.2,
      rw e (bears-empty (fresh (old (goal.at.post_waiting-requires c).After-gather) (waits (goal.at.post_waiting-requires c).After-gather)) (old (goal.at.post_waiting-requires c).After-gather) (length c.args.wait.now) (omega (arith, p.1)) p.3),
      rw e (admitted-all (old (goal.at.post_waiting-requires c).After-gather) (waits (goal.at.post_waiting-requires c).After-gather)),
    )

pub returns : goal.returns
returns c = (
  c.post_waiting.ensures ∙ ap (λ (s : Report). fed_into s (waits (goal.at.returns c).After-gather)) (made (goal.at.returns c).After-put_in (lines_are (goal.at.returns c).After-gather)) ∙ admitted-fed (old (goal.at.returns c).After-gather) (waits (goal.at.returns c).After-gather),
  rw c.len.ensures.lines (rows_then (goal.at.returns c).After-gather),
)
