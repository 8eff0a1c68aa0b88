-- The tests are made in the order of `feed`, and each has its law in Answers.
use Rattle.std.proofs.Common.{◌≡◌, ◌+◌, ◌/◌, ltb, true, length, sym, ap, ◌∙◌, arith, ltb-false, lt-ltb}
use Rattle.month.specs.Report.{used}
use Rattle.month.specs.Bytes.{transfers_in, Books, stays, holds, good_table, good_report}
use Rattle.month.proofs.Answers.{after, Passed, transfers-count, refused-19, refused-20, refused-9, refused-10, passed-holds, good-stands}
use Rattle.month.proofs.Views.{rows-length}
use Rattle.month.proofs.judge.Goals as goal
use Rattle.month.proofs.judge.Goals.{After-full, Else-not-report, Else-not-table}

-- what is known behind the first two tests
table_good : (c : Else-not-table) → good_table c.args.transfers.now ≡ true
table_good c = sym c.table.ensures ∙ c.if-not-table.false

report_good : (c : Else-not-report) → good_report c.args.report.now c.args.rows c.args.fed ≡ true
report_good c = sym c.report.ensures ∙ c.if-not-report.false

pub returns-then-not-table : goal.returns-then-not-table
unfolding stays
returns-then-not-table c =
    let a = c.args in
    ap (λ (x : Books). x.number) (refused-19 a.report.now a.rows a.fed a.transfers.now (sym c.table.ensures ∙ c.if-not-table.true))

pub returns-then-not-report : goal.returns-then-not-report
unfolding stays
returns-then-not-report c =
    let a = c.args in
    ap (λ (x : Books). x.number) (refused-20 a.report.now a.rows a.fed a.transfers.now (table_good (goal.at.returns-then-not-report c).Else-not-table) (sym c.report.ensures ∙ c.if-not-report.true))

pub new-requires : goal.new-requires
new-requires c =
    let a = c.args in
    good-stands a.report.now a.rows a.fed (report_good (goal.at.new-requires c).Else-not-report)

pub full-requires : goal.full-requires
full-requires c =
    let a = c.args in
    rw (c.new.ensures, rows-length) (omega (arith, good-stands a.report.now a.rows a.fed (report_good (goal.at.full-requires c).Else-not-report)))

-- whether there is room, by the rows of the buffer
full_is : (c : After-full) → c.full.result ≡ ltb (length c.args.report.now / 118) (used (after c.args.report.now c.args.rows c.args.transfers.now))
full_is c = rw (← c.new.ensures) c.full.ensures

pub returns-then-full : goal.returns-then-full
unfolding stays
returns-then-full c =
    let a = c.args in
    ap (λ (x : Books). x.number) (refused-9 a.report.now a.rows a.fed a.transfers.now (table_good (goal.at.returns-then-full c).Else-not-table) (report_good (goal.at.returns-then-full c).Else-not-report) (sym (full_is (goal.at.returns-then-full c).After-full) ∙ c.if-full.true))

pub returns-then-left-transfers : goal.returns-then-left-transfers
unfolding stays
returns-then-left-transfers c =
    let a = c.args in
    ap (λ (x : Books). x.number) (refused-10 a.report.now a.rows a.fed a.transfers.now (table_good (goal.at.returns-then-left-transfers c).Else-not-table) (report_good (goal.at.returns-then-left-transfers c).Else-not-report) (sym (full_is (goal.at.returns-then-left-transfers c).After-full) ∙ c.if-full.false) (lt-ltb 4294967295 (a.fed + length (transfers_in a.transfers.now)) (omega (arith, transfers-count a.transfers.now))))

pub returns : goal.returns
unfolding holds
returns c =
    let a = c.args in
    let p : Passed a.report.now a.rows a.fed a.transfers.now
    = record {
      table_good = table_good (goal.at.returns c).Else-not-table;
      report_good = report_good (goal.at.returns c).Else-not-report;
      room = ltb-false _ _ (sym (full_is (goal.at.returns c).After-full) ∙ c.if-full.false);
      limit = omega (arith, transfers-count a.transfers.now);
    } in
    ap (λ (x : Books). x.number) (passed-holds p)
