-- What is held are the least new lines of the transfers passed, and one transfer more makes it those of one more.
use Rattle.std.proofs.Common.{[], get_or, take, ◌∙◌}
use Rattle.month.specs.Report.{lines_of}
use Rattle.month.specs.Lookup.{fed_at, transfers_at}
use Rattle.month.proofs.Gathering.{none-gathered, one-gathered, transfers-next, place_in}
use Rattle.month.proofs.Noting.{picked}
use Rattle.month.proofs.new.gather.Goals as goal

pub loop-i-init : goal.loop-i-init
loop-i-init c = c.clear.ensures ∙ picked c.args.lines.now.table (none-gathered 3072 (lines_of c.args.report.now) [])

pub enter_all-requires : goal.enter_all-requires
enter_all-requires c = rw c.loop-i.invariant (place_in c.args.lines.now.table c.args.wait.now c.loop-i.i-index c.requires c.loop-i-test.true)

pub loop-i-preserved : goal.loop-i-preserved
loop-i-preserved c =
    let a = c.args in
    let l = c.loop-i in
    let old = lines_of a.report.now in
    c.enter_all.ensures
    ∙ rw (l.invariant, transfers-next a.lines.now.table a.wait.now l.i-index c.loop-i-test.true)
    (picked a.lines.now.table (one-gathered 3072 old [] (transfers_at a.lines.now.table (take l.i-index a.wait.now)) (fed_at a.lines.now.table (get_or a.wait.now l.i-index 0))))
