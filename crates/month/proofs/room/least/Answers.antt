-- What is held are the least new lines of the transfers passed, and one transfer more makes it those of one more.
use Rattle.std.proofs.Common.{◌≡◌, ◌/◌, length, ◌∙◌, arith}
use Rattle.month.specs.Report.{lines_of}
use Rattle.month.specs.Bytes.{transfers_to, transfers_in}
use Rattle.month.specs.Lookup.{fed_at}
use Rattle.month.proofs.Gathering.{none-gathered, one-gathered, transfers-more}
use Rattle.month.proofs.Noting.{picked}
use Rattle.month.proofs.room.least.Goals as goal

pub loop-i-init : goal.loop-i-init
unfolding transfers_to
loop-i-init c = c.clear.ensures ∙ rw c.requires (picked c.args.t.now (none-gathered 3072 (lines_of c.args.report.now) c.args.bound.now))

pub loop-i-preserved : goal.loop-i-preserved
loop-i-preserved c =
    let a = c.args in
    let l = c.loop-i in
    c.enter_all.ensures
    ∙ rw (l.invariant, transfers-more a.t.now l.i)
    (picked a.t.now (one-gathered 3072 (lines_of a.report.now) a.bound.now (transfers_to a.t.now l.i) (fed_at a.t.now l.i)))

pub returns : goal.returns
unfolding transfers_in
returns c =
    let l = c.loop-i in
    let e : l.i ≡ length c.args.t.now / 150 = omega arith in
    rw e at l.invariant
