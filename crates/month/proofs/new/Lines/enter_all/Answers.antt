-- A transfer has one line or three, and each is entered into what the one before it left.
use Rattle.std.proofs.Common.{sym, ap, ◌∙◌}
use Rattle.month.specs.Transfers.{summed}
use Rattle.month.specs.Report.{lines_of}
use Rattle.month.specs.Lookup.{fed_at}
use Rattle.month.specs.Standing.{Picked}
use Rattle.month.proofs.Gathering.{one-noted, three-noted}
use Rattle.month.proofs.Noting.{picked}
use Rattle.month.proofs.new.Lines.enter_all.Goals as goal

pub returns-then-summed : goal.returns-then-summed
returns-then-summed c =
    let a = c.args in
    let t = a.self.now.table in
    c.enter-then-summed-2.ensures
    ∙ rw (c.enter-then-summed.ensures, c.enter.ensures) (picked t (three-noted 3072 (lines_of a.report.now) a.bound.now t a.i a.self.now.lines (ap (λ (p : Picked). summed (fed_at p.table a.i)) (sym c.self.view_is) ∙ sym c.is_summed-summed.ensures ∙ c.if-summed.true)))

pub returns-else-summed : goal.returns-else-summed
returns-else-summed c =
    let a = c.args in
    let t = a.self.now.table in
    c.enter.ensures ∙ picked t (one-noted 3072 (lines_of a.report.now) a.bound.now t a.i a.self.now.lines (ap (λ (p : Picked). summed (fed_at p.table a.i)) (sym c.self.view_is) ∙ sym c.is_summed-summed.ensures ∙ c.if-summed.false))
