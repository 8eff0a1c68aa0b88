-- The rows kept are as many as the view has, and they ascend.
use Rattle.std.proofs.Common.{length, sym, ap, ◌∙◌}
use Rattle.month.proofs.Views.{rows-length}
use Rattle.month.proofs.report.Report.len.Goals as goal

pub returns-clause-rows : goal.returns-clause-rows
returns-clause-rows c = sym (rows-length c.self.inside.bytes.now c.self.inside.rows) ∙ ap length c.self.view_is
