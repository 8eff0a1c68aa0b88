-- The low half is below 2 to the 64th, so the high half tells (`small-high`).
use Rattle.std.proofs.Common.{sym, arith}
use Rattle.month.proofs.Prefixes.{small-high}
use Rattle.month.proofs.good.small.Goals as goal

pub returns : goal.returns
returns c =
    let a = c.args in
    rw c.u64_at.ensures (sym (small-high a.report.now a.at (λ i. omega (arith, c.type_inv.report i))))
