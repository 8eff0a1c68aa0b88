-- A number that is held is of a transfer that is there.
use Rattle.std.proofs.Common.{length, ap, arith}
use Rattle.month.specs.Standing.{Picked}
use Rattle.month.proofs.Noting.{held_at, held-length}
use Rattle.month.proofs.new.Lines.line.Goals as goal

pub numbered-requires : goal.numbered-requires
numbered-requires c = held_at c.self.invariant.0 c.args.i (omega (arith, held-length c.self.invariant.0, ap (λ (p : Picked). length p.lines) c.self.view_is))
