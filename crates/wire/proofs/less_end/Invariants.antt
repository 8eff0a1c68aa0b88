-- The bytes before i are the same in both, so what follows them decides.
-- Assumes nothing.
use mathlib.Core.Path.{◌≡◌}
use lib.ListN.{drop}
use Rattle.wire.specs.Order.{lt_key}
use Rattle.wire.proofs.less_end.Given as goal

abbrev pub invariant-loop-i : goal.invariant-loop-i
invariant-loop-i l = lt_key (drop l.i l.a) (drop l.i l.b) ≡ lt_key l.a l.b
