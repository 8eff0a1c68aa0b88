-- The bits inside each block come from `subtrees`, given what each invocation has itself; so row by row the table is that of the definition.
use Rattle.route.specs.Arrays.{row_at}
use Rattle.route.specs.Lay.{placed}
use Rattle.route.specs.Widths.{invocation_width}
use Rattle.wire.specs.Tab.{tab}
use Rattle.subtrees.specs.Subtrees.{positions}
use lib.ListN.{length}
use mathlib.Core.Path.{◌≡◌}
use Rattle.route.proofs.invocations.put_rows.Given as goal

abbrev pub invariant-loop-i : goal.invariant-loop-i
invariant-loop-i l = (length l.out ≡ length l.initial.out) × (l.out ≡ placed invocation_width 0 (tab (row_at (positions l.places l.n) l.programs l.reasons l.leg) 0 l.i) l.initial.out)
