-- The array so far holds what each invocation so far has itself.
use Rattle.route.specs.Arrays.{own_at}
use Rattle.wire.specs.Tab.{tab}
use lib.Seq.{sets}
use mathlib.Core.Path.{◌≡◌}
use Rattle.route.proofs.invocations.put_own.Given as goal

abbrev pub invariant-loop-i : goal.invariant-loop-i
invariant-loop-i l = l.own ≡ sets l.initial.own 0 (tab (own_at l.reasons l.leg) 0 l.i)
