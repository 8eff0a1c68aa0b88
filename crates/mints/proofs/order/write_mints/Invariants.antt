-- Each turn writes 32 bytes behind the mints before it, and behind these all is zero still.
use Rattle.mints.specs.Order.{mints_to}
use lib.Seq.{sets}
use lib.ListN.{length}
use Prim.Native.Nat.{◌*◌}
use mathlib.Core.Path.{◌≡◌}
use Rattle.mints.proofs.order.write_mints.Given as goal

abbrev pub invariant-loop-i : goal.invariant-loop-i
invariant-loop-i l = (length l.out ≡ length l.initial.out) × (length (mints_to l.table l.row l.i) ≡ l.i * 32) × (l.out ≡ sets l.initial.out 0 (mints_to l.table l.row l.i))
