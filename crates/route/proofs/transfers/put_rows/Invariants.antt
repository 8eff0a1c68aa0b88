-- The rows so far are those of the invocations so far, and each candidate adds its own behind them.
use Rattle.route.specs.Known.{Fills}
use Rattle.route.specs.Widths.{transfer_width}
use Rattle.route.specs.Transfers.{transfer_rows, reasons_of}
use Rattle.pack.specs.Sections.{section_of}
use lib.ListN.{length}
use lib.Seq.{sets}
use Prim.Native.Nat.{◌≤◌}
use mathlib.Core.Path.{◌≡◌}
use Rattle.route.proofs.transfers.put_rows.Given as goal

abbrev pub invariant-loop-i : goal.invariant-loop-i
invariant-loop-i l = (l.k ≤ l.i) × (length l.out ≡ length l.initial.out) × Fills l.mints l.pack l.at (transfer_rows (section_of l.pack 0)) transfer_width l.i l.k l.initial.out l.out × (l.reasons ≡ sets l.initial.reasons 0 (reasons_of l.pack l.at l.i))
