-- Each turn writes one row behind the rows before it; 64 bytes and a mark are a row.
use Rattle.mints.specs.Bytes.{mint_width}
use Rattle.mints.specs.Order.{rows_bytes}
use lib.Seq.{sets}
use lib.ListN.{length, take}
use Prim.Native.Nat.{◌*◌}
use mathlib.Core.Path.{◌≡◌}
use Rattle.mints.proofs.order.write_rows.Given as goal

abbrev pub invariant-loop-j : goal.invariant-loop-j
invariant-loop-j l = (length l.out ≡ length l.initial.out) × (length (rows_bytes l.table (take l.j l.order)) ≡ l.j * mint_width) × (l.out ≡ sets l.initial.out 0 (rows_bytes l.table (take l.j l.order)))
