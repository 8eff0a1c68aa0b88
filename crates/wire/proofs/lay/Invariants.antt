-- What is still to be stored, stored from here, makes the run.
-- Assumes nothing.
use mathlib.Core.Path.{◌≡◌}
use Prim.Native.Nat.{◌+◌, ◌*◌}
use lib.ListN.{drop}
use lib.Seq.{sets}
use Rattle.wire.proofs.lay.Given as goal

abbrev pub invariant-loop-i : goal.invariant-loop-i
invariant-loop-i l = sets l.d (l.i * 8) (drop (l.i * 8) l.s) ≡ l.s

abbrev pub invariant-loop-j : goal.invariant-loop-j
invariant-loop-j l = sets l.d (l.from + l.j) (drop l.j l.rest) ≡ l.s
