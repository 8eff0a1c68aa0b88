-- What is left of the passes from here on is the answer; a pass that adds nothing ends it, and after 512 none is left.
use Rattle.mints.specs.Pass.{passes_from, passes}
use lib.ListN.{length}
use Prim.Native.Nat.{◌+◌, ◌*◌, ◌-◌, ◌≤◌}
use mathlib.Core.Path.{◌≡◌}
use Rattle.mints.proofs.pass.run.Given as goal

abbrev pub invariant-loop-p : goal.invariant-loop-p
invariant-loop-p l = (length l.table ≡ length l.initial.table) × (l.room ≤ l.recorded + l.p * 1024) × (passes_from l.transfers (512 - l.p) l.table l.room l.p ≡ passes l.transfers l.initial.table l.recorded)
