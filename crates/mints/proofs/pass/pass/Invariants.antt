-- Each turn makes one step more, and a step fills in at most one account, so the count does not overflow.
use Rattle.mints.specs.Pass.{pass_to}
use lib.ListN.{length}
use Prim.Native.Nat.{◌≤◌}
use mathlib.Core.Path.{◌≡◌}
use Rattle.mints.proofs.pass.pass.Given as goal

abbrev pub invariant-loop-transfer : goal.invariant-loop-transfer
invariant-loop-transfer l = (length l.table ≡ length l.initial.table) × (l.added ≤ l.transfer-index) × (pass_to l.transfers l.initial.table l.transfer-index ≡ record { table = l.table; room = l.added })
