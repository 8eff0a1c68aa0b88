-- The lines so far are those of the answers so far, which are fewer than 2 ^ 32.
-- Assumes nothing.
use Rattle.std.proofs.Common.{ℕ, List, ◌-◌, ◌≤◌}
use Rattle.std.specs.Io.KnownBytes.{Appends}
use Rattle.records.specs.Told.{Told}
use Rattle.records.proofs.run.Given as goal

abbrev pub invariant-loop-totals : goal.invariant-loop-totals
invariant-loop-totals g l =
    (l.totals.1.0 ≤ l.totals.0)
    × ((lines : List ℕ) × Told l.totals.0 l.totals.1.0 lines × Appends (g.W.Write.contents l.initial.output) (g.W.Write.contents l.output) lines)

abbrev pub decreases-loop-totals : goal.decreases-loop-totals
decreases-loop-totals g l = 4294967295 - l.totals.0
