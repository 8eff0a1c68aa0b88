-- What the walk answers from the slice that it has come to is what it answers from the first.
-- Assumes nothing.
use Rattle.std.proofs.Common.{◌≡◌, ◌-◌, ◌≤◌}
use Rattle.swaps.specs.Dlmm.{slices}
use Rattle.swaps.proofs.dlmm.slices.Given as goal

abbrev pub invariant-loop : goal.invariant-loop
invariant-loop l =
    (l.counter ≤ l.count) × (l.used ≤ l.remaining) × (slices l.data l.remaining (l.count - l.counter) l.at l.used ≡ slices l.data l.remaining l.count 28 0)
