-- The test holds right before `low`, and not at `high`.
use Rattle.std.proofs.Common.{◌-◌, ◌<◌, ◌≤◌, true, false}
use Rattle.month.proofs.half.halved.Given as goal

abbrev pub invariant-loop-low : goal.invariant-loop-low
invariant-loop-low g l = (l.low ≤ l.high) × (l.high ≤ l.n) × (0 < l.low → goal.F-post g l.test (l.low - 1) true) × (l.high < l.n → goal.F-post g l.test l.high false)

abbrev pub decreases-loop-low : goal.decreases-loop-low
decreases-loop-low g l = l.high - l.low
