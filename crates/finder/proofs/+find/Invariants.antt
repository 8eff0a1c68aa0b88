-- The invocations that remain fall at each call.
-- Assumes nothing.
use Rattle.std.specs.Prelude.{◌-◌, length}
use Rattle.finder.proofs.+find.Given as goal

abbrev pub decreases-find : goal.decreases-find
decreases-find l = length l.run.now.places.now - l.at
