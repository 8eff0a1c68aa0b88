-- Writing the remembered places that are left from here leaves what writing all of them leaves.
-- Assumes nothing.
use Rattle.pack.specs.Items.{groups_from, groups_fill}
use Rattle.pack.specs.Loops.{kept_from, kept_at}
use Prim.Native.Nat.{ℕ, ◌+◌, ◌-◌, ◌≤◌, ◌<◌}
use mathlib.Core.Path.{◌≡◌}
use mathlib.Core.Bool.{true}
use lib.ListN.{length}
use lib.Seq.{sets}
use Rattle.pack.proofs.chain.kept_places.Given as goal

abbrev pub invariant-loop-at : goal.invariant-loop-at
invariant-loop-at l = (l.at ≤ length l.s) × ((f : ℕ) × (length l.s - l.at < f) × (groups_fill l.s f l.at ≡ true) × (l.n + length (kept_from l.s l.o (groups_from l.s f l.at)) ≡ length (kept_at l.s l.o)) × (sets l.place l.n (kept_from l.s l.o (groups_from l.s f l.at)) ≡ sets l.initial.place 0 (kept_at l.s l.o)))

abbrev pub decreases-loop-at : goal.decreases-loop-at
decreases-loop-at l = length l.s - l.at
