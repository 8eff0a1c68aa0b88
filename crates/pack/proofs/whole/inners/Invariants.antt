-- What the rest of the group comes to from here is what all of it comes to.
-- Assumes nothing.
use Rattle.pack.proofs.Walk.{inners_walk}
use Prim.Native.Nat.{◌-◌, ◌≤◌}
use mathlib.Core.Path.{◌≡◌}
use lib.ListN.{length}
use Rattle.pack.proofs.whole.inners.Given as goal

abbrev pub invariant-loop : goal.invariant-loop
invariant-loop l = (l.to ≤ length l.s) × (inners_walk l.s (l.n - l.counter) l.to ≡ inners_walk l.s l.n l.at)
