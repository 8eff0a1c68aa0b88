-- The end of what is left is the end of all.
-- Assumes nothing.
use Rattle.pack.specs.Items.{inners_end}
use Prim.Native.Nat.{◌-◌}
use mathlib.Core.Path.{◌≡◌}
use Rattle.pack.proofs.chain.inners_end.Given as goal

abbrev pub invariant-loop : goal.invariant-loop
invariant-loop l = inners_end l.s (l.n - l.counter) l.to ≡ inners_end l.s l.n l.at
