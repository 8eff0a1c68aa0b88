-- The chain has come to the first group of outer i from place t on; writing the groups that are left leaves what writing all of them leaves.
-- Assumes nothing.
use Rattle.pack.specs.Invocation.{Position}
use Rattle.pack.specs.Items.{groups_at}
use Rattle.pack.specs.Layout.{inside_at, at_of, place_held}
use Rattle.pack.specs.Loops.{first_group_from, Chained}
use Rattle.pack.proofs.Chains.{ahead}
use Prim.Native.Nat.{ℕ, ◌+◌}
use mathlib.Core.Path.{◌≡◌}
use mathlib.Core.List.{List, map}
use lib.ListN.{length, drop}
use lib.Seq.{sets}
use Rattle.pack.proofs.flat.own_groups.Given as goal

-- the groups that are left written into an array from here leave what all of them leave
abbrev pub Rest : {A : Type 0} → List ℕ → ℕ → ℕ → ℕ → ℕ → List ℕ → (Position × ℕ → A) → List A → List A → Type 0
Rest s base i k n gs f l₀ l = sets l k (map f (inside_at s base i gs)) ≡ sets l₀ n (map f (inside_at s base i (groups_at s)))

abbrev pub invariant-loop-c : goal.invariant-loop-c
invariant-loop-c l = (base : l.way.base ≡ l.initial.way.base) × (outer : l.way.outer ≡ l.initial.way.outer) × (ch : Chained l.s l.chains l.way.outer) × (t : ℕ) × (l.c ≡ first_group_from l.s l.way.outer t (drop t ch.gs)) × (l.way.index + length (inside_at l.s l.way.base l.way.outer (drop t ch.gs)) ≡ l.initial.way.index + length (inside_at l.s l.way.base l.way.outer (groups_at l.s))) × Rest l.s l.way.base l.way.outer l.way.index l.initial.way.index (drop t ch.gs) at_of l.initial.at l.at × Rest l.s l.way.base l.way.outer l.way.index l.initial.way.index (drop t ch.gs) place_held l.initial.places l.places

abbrev pub decreases-loop-c : goal.decreases-loop-c
decreases-loop-c l = ahead l.c
