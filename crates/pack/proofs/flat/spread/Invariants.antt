-- Writing the outer instructions that are left, each with its groups, leaves what writing all of them leaves.
-- Assumes nothing.
use Rattle.pack.specs.Invocation.{Position}
use Rattle.pack.specs.Items.{outers_at, groups_at}
use Rattle.pack.specs.Layout.{placed_at, spread_of, at_of, place_held}
use Rattle.pack.proofs.Places.{Reached}
use Rattle.pack.proofs.Spread.{rest_from}
use Prim.Native.Nat.{ℕ, ◌+◌, ◌-◌, ◌≤◌}
use mathlib.Core.Path.{◌≡◌}
use mathlib.Core.List.{List, map}
use lib.ListN.{length}
use lib.Seq.{sets}
use Rattle.pack.proofs.flat.spread.Given as goal

-- the outer instructions that are left, and their groups
abbrev pub left : List ℕ → ℕ → ℕ → List ℕ → ℕ → ℕ → List (Position × ℕ)
left s base from outs i to = rest_from (λ (x : ℕ). from + x) outs (map (placed_at base s) (groups_at s)) i to

-- written into an array from here they leave what all of them leave
abbrev pub Rest : {A : Type 0} → List ℕ → ℕ → ℕ → List ℕ → ℕ → ℕ → ℕ → (Position × ℕ → A) → List A → List A → Type 0
Rest s base from outs i to n f l₀ l = sets l n (map f (left s base from outs i to)) ≡ sets l₀ 0 (map f (spread_of from base s (outers_at outs)))

abbrev pub invariant-loop-to : goal.invariant-loop-to
invariant-loop-to l = (base : l.way.base ≡ l.base) × Reached l.outs l.way.outer l.to × (l.way.outer ≤ l.way.index) × (l.way.index + length (left l.s l.base l.from l.outs l.way.outer l.to) ≡ length (spread_of l.from l.base l.s (outers_at l.outs))) × Rest l.s l.base l.from l.outs l.way.outer l.to l.way.index at_of l.initial.at l.at × Rest l.s l.base l.from l.outs l.way.outer l.to l.way.index place_held l.initial.places l.places

abbrev pub decreases-loop-to : goal.decreases-loop-to
decreases-loop-to l = length l.outs - l.to
