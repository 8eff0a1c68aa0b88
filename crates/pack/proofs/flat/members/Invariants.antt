-- Writing the instructions that are left from here leaves what writing all of them leaves, in both arrays.
-- Assumes nothing.
use Rattle.pack.specs.Invocation.{Position}
use Rattle.pack.specs.Items.{inners_end, inners_from, group_end}
use Rattle.pack.specs.Flatten.{numbered}
use Rattle.pack.specs.Layout.{at_of, place_held}
use Prim.Native.Nat.{ℕ, ◌+◌, ◌-◌}
use mathlib.Core.Path.{◌≡◌}
use mathlib.Core.List.{List, map}
use lib.Seq.{sets}
use Rattle.pack.proofs.flat.members.Given as goal

-- the rest of the group written into an array from here leaves what the whole of it leaves
abbrev pub Rest : {A : Type 0} → List ℕ → ℕ → ℕ → ℕ → ℕ → ℕ → ℕ → ℕ → (Position × ℕ → A) → List A → List A → Type 0
Rest s base i n count g j to f l₀ l =
    sets l (n + j) (map f (numbered i j (inners_from (λ (x : ℕ). base + x) s (count - j) to))) ≡ sets l₀ n (map f (numbered i 0 (inners_from (λ (x : ℕ). base + x) s count (g + 6))))

abbrev pub invariant-loop-j : goal.invariant-loop-j
invariant-loop-j l = record {
  ends : inners_end l.s (l.count - l.j) l.to ≡ group_end l.s l.g;
  ats : Rest l.s l.way.base l.way.outer l.way.index l.count l.g l.j l.to at_of l.initial.at l.at;
  runs : Rest l.s l.way.base l.way.outer l.way.index l.count l.g l.j l.to place_held l.initial.places l.places;
}
