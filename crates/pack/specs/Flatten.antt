-- Instructions in the order in which they were run: the Rust's `transaction_invocations`, groups taken by a scan for each outer index.
-- Assumes nothing.
use Rattle.std.specs.Prelude.{ℕ, suc, ◌+◌, cond, List, [], ◌∷◌, ◌++◌, map, eqb, ltb, length}
use Rattle.std.proofs.Math.Option.{Option, none, some}
use Rattle.pack.specs.Invocation.{Instruction, Position, Invocation}
use Rattle.pack.specs.Group.{Group}
use Rattle.pack.specs.View.{View}

-- where outer instruction i is run: at height 1
abbrev pub outermost : ℕ → Position
outermost i = record { outer = i; inner = none; height = some 1 }

module _ {A : Type 0} where
  -- the instructions of a group of outer i, numbered from j on
  unfoldable pub numbered : ℕ → ℕ → List (Option ℕ × A) → List (Position × A)
  numbered i j [] = []
  numbered i j (x ∷ xs) = (record { outer = i; inner = some j; height = x.0 }, x.1) ∷ numbered i (suc j) xs

  -- the groups of outer i in original order, the inner index restarting at 0 in each
  unfoldable pub inside : ℕ → List (Group A) → List (Position × A)
  inside i [] = []
  inside i (g ∷ gs) = let rest = inside i gs in cond (eqb g.index i) (numbered i 0 g.items ++ rest) rest

  -- each outer instruction, from outer i on, then its groups; a group that names no outer instruction is dropped
  unfoldable pub flatten_from : ℕ → List A → List (Group A) → List (Position × A)
  flatten_from i [] gs = []
  flatten_from i (x ∷ xs) gs = (outermost i, x) ∷ (inside i gs ++ flatten_from (suc i) xs gs)

  -- how many instructions the groups that name one of the first o outer instructions hold
  unfoldable pub kept_in : ℕ → List (Group A) → ℕ
  kept_in o [] = 0
  kept_in o (g ∷ gs) = let rest = kept_in o gs in cond (ltb g.index o) (length g.items + rest) rest

abbrev pub invocation : Position × Instruction → Invocation
invocation x = record { position = x.0; instruction = x.1 }

-- the invocations of a pack, in execution order
unfoldable pub flatten : View → List Invocation
flatten v = map invocation (flatten_from 0 v.outer v.groups)
