-- The direct children of an invocation, by the parents of all.
-- Assumes nothing.
use Rattle.std.specs.Prelude.{ℕ, zero, suc, ◌+◌, Bool, cond, List, [], ◌∷◌, ◌++◌, eqb, length}
use Rattle.pack.specs.Invocation.{Position}
use Rattle.subtrees.specs.Subtrees.{parent_of}

-- the numbers below m that are f, ascending
unfoldable pub rising_below : (ℕ → Bool) → ℕ → List ℕ
rising_below f zero = []
rising_below f (suc m) = let rest = rising_below f m in cond (f m) (rest ++ (m ∷ [])) rest

-- invocation i is the parent of invocation x
unfoldable pub is_child : List Position → ℕ → ℕ → Bool
is_child ps i x = eqb (parent_of ps x) (i + 1)

-- the direct children of invocation i: those whose parent it is, ascending
unfoldable pub children_of : List Position → ℕ → List ℕ
children_of ps i = rising_below (is_child ps i) (length ps)
