-- The walk of the original: groups in order of their index, original order among equal ones, and a cursor over them.
-- Assumes nothing.
use Rattle.std.specs.Prelude.{ℕ, suc, Bool, true, cond, ◌&&◌, List, [], ◌∷◌, ◌++◌, eqb, leb}
use Rattle.pack.specs.Invocation.{Position}
use Rattle.pack.specs.Group.{Group}
use Rattle.pack.specs.Flatten.{numbered, outermost}

module _ {A : Type 0} where
  -- the Rust's `windows(2).all(..)`: no index falls
  unfoldable pub in_order : List (Group A) → Bool
  in_order [] = true
  in_order (g ∷ []) = true
  in_order (g ∷ h ∷ gs) = leb g.index h.index && in_order (h ∷ gs)

  -- the Rust's `sort_unstable_by_key` by index and original place: a group goes in front of those with its index that came after it
  unfoldable pub insert_group : Group A → List (Group A) → List (Group A)
  insert_group g [] = g ∷ []
  insert_group g (h ∷ gs) = let rest = insert_group g gs in cond (leb g.index h.index) (g ∷ h ∷ gs) (h ∷ rest)

  unfoldable pub sorted : List (Group A) → List (Group A)
  sorted [] = []
  sorted (g ∷ gs) = insert_group g (sorted gs)

  -- the Rust's `group_at`: sorted only where the input is not in order
  unfoldable pub group_order : List (Group A) → List (Group A)
  group_order gs = cond (in_order gs) gs (sorted gs)

  -- the inner loop at outer i: groups up to that index are passed, and those of that index taken
  unfoldable pub taken_at : ℕ → List (Group A) → List (Position × A)
  taken_at i [] = []
  taken_at i (g ∷ gs) = let rest = taken_at i gs in cond (leb g.index i) (cond (eqb g.index i) (numbered i 0 g.items ++ rest) rest) []

  -- where it leaves the cursor
  unfoldable pub left_after : ℕ → List (Group A) → List (Group A)
  left_after i [] = []
  left_after i (g ∷ gs) = let rest = left_after i gs in cond (leb g.index i) rest (g ∷ gs)

  -- the outer loop, from outer i on
  unfoldable pub walk_from : ℕ → List A → List (Group A) → List (Position × A)
  walk_from i [] gs = []
  walk_from i (x ∷ xs) gs = (outermost i, x) ∷ (taken_at i gs ++ walk_from (suc i) xs (left_after i gs))
