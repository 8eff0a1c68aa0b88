-- The parent of an invocation, over the blocks: the nearest earlier one whose block holds it.
-- Assumes nothing.
use Rattle.std.specs.Prelude.{ℕ, zero, suc, Bool, cond, List, [], ◌∷◌}
use Rattle.subtrees.specs.Blocks.{in_block}

-- 1 plus the greatest number below m that is f; 0 where none is
unfoldable pub last_below : (ℕ → Bool) → ℕ → ℕ
last_below f zero = 0
last_below f (suc m) = let rest = last_below f m in cond (f m) (suc m) rest

-- the numbers below m that are f, the greatest first
unfoldable pub list_below : (ℕ → Bool) → ℕ → List ℕ
list_below f zero = []
list_below f (suc m) = let rest = list_below f m in cond (f m) (m ∷ rest) rest

module _ (n : ℕ) (holds : ℕ → ℕ → Bool) where
  -- the parent's number, one higher: the nearest earlier invocation whose block holds x; 0 where none does
  unfoldable pub parent_at : ℕ → ℕ
  parent_at x = last_below (λ y. in_block n holds y x) x

  -- all invocations whose blocks hold x, nearest first
  unfoldable pub holders_at : ℕ → List ℕ
  holders_at x = list_below (λ y. in_block n holds y x) x

  -- the invocations on the way from x to its parent, and on from there; at most m
  unfoldable pub line_at : ℕ → ℕ → List ℕ
  line_at zero x = []
  line_at (suc m) x = elim (parent_at x) [ zero ↦ [] | suc y ↦ y ∷ line_at m y ]
