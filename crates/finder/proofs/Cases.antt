-- A worked case, the one of docs/TREE.md: what is to be found of the calls that `subtrees` has ends and parents of.
-- Assumes nothing.
use mathlib.Core.Path.{◌≡◌, refl}
use mathlib.Core.List.{[], ◌∷◌}
use Rattle.wire.specs.Tab.{tab}
use Rattle.subtrees.specs.Descendant.{higher, inners, descendant}
use Rattle.subtrees.specs.Blocks.{first_not, any_in}
use Rattle.subtrees.specs.Parents.{last_below, parent_at}
use Rattle.subtrees.specs.Subtrees.{position_in, within, inside_of, insides_of}
use Rattle.subtrees.proofs.Cases.{calls}
use Rattle.finder.specs.Children.{rising_below, is_child, children_of}

-- 0 calls 1 and 5, 1 calls 2 and 4, 2 calls 3; 6 calls 7 and 8. A child of a child is no child
pub calls-children : tab (children_of calls) 0 9 ≡ (1 ∷ 5 ∷ []) ∷ (2 ∷ 4 ∷ []) ∷ (3 ∷ []) ∷ [] ∷ [] ∷ [] ∷ (7 ∷ 8 ∷ []) ∷ [] ∷ [] ∷ []
unfolding tab position_in within descendant inners higher first_not last_below parent_at rising_below is_child children_of
calls-children = refl

-- 3 is a transfer and 5 a swap: both lie inside 0, the transfer inside 1 and 2 too, and neither inside itself
pub calls-inside : insides_of calls (0 ∷ 0 ∷ 0 ∷ 1 ∷ 0 ∷ 2 ∷ []) ≡ 3 ∷ 1 ∷ 1 ∷ 0 ∷ 0 ∷ 0 ∷ 0 ∷ 0 ∷ 0 ∷ []
unfolding tab position_in within descendant inners higher first_not any_in inside_of
calls-inside = refl
