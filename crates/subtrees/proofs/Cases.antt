-- Worked cases of ends, parents and the way from parent to parent. In each the heights tell who called whom.
-- Assumes nothing.
use mathlib.Core.Path.{◌≡◌, refl}
use mathlib.Core.List.{List, [], ◌∷◌}
use mathlib.Core.Option.{Option, none, some}
use Prim.Native.Nat.{ℕ}
use Rattle.wire.specs.Tab.{tab}
use Rattle.pack.specs.Invocation.{Position}
use Rattle.subtrees.specs.Descendant.{higher, inners, descendant}
use Rattle.subtrees.specs.Blocks.{first_not}
use Rattle.subtrees.specs.Parents.{last_below, list_below, parent_at, holders_at, line_at}
use Rattle.subtrees.specs.Subtrees.{position_in, within, ends_of, parents_of, holders_of, line_of}

-- outer instruction o; an inner one of it, by its index and height
abbrev pub outer : ℕ → Position
outer o = record { outer = o; inner = none; height = some 1 }

abbrev pub inner : ℕ → ℕ → Option ℕ → Position
inner o i h = record { outer = o; inner = some i; height = h }

-- two outers. The first calls 1, which calls 2 and then 4; 2 calls 3; then it calls 5. The second calls 7, of a height that is not known, and 8
abbrev pub calls : List Position
calls =
    outer 0
    ∷ inner 0 0 (some 2)
    ∷ inner 0 1 (some 3)
    ∷ inner 0 2 (some 4)
    ∷ inner 0 3 (some 3)
    ∷ inner 0 4 (some 2)
    ∷ outer 1
    ∷ inner 1 0 none
    ∷ inner 1 1 (some 2)
    ∷ []

pub calls-end : ends_of calls ≡ 6 ∷ 5 ∷ 4 ∷ 4 ∷ 5 ∷ 6 ∷ 9 ∷ 8 ∷ 9 ∷ []
unfolding tab position_in within descendant inners higher first_not
calls-end = refl

-- an outer has none; every other has the nearest that called it, and not the first
pub calls-parents : parents_of calls ≡ 0 ∷ 1 ∷ 2 ∷ 3 ∷ 2 ∷ 1 ∷ 0 ∷ 7 ∷ 7 ∷ []
unfolding tab position_in within descendant inners higher first_not last_below parent_at
calls-parents = refl

-- from 3 the way goes over 2 and 1 to 0, and these are all whose blocks hold it; from 8 it goes to 6 alone
pub calls-line : (line_of calls 3 ≡ 2 ∷ 1 ∷ 0 ∷ []) × (line_of calls 8 ≡ 6 ∷ [])
unfolding position_in within descendant inners higher first_not last_below parent_at line_at
calls-line = (refl, refl)

pub calls-holders : (holders_of calls 3 ≡ 2 ∷ 1 ∷ 0 ∷ []) × (holders_of calls 8 ≡ 6 ∷ [])
unfolding position_in within descendant inners higher first_not list_below holders_at
calls-holders = (refl, refl)
