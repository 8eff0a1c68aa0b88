-- Ends, inside bits, parents and tests of a list of positions, and what the arrays of 1,024 hold.
-- Assumes nothing.
use Rattle.std.specs.Prelude.{ℕ, ◌+◌, ◌-◌, ◌/◌, ◌%◌, ◌≤◌, ◌<◌, ◌≡◌, Bool, cond, ◌||◌, List, ◌++◌, ltb, eqb, length, get_or}
use Rattle.std.proofs.Math.Option.{none}
use Rattle.wire.specs.Zeros.{zeros}
use Rattle.wire.specs.Tab.{tab}
use Rattle.pack.specs.declared.position.Place.{Place}
use Rattle.pack.specs.Invocation.{Position, position_in_places}
use Rattle.subtrees.specs.Descendant.{descendant}
use Rattle.subtrees.specs.Blocks.{any_in, end_at, some_in, tests_at, all_tests}
use Rattle.subtrees.specs.Parents.{parent_at, holders_at, line_at}

-- position i of a list; past its end nothing is asked of it
unfoldable pub position_in : List Position → ℕ → Position
position_in ps i = get_or ps i (record { outer = 0; inner = none; height = none })

-- invocation x is a descendant of invocation i
unfoldable pub within : List Position → ℕ → ℕ → Bool
within ps i x = descendant (position_in ps i) (position_in ps x)

-- the end of invocation i
abbrev pub end_of : List Position → ℕ → ℕ
end_of ps i = end_at (length ps) (within ps) i

-- the two bits of a byte: 1 a transfer, 2 a swap; higher bits mean nothing
abbrev pub odd : ℕ → Bool
odd b = eqb (b % 2) 1

abbrev pub has_transfer : ℕ → Bool
has_transfer b = odd b

abbrev pub has_swap : ℕ → Bool
has_swap b = odd (b / 2)

-- the byte of two bits
abbrev pub bits : Bool → Bool → ℕ
bits t s = cond t 1 0 + cond s 2 0

-- the bits of two bytes together
unfoldable pub joined : ℕ → ℕ → ℕ
joined a b = bits (has_transfer a || has_transfer b) (has_swap a || has_swap b)

-- the bits of the m invocations from `at` on, by each invocation's own bits
unfoldable pub bits_in : List ℕ → ℕ → ℕ → ℕ
bits_in own m at = bits (any_in (λ y. has_transfer (get_or own y 0)) m at) (any_in (λ y. has_swap (get_or own y 0)) m at)

-- the inside bits of invocation i: some member of its block has a transfer, some has a swap, by each invocation's own bits
unfoldable pub inside_of : List Position → List ℕ → ℕ → ℕ
inside_of ps own i =
    bits (some_in (length ps) (within ps) i (λ y. has_transfer (get_or own y 0))) (some_in (length ps) (within ps) i (λ y. has_swap (get_or own y 0)))

-- the parent of invocation x: 0 for none, else 1 plus its number
abbrev pub parent_of : List Position → ℕ → ℕ
parent_of ps x = parent_at (length ps) (within ps) x

-- the invocations whose blocks hold x, nearest first; and those met by going from x to its parent, and on from there
abbrev pub holders_of : List Position → ℕ → List ℕ
holders_of ps x = holders_at (length ps) (within ps) x

abbrev pub line_of : List Position → ℕ → List ℕ
line_of ps x = line_at (length ps) (within ps) x x

-- the ends of all invocations, their inside bits, their parents, and the calls of `descendant` for all of them
abbrev pub ends_of : List Position → List ℕ
ends_of ps = tab (end_of ps) 0 (length ps)

abbrev pub insides_of : List Position → List ℕ → List ℕ
insides_of ps own = tab (inside_of ps own) 0 (length ps)

abbrev pub parents_of : List Position → List ℕ
parents_of ps = tab (parent_of ps) 0 (length ps)

abbrev pub tests_of : List Position → ℕ
tests_of ps = all_tests (length ps) (within ps)

-- how many invocations are looked at: more than 1,024 are taken as 1,024
unfoldable pub taken : ℕ → ℕ
taken n = cond (ltb 1024 n) 1024 n

-- the positions that the first n places of an array stand for
unfoldable pub positions : List Place → ℕ → List Position
positions places n = tab (position_in_places places) 0 n

-- an array of 1,024: a list from its start on, and zeros after it
unfoldable pub filled : List ℕ → List ℕ
filled l = l ++ zeros (1024 - length l)

-- two arrays hold the ends and the inside bits of the invocations from `at` on
abbrev pub Known : List Position → List ℕ → List ℕ → List ℕ → ℕ → Type 0
Known ps own ends inside at = (m : ℕ) → at ≤ m → m < length ps → (get_or ends m 0 ≡ end_of ps m) × (get_or inside m 0 ≡ inside_of ps own m)

-- a parent p where it is invocation i or a later one, else 0
unfoldable pub since : ℕ → ℕ → ℕ
since i p = cond (ltb i p) p 0

-- an array holds the parents among the invocations from `at` on
abbrev pub Parented : List Position → List ℕ → ℕ → Type 0
Parented ps parents at = (x : ℕ) → get_or parents x 0 ≡ since at (parent_of ps x)

-- what a step answers for invocation i, and what it leaves in the array of parents
pub record Stepped (ps : List Position) (own : List ℕ) (i end inside tests : ℕ) (parents : List ℕ) : Type 0 where
  pub ends : end ≡ end_of ps i
  pub insides : inside ≡ inside_of ps own i
  pub counted : tests ≡ tests_at (length ps) (within ps) i
  pub small : tests ≤ 1024
  pub sized : length parents ≡ 1024
  pub parented : Parented ps parents i

-- what `subtrees` answers, and what it leaves in the three arrays
pub record Subtrees (ps : List Position) (own : List ℕ) (r : ℕ) (ends inside parents : List ℕ) : Type 0 where
  pub tests : r ≡ tests_of ps
  pub ends_left : ends ≡ filled (ends_of ps)
  pub inside_left : inside ≡ filled (insides_of ps own)
  pub parents_left : parents ≡ filled (parents_of ps)
