-- What the finder answers, by the definitions of `subtrees`.
-- Assumes nothing.
use Rattle.std.specs.Prelude.{ℕ, ◌+◌, ◌-◌, ◌≡◌, List, length, get_or}
use Rattle.wire.specs.Tab.{tab}
use Rattle.pack.specs.declared.position.Place.{Place}
use Rattle.pack.specs.Invocation.{Position}
use Rattle.subtrees.specs.Blocks.{end_from, block_size}
use Rattle.subtrees.specs.Subtrees.{within, bits_in, ends_of, insides_of, positions}
use Rattle.finder.specs.declared.Found.{Found}

-- the positions that all places of a list stand for
abbrev pub all_positions : List Place → List Position
all_positions places = positions places (length places)

-- of the block of i from a position on: its end, looked for from there; the bits of the invocations from there to that end; a visit for each of them
pub record FoundFrom (ps : List Position) (own : List ℕ) (i at : ℕ) (r : Found) : Type 0 where
  pub ends : r.end ≡ end_from (length ps) (within ps) i at
  pub insides : r.inside ≡ bits_in own (r.end - at) at
  pub visited : at + r.visits ≡ r.end

-- how many members the block of each invocation has
abbrev pub sizes_of : List Position → List ℕ
sizes_of ps = tab (block_size (length ps) (within ps)) 0 (length ps)

-- of the whole block of invocation i: its end and its inside bits, as the fast path leaves them at place i; a visit for each member. All 0 where there is none
pub record FoundBlock (ps : List Position) (own : List ℕ) (i : ℕ) (r : Found) : Type 0 where
  pub ends : r.end ≡ get_or (ends_of ps) i 0
  pub insides : r.inside ≡ get_or (insides_of ps own) i 0
  pub visited : r.visits ≡ get_or (sizes_of ps) i 0
