-- What each way of `find` makes of what its calls found, and what that is for a whole block.
-- Assumes nothing.
use mathlib.Core.Path.{◌≡◌, sym, ap, ◌∙◌}
use mathlib.Core.Bool.{Bool, true}
use mathlib.Core.List.{List}
use Prim.Native.Nat.{ℕ, suc, ◌+◌, ◌-◌, ◌≤◌, ◌<◌}
use native.Mathlib.Nat.{zero-add, add-zero, sub_self}
use native.Mathlib.Omega.{arith}
use lib.ListN.{length, get_or, get_or-eq_default, take}
use Rattle.std.proofs.lemmas.List.{length-take-le, get_or-take}
use Rattle.wire.specs.Tab.{tab}
use Rattle.wire.proofs.Tab.{tab-length, tab-at, tab-same}
use Rattle.pack.specs.declared.position.Place.{Place}
use Rattle.pack.specs.Invocation.{Position, position_of, blank_place, position_in_places}
use Rattle.subtrees.specs.Blocks.{end_from, block_size}
use Rattle.subtrees.specs.Subtrees.{within, end_of, joined, bits_in, inside_of, positions}
use Rattle.subtrees.specs.Descendant.{descendant}
use Rattle.subtrees.proofs.Arrays.{positions-length, within-at}
use Rattle.subtrees.proofs.Transitive.{within-trans}
use Rattle.subtrees.proofs.Blocks.{end_ge, after, jump}
use Rattle.subtrees.proofs.Inside.{bits_none, bits-child}
use Rattle.finder.specs.declared.Found.{Found}
use Rattle.finder.specs.Found.{all_positions, FoundFrom, FoundBlock}

-- the first places of a list stand for the first positions
pub all-first : (places : List Place) (n : ℕ) → n ≤ length places → all_positions (take n places) ≡ positions places n
unfolding positions position_in_places
all-first places n l =
    rw (length-take-le n places l) (tab-same (position_in_places (take n places)) (position_in_places places) 0 n (λ i p q. ap position_of (get_or-take n places i blank_place (omega arith))))

pub all-length : (places : List Place) → length (all_positions places) ≡ length places
all-length places = positions-length places (length places)

-- the relation by what the places hold
pub holds : (places : List Place) (i x : ℕ) (r : Bool) → i < length places → x < length places
    → r ≡ descendant (position_in_places places i) (position_in_places places x) → within (all_positions places) i x ≡ r
holds places = within-at places (length places)

module _ (ps : List Position) (own : List ℕ) where
  abbrev n : ℕ
  n = length ps

  -- the block ends here
  pub found_none : (i at : ℕ) → at ≡ end_from (length ps) (within ps) i at → FoundFrom ps own i at (record { end = at; inside = 0; visits = 0 })
  found_none i at e = record { ends = e; insides = rw sub_self (bits_none own at); visited = add-zero at }

  -- a child's block ends behind the child
  pub child-after : (at : ℕ) (a : Found) → at < length ps → FoundFrom ps own at (at + 1) a → (a.end ≡ end_of ps at) × (at + 1 ≤ a.end) × (a.end ≤ length ps)
  child-after at a l f =
      let w = after n (within ps) at l in
      (f.ends, omega (arith, f.ends, w.0), omega (arith, f.ends, w.1))

  -- a child, its block, and the rest
  pub found-child : (i at : ℕ) (a b : Found) → at < length ps → within ps i at ≡ true → FoundFrom ps own at (at + 1) a → FoundFrom ps own i a.end b
      → FoundFrom ps own i at (record { end = b.end; inside = joined (get_or own at 0) (joined a.inside b.inside); visits = 1 + a.visits + b.visits })
  found-child i at a b l h f g =
      let w = child-after at a l f in
      let k = a.end - (at + 1) in
      let r = b.end - a.end in
      let past : a.end ≤ b.end = omega (arith, g.ends, end_ge n (within ps) i a.end) in
      let from : a.end ≡ at + 1 + k = omega (arith, w.1) in
      let all : b.end - at ≡ suc (k + r) = omega (arith, w.1, past) in
      record {
        ends = g.ends ∙ ap (end_from n (within ps) i) w.0 ∙ jump n (within ps) (within-trans ps) i at l h;
        insides = rw (f.insides, g.insides, all) (ap (λ (e : ℕ). joined (get_or own at 0) (joined (bits_in own k (at + 1)) (bits_in own r e))) from ∙ bits-child own k r at);
        visited = omega (arith, f.visited, g.visited);
      }

  -- from behind i on it is the whole block
  pub found-block : (i : ℕ) (r : Found) → i < length ps → FoundFrom ps own i (i + 1) r → FoundBlock ps own i r
  unfolding inside_of bits_in
  found-block i r l f =
      record {
        ends = f.ends ∙ sym (at (end_of ps));
        insides = f.insides ∙ rw f.ends (sym (at (inside_of ps own)));
        visited = size ∙ sym (at (block_size n (within ps)));
      }
    where
      at : (f : ℕ → ℕ) → get_or (tab f 0 (length ps)) i 0 ≡ f i
      at f = tab-at f 0 0 n i l ∙ rw zero-add

      size : r.visits ≡ block_size (length ps) (within ps) i
      size = omega (arith, f.ends, f.visited)

  -- where there is no invocation
  pub found_nowhere : (i : ℕ) → length ps ≤ i → FoundBlock ps own i (record { end = 0; inside = 0; visits = 0 })
  found_nowhere i l = record { ends = at (end_of ps); insides = at (inside_of ps own); visited = at (block_size n (within ps)) }
    where
      at : (f : ℕ → ℕ) → 0 ≡ get_or (tab f 0 (length ps)) i 0
      at f = sym (get_or-eq_default (tab f 0 n) 0 (omega (arith, tab-length f 0 n)))

-- and so in a list of places: a child's block ends behind the child, and no later than the last place
module _ (places : List Place) (own : List ℕ) where
  pub behind : (at : ℕ) (a : Found) → at < length places → FoundFrom (all_positions places) own at (at + 1) a
      → (a.end ≡ end_of (all_positions places) at) × (at + 1 ≤ a.end) × (a.end ≤ length places)
  behind at a l f =
      let len = all-length places in
      let w = child-after (all_positions places) own at a (omega arith) f in
      (w.0, w.1, omega arith)
