-- What the loops of `flatten` remember on their way, for the contracts of functions that are not public: the groups that are kept, each with the next of its outer.
-- Assumes nothing.
use Rattle.std.specs.Prelude.{ℕ, suc, ◌+◌, ◌<◌, ◌≤◌, ◌≡◌, Bool, cond, ◌&&◌, List, [], ◌∷◌, eqb, ltb, length, get_or, drop}
use Rattle.wire.specs.Le.{le}
use Rattle.pack.specs.declared.chain.Chains.{Chains}
use Rattle.pack.specs.Sections.{section_of}
use Rattle.pack.specs.Items.{outers_at, count_at, group_end, groups_at}
use Rattle.pack.specs.Layout.{inside_at}

-- the groups that are remembered: those that name one of the o outer instructions and are not empty
unfoldable pub keeps : List ℕ → ℕ → ℕ → Bool
keeps s o g = ltb (le 4 s g) o && ltb 0 (count_at s g)

unfoldable pub kept_from : List ℕ → ℕ → List ℕ → List ℕ
kept_from s o [] = []
kept_from s o (g ∷ gs) = let rest = kept_from s o gs in cond (keeps s o g) (g ∷ rest) rest

abbrev pub kept_at : List ℕ → ℕ → List ℕ
kept_at s o = kept_from s o (groups_at s)

-- one more than the place of the first of the groups gs that names outer i, their places counted from k on; 0 where none does
unfoldable pub first_group_from : List ℕ → ℕ → ℕ → List ℕ → ℕ
first_group_from s i k [] = 0
first_group_from s i k (g ∷ gs) = let rest = first_group_from s i (suc k) gs in cond (eqb (le 4 s g) i) (suc k) rest

-- the place of the next group that names the same outer as group k, in the same form
abbrev pub next_of : List ℕ → List ℕ → ℕ → ℕ
next_of s gs k = first_group_from s (le 4 s (get_or gs k 0)) (k + 1) (drop (k + 1) gs)

-- two arrays that link the groups gs
pub record Linked (s gs next first : List ℕ) : Type 0 where
  -- each group has the next of its outer
  pub links : (k : ℕ) → k < length gs → get_or next k 0 ≡ next_of s gs k
  -- and each outer its first group
  pub heads : (i : ℕ) → i < 1024 → get_or first i 0 ≡ first_group_from s i 0 gs

-- chains that lead from group to group of outer i
pub record Chained (s : List ℕ) (chains : Chains) (i : ℕ) : Type 0 where
  -- outer i has a first group, or none
  pub listed : i < 1024
  -- the groups that are remembered
  pub gs : List ℕ
  pub few : length gs ≤ 1024
  -- where each stands, and the next of its outer
  pub places : (k : ℕ) → k < length gs → get_or chains.place k 0 ≡ get_or gs k 0
  pub links : (k : ℕ) → k < length gs → get_or chains.next k 0 ≡ next_of s gs k
  pub head : get_or chains.first i 0 ≡ first_group_from s i 0 gs
  -- each lies in the section
  pub good : (k : ℕ) → k < length gs → group_end s (get_or gs k 0) ≤ length s
  -- none of outer i is left out
  pub complete : (base : ℕ) → inside_at s base i gs ≡ inside_at s base i (groups_at s)

-- chains that do so for every outer instruction of a pack
abbrev pub AllChained : List ℕ → Chains → Type 0
AllChained p chains = (i : ℕ) → i < length (outers_at (section_of p 2)) → Chained (section_of p 3) chains i
