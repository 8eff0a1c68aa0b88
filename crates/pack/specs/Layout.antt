-- The invocations of a pack as two arrays: where each instruction stands, and its position.
-- Assumes nothing.
use Rattle.std.specs.Prelude.{ℕ, zero, suc, ◌+◌, ◌≡◌, cond, List, [], map, eqb, length, replicate}
use Rattle.std.proofs.Math.Option.{Option, none, some}
use Rattle.std.proofs.lemmas.List.Edits.{sets}
use Rattle.wire.specs.Zeros.{zeros}
use Rattle.pack.specs.Invocation.{Position, blank_place}
use Rattle.pack.specs.declared.position.Place.{Place}
use Rattle.pack.specs.Group.{Group}
use Rattle.pack.specs.Sections.{start_of, section_of}
use Rattle.pack.specs.Items.{outers_at, inners_from, count_at, group_at, groups_at}
use Rattle.pack.specs.Flatten.{numbered, inside, flatten_from}
use Rattle.pack.specs.Verdict.{verdict, refusal_number}

-- a group of section s, its instructions given by their offsets in the pack, where the section starts at `base`
abbrev pub placed_at : ℕ → List ℕ → ℕ → Group ℕ
placed_at base s = group_at (λ (at : ℕ). base + at) s

-- what the groups at offsets gs of section s give for outer i
abbrev pub inside_at : List ℕ → ℕ → ℕ → List ℕ → List (Position × ℕ)
inside_at s base i gs = inside i (map (placed_at base s) gs)

-- what one group of outer i adds to it
abbrev pub members_at : List ℕ → ℕ → ℕ → ℕ → List (Position × ℕ)
members_at s base i g = numbered i 0 (inners_from (λ (at : ℕ). base + at) s (count_at s g) (g + 6))

-- outer instructions at offsets `outs` of a section that starts at `from`, with the groups of section s
abbrev pub spread_of : ℕ → ℕ → List ℕ → List ℕ → List (Position × ℕ)
spread_of from base s outs = flatten_from 0 (map (λ (at : ℕ). from + at) outs) (map (placed_at base s) (groups_at s))

-- the invocations in execution order, each given by its position and its instruction's offset; none of a pack that is refused
unfoldable pub layout : List ℕ → List (Position × ℕ)
layout p = cond (eqb (refusal_number (verdict p)) 0) (spread_of (start_of p 2) (start_of p 3) (section_of p 3) (outers_at (section_of p 2))) []

-- a number that may be absent, as the arrays hold it: one higher, 0 standing for none
unfoldable pub raised : Option ℕ → ℕ
raised none = zero
raised (some k) = suc k

-- what each of the two arrays holds of an invocation
abbrev pub at_of : Position × ℕ → ℕ
at_of x = x.1

abbrev pub place_held : Position × ℕ → Place
place_held x = record { outer = x.0.outer; inner = raised x.0.inner; height = raised x.0.height }

-- the arrays after the invocations xs were written from index n on
pub record Wrote (xs : List (Position × ℕ)) (n r : ℕ) (at at' : List ℕ) (places places' : List Place) : Type 0 where
  -- the index that is then reached
  pub count : r ≡ n + length xs
  -- where each instruction stands in the pack
  pub ats : at' ≡ sets at n (map at_of xs)
  -- and where it was run
  pub runs : places' ≡ sets places n (map place_held xs)

-- what `flatten` leaves: the invocations from the first index on, and blanks behind them
abbrev pub Flattened : List ℕ → ℕ → List ℕ → List Place → Type 0
Flattened p r at places = Wrote (layout p) 0 r (zeros 1024) at (replicate 1024 blank_place) places
