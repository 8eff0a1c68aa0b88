-- What the arrays hold is the invocations: `flatten` does not look at what an instruction is given as, and at each offset stands the instruction.
-- Assumes nothing.
use mathlib.Core.Path.{◌≡◌, refl, sym, ap, ◌∙◌}
use mathlib.Core.Bool.{Bool, true, false, cond, ◌&&◌}
use mathlib.Core.List.{List, [], ◌∷◌, ◌++◌, map, map-append, map-map}
use mathlib.Core.Option.{Option, none, some}
use Prim.Native.Nat.{ℕ, zero, suc, ◌+◌, ◌-◌, ◌≤◌, ◌<◌}
use native.Mathlib.Nat.{zero-add}
use native.Mathlib.Omega.{arith}
use borrow.Author.Tests.{leb-true}
use lib.Dec.{leb, eqb}
use lib.ListN.{length, get_or, replicate, length-map, length-replicate}
use lib.Seq.{sets}
use Rattle.wire.proofs.Below.{and_left, and_right}
use Rattle.pack.specs.Invocation.{Position, Invocation, instruction_at, lowered, position_of, blank_place, position_in_places}
use Rattle.pack.specs.declared.position.Place.{Place}
use Rattle.pack.specs.Group.{Group}
use Rattle.pack.specs.Sections.{start_of, section_of}
use Rattle.pack.specs.Items.{item_end, outers_at, outers_whole, height_good, inners_good, inners_from, count_at, group_good, group_at, groups_at, groups_whole}
use Rattle.pack.specs.View.{outer_in, groups_in, view_of}
use Rattle.pack.specs.Flatten.{numbered, inside, outermost, flatten_from, invocation, flatten}
use Rattle.pack.specs.Verdict.{refusal_number, verdict}
use Rattle.pack.specs.Layout.{layout, spread_of, placed_at, raised, at_of, place_held, Flattened}
use Rattle.std.proofs.lemmas.List.{get_or-map}
use Rattle.pack.proofs.Slices.{slice, instruction-in}
use Rattle.pack.proofs.Good.{passed, section-is}
use Rattle.pack.proofs.Kept.{Each, outers-each, groups-each}
use Rattle.pack.proofs.Stores.{laid-at}
use Rattle.pack.proofs.Filled.{laid_out, spread-room}

-- instructions seen through f
module _ {A B : Type 0} (f : A → B) where
  abbrev seen : Position × A → Position × B
  seen x = (x.0, f x.1)

  abbrev item : Option ℕ × A → Option ℕ × B
  item x = (x.0, f x.1)

  abbrev group : Group A → Group B
  group g = record { index = g.index; items = map item g.items }

  numbered-seen : (i j : ℕ) (xs : List (Option ℕ × A)) → numbered i j (map item xs) ≡ map seen (numbered i j xs)
  unfolding numbered
  numbered-seen i j [] = refl
  numbered-seen i j (x ∷ xs) = rw (numbered-seen i (suc j) xs)

  inside-seen : (i : ℕ) (gs : List (Group A)) → inside i (map group gs) ≡ map seen (inside i gs)
  unfolding inside
  inside-seen i [] = refl
  inside-seen i (g ∷ gs) = go (eqb g.index i) (inside-seen i gs)
    where
      go : (t : Bool) → inside i (map group gs) ≡ map seen (inside i gs)
          → cond t (numbered i 0 (map item g.items) ++ inside i (map group gs)) (inside i (map group gs)) ≡ map seen (cond t (numbered i 0 g.items ++ inside i gs) (inside i gs))
      go true e = rw (e, numbered-seen i 0 g.items) (sym (map-append seen (numbered i 0 g.items) (inside i gs)))
      go false e = e

  flatten-seen : (i : ℕ) (xs : List A) (gs : List (Group A)) → flatten_from i (map f xs) (map group gs) ≡ map seen (flatten_from i xs gs)
  unfolding flatten_from
  flatten-seen i [] gs = refl
  flatten-seen i (x ∷ xs) gs =
      rw (inside-seen i gs, flatten-seen (suc i) xs gs) (ap (λ (l : List (Position × B)). (outermost i, f x) ∷ l) (sym (map-append seen (inside i gs) (flatten_from (suc i) xs gs))))

map_each : {A : Type 0} (f g : ℕ → A) (P : ℕ → Type 0) → ((x : ℕ) → P x → f x ≡ g x) → (xs : List ℕ) → Each P xs → map f xs ≡ map g xs
map_each f g P h [] e = refl
map_each f g P h (x ∷ xs) e = rw (h x e.0, map_each f g P h xs e.1)

-- a section that starts at `from` of the pack
module _ (p s : List ℕ) (from n : ℕ) (part : s ≡ slice p from n) where
  read-in : (at : ℕ) → item_end s at ≤ length s → instruction_at s at ≡ instruction_at p (from + at)
  read-in at h = rw part (instruction-in p from n at (rw part at h))

  outer-read : outers_whole s ≡ true → outer_in s ≡ map (instruction_at p) (map (λ (x : ℕ). from + x) (outers_at s))
  unfolding outer_in
  outer-read w =
      map_each (instruction_at s) (λ (x : ℕ). instruction_at p (from + x)) (λ (x : ℕ). (x < length s) × (item_end s x ≤ length s)) (λ x h. read-in x h.1) (outers_at s) (outers-each s (suc (length s)) 0 w)
      ∙ sym (map-map (instruction_at p) (λ (x : ℕ). from + x) (outers_at s))

  inners-read : (k at : ℕ) → inners_good s k at ≡ true → inners_from (instruction_at s) s k at ≡ map (item (instruction_at p)) (inners_from (λ (x : ℕ). from + x) s k at)
  unfolding inners_good inners_from
  inners-read zero at e = refl
  inners-read (suc k) at e =
      let rest = inners_good s k (item_end s (at + 5)) in
      let r = and_right (leb (item_end s (at + 5)) (length s)) (height_good s at && rest) e in
      rw (read-in (at + 5) (leb-true _ _ (and_left (leb (item_end s (at + 5)) (length s)) (height_good s at && rest) e)), inners-read k (item_end s (at + 5)) (and_right (height_good s at) rest r))

  group-read : (x : ℕ) → group_good s x ≡ true → group_at (instruction_at s) s x ≡ group (instruction_at p) (placed_at from s x)
  unfolding group_good group_at
  group-read x e = rw (inners-read (count_at s x) (x + 6) (and_right (leb (x + 6) (length s)) (inners_good s (count_at s x) (x + 6)) e))

  groups-read : groups_whole s ≡ true → groups_in s ≡ map (group (instruction_at p)) (map (placed_at from s) (groups_at s))
  unfolding groups_in
  groups-read w =
      map_each (group_at (instruction_at s) s) (λ (x : ℕ). group (instruction_at p) (placed_at from s x)) (λ (x : ℕ). group_good s x ≡ true) group-read (groups_at s) (groups-each s (suc (length s)) 0 w)
      ∙ sym (map-map (group (instruction_at p)) (placed_at from s) (groups_at s))

-- an invocation given by its position and its instruction's offset
abbrev pub standing : List ℕ → Position × ℕ → Invocation
standing p x = record { position = x.0; instruction = instruction_at p x.1 }

-- the layout of a pack is its invocations
pub layout_is : (p : List ℕ) → refusal_number (verdict p) ≡ 0 → flatten (view_of p) ≡ map (standing p) (layout p)
unfolding flatten view_of
layout_is p e =
    let w = passed p e in
    let a = outer-read p (section_of p 2) (start_of p 2) (start_of p 3 - start_of p 2) (section-is p w.size w.starts 2 (omega arith)) w.outers in
    let b = groups-read p (section_of p 3) (start_of p 3) (start_of p 4 - start_of p 3) (section-is p w.size w.starts 3 (omega arith)) w.groups in
    let l = laid_out p (section_of p 2) (section_of p 3) (length (outers_at (section_of p 2))) e refl refl refl in
    rw (a, b, l, flatten-seen (instruction_at p) 0 (map (λ (x : ℕ). start_of p 2 + x) (outers_at (section_of p 2))) (map (placed_at (start_of p 3) (section_of p 3)) (groups_at (section_of p 3))))
    (map-map invocation (seen (instruction_at p)) (spread_of (start_of p 2) (start_of p 3) (section_of p 3) (outers_at (section_of p 2))))

-- a number read back from an array
lowered-raised : (o : Option ℕ) → lowered (raised o) ≡ o
unfolding lowered raised
lowered-raised none = refl
lowered-raised (some k) = refl

-- and a position
position-held : (x : Position × ℕ) → position_of (place_held x) ≡ x.0
unfolding position_of
position-held x = rw (lowered-raised x.0.inner, lowered-raised x.0.height)

-- what `flatten` leaves of a pack that no refusal meets
module _ (p : List ℕ) (r : ℕ) (at : List ℕ) (places : List Place) (e : refusal_number (verdict p) ≡ 0) (w : Flattened p r at places) where
  few : length (layout p) ≤ 1024
  few =
      let s = section_of p 2 in
      let g = section_of p 3 in
      rw (laid_out p s g (length (outers_at s)) e refl refl refl) (spread-room p s g (length (outers_at s)) e refl refl refl)

  -- as many as there are invocations
  pub count-is : r ≡ length (flatten (view_of p))
  count-is = w.count ∙ zero-add _ ∙ sym (rw (layout_is p e) (length-map (layout p) (standing p)))

  abbrev here : ℕ → Position × ℕ
  here i = get_or (layout p) i (outermost 0, 0)

  holds : {A : Type 0} (f : Position × ℕ → A) (l : List A) (d : A) → l ≡ sets (replicate 1024 d) 0 (map f (layout p)) → (i : ℕ) → i < length (layout p) → get_or l i d ≡ f (here i)
  holds f l d q i h =
      let m = length-map (layout p) f in
      rw q (laid-at (replicate 1024 d) (map f (layout p)) i d (omega (arith, few, length-replicate 1024 d)) (omega arith) ∙ get_or-map f (layout p) i (outermost 0, 0) d h)

  -- and each of them, entry by entry: its position in one array, its instruction at the offset that the other holds
  pub entry : (i : ℕ) → i < r → (d : Invocation)
      → get_or (flatten (view_of p)) i d ≡ record { position = position_in_places places i; instruction = instruction_at p (get_or at i 0) }
  unfolding position_in_places
  entry i h d =
      let k : i < length (layout p) = omega (arith, w.count) in
      rw (layout_is p e, get_or-map (standing p) (layout p) i (outermost 0, 0) d k, holds at_of at 0 w.ats i k, holds place_held places blank_place w.runs i k, position-held (here i))
