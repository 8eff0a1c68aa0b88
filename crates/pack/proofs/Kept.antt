-- The groups that are remembered: where they stand, how many they are, and that they make up all that an outer instruction holds.
-- Assumes nothing.
use mathlib.Core.Path.{◌≡◌, refl, sym, ◌∙◌}
use mathlib.Core.Bool.{Bool, true, false, cond, ◌&&◌}
use mathlib.Core.List.{List, [], ◌∷◌, map}
use Prim.Native.Nat.{ℕ, zero, suc, ◌+◌, ◌≤◌, ◌<◌}
use native.Mathlib.Omega.{arith}
use borrow.Author.Tests.{ltb-true, ltb-false, leb-true, ne_eqb}
use lib.Dec.{leb, ltb, eqb}
use lib.ListN.{length, get_or, take, drop}
use lib.Seq.{sets, sets-eq, take_at}
use Rattle.wire.specs.Le.{le}
use Rattle.wire.proofs.Below.{and_left, and_right}
use Rattle.pack.specs.Items.{item_end, outers_from, outers_fill, inners_from, count_at, group_end, group_good, group_at, groups_from, groups_fill}
use Rattle.pack.specs.Flatten.{numbered, inside, kept_in}
use Rattle.pack.specs.Loops.{keeps, kept_from}
use Rattle.pack.proofs.Walk.{inners-length}

-- each of a list's members
abbrev pub Each : (ℕ → Type 0) → List ℕ → Type 0
Each P [] = Unit {0}
Each P (x ∷ xs) = P x × Each P xs

pub each_at : (P : ℕ → Type 0) (xs : List ℕ) → Each P xs → (k : ℕ) → k < length xs → P (get_or xs k 0)
each_at P [] e k h = absurd (omega arith)
each_at P (x ∷ xs) e zero h = e.0
each_at P (x ∷ xs) e (suc k) h = each_at P xs e.1 k (omega arith)

-- outer instructions stand in their section, whole
pub outers-each : (s : List ℕ) (f at : ℕ) → outers_fill s f at ≡ true → Each (λ (x : ℕ). (x < length s) × (item_end s x ≤ length s)) (outers_from s f at)
unfolding outers_fill outers_from
outers-each s zero at e = tt
outers-each s (suc f) at e = go (ltb at (length s)) refl e (outers-each s f (item_end s at))
  where
    go : (t : Bool) → ltb at (length s) ≡ t → cond t (leb (item_end s at) (length s) && outers_fill s f (item_end s at)) true ≡ true
        → (outers_fill s f (item_end s at) ≡ true → Each (λ (x : ℕ). (x < length s) × (item_end s x ≤ length s)) (outers_from s f (item_end s at)))
        → Each (λ (x : ℕ). (x < length s) × (item_end s x ≤ length s)) (cond t (at ∷ outers_from s f (item_end s at)) [])
    go true q e r =
        ((ltb-true at (length s) q, leb-true (item_end s at) (length s) (and_left (leb (item_end s at) (length s)) (outers_fill s f (item_end s at)) e)), r (and_right (leb (item_end s at) (length s)) (outers_fill s f (item_end s at)) e))
    go false q e r = tt

-- and so do groups
pub groups-each : (s : List ℕ) (f at : ℕ) → groups_fill s f at ≡ true → Each (λ (x : ℕ). group_good s x ≡ true) (groups_from s f at)
unfolding groups_fill groups_from
groups-each s zero at e = tt
groups-each s (suc f) at e = go (ltb at (length s)) e (groups-each s f (group_end s at))
  where
    go : (t : Bool) → cond t (group_good s at && groups_fill s f (group_end s at)) true ≡ true
        → (groups_fill s f (group_end s at) ≡ true → Each (λ (x : ℕ). group_good s x ≡ true) (groups_from s f (group_end s at)))
        → Each (λ (x : ℕ). group_good s x ≡ true) (cond t (at ∷ groups_from s f (group_end s at)) [])
    go true e r =
        (and_left (group_good s at) (groups_fill s f (group_end s at)) e, r (and_right (group_good s at) (groups_fill s f (group_end s at)) e))
    go false e r = tt

module _ (s : List ℕ) (o : ℕ) where
  -- a group that is remembered is good, and names one of the o outer instructions
  pub kept-each : (gs : List ℕ) → Each (λ (x : ℕ). group_good s x ≡ true) gs → Each (λ (x : ℕ). (group_good s x ≡ true) × (le 4 s x < o)) (kept_from s o gs)
  unfolding kept_from keeps
  kept-each [] e = tt
  kept-each (g ∷ gs) e = go (keeps s o g) refl (kept-each gs e.1)
    where
      go : (t : Bool) → keeps s o g ≡ t → Each (λ (x : ℕ). (group_good s x ≡ true) × (le 4 s x < o)) (kept_from s o gs)
          → Each (λ (x : ℕ). (group_good s x ≡ true) × (le 4 s x < o)) (cond t (g ∷ kept_from s o gs) (kept_from s o gs))
      go true q r = ((e.0, ltb-true (le 4 s g) o (and_left (ltb (le 4 s g) o) (ltb 0 (count_at s g)) q)), r)
      go false q r = r

either : {B : Type 0} (t : Bool) (x : B) → cond t x x ≡ x
either true x = refl
either false x = refl

module _ {A : Type 0} (r : ℕ → A) (s : List ℕ) (o : ℕ) where
  -- each has an instruction, so there are no more of them than of those
  pub kept-few : (gs : List ℕ) → length (kept_from s o gs) ≤ kept_in o (map (group_at r s) gs)
  unfolding kept_from kept_in keeps group_at
  kept-few [] = omega arith
  kept-few (g ∷ gs) = go (ltb (le 4 s g) o) (ltb 0 (count_at s g)) refl (inners-length r s (count_at s g) (g + 6)) (kept-few gs)
    where
      go : (a b : Bool) → ltb 0 (count_at s g) ≡ b → length (inners_from r s (count_at s g) (g + 6)) ≡ count_at s g
          → length (kept_from s o gs) ≤ kept_in o (map (group_at r s) gs)
          → length (cond (a && b) (g ∷ kept_from s o gs) (kept_from s o gs)) ≤ cond a (length (inners_from r s (count_at s g) (g + 6)) + kept_in o (map (group_at r s) gs)) (kept_in o (map (group_at r s) gs))
      go true true q n h = let x = ltb-true 0 (count_at s g) q in omega arith
      go true false q n h = omega arith
      go false b q n h = h

  -- and no other group adds to what one of the o outer instructions holds
  pub kept-all : (i : ℕ) → i < o → (gs : List ℕ) → inside i (map (group_at r s) (kept_from s o gs)) ≡ inside i (map (group_at r s) gs)
  unfolding kept_from keeps inside numbered inners_from group_at
  kept-all i l [] = refl
  kept-all i l (g ∷ gs) = go (ltb (le 4 s g) o) (ltb 0 (count_at s g)) refl refl (kept-all i l gs)
    where
      go : (a b : Bool) → ltb (le 4 s g) o ≡ a → ltb 0 (count_at s g) ≡ b → inside i (map (group_at r s) (kept_from s o gs)) ≡ inside i (map (group_at r s) gs)
          → inside i (map (group_at r s) (cond (a && b) (g ∷ kept_from s o gs) (kept_from s o gs))) ≡ inside i (map (group_at r s) (g ∷ gs))
      go true true p q h = rw h
      go true false p q h =
          let x = ltb-false 0 (count_at s g) q in
          let z : count_at s g ≡ 0 = omega arith in
          h ∙ rw z (sym (either (eqb (le 4 s g) i) (inside i (map (group_at r s) gs))))
      go false b p q h =
          let x = ltb-false (le 4 s g) o p in
          rw (ne_eqb (le 4 s g) i (omega arith)) h

-- how many a section's groups keep does not depend on how instructions are given
pub kept-given : {A B : Type 0} (r : ℕ → A) (q : ℕ → B) (s : List ℕ) (o : ℕ) (gs : List ℕ) → kept_in o (map (group_at r s) gs) ≡ kept_in o (map (group_at q s) gs)
unfolding kept_in group_at
kept-given r q s o [] = refl
kept-given r q s o (g ∷ gs) =
    rw (inners-length r s (count_at s g) (g + 6), inners-length q s (count_at s g) (g + 6), kept-given r q s o gs)

-- a list laid over an array, read back
pub laid : (l vs : List ℕ) → length vs ≤ length l → take (length vs) (sets l 0 vs) ≡ vs
laid l vs h = rw (sets-eq vs l 0 (omega arith)) (take_at vs (drop (0 + length vs) l) (length vs) refl)
