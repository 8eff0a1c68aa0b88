-- One step of the walks that write places into arrays: what writing the rest from here leaves is what it left before.
-- Assumes nothing.
use mathlib.Core.Path.{◌≡◌, refl, sym, ap, ◌∙◌}
use mathlib.Core.Bool.{true, false, ◌&&◌}
use mathlib.Core.List.{List, [], ◌∷◌, map}
use mathlib.Core.Option.{some}
use Prim.Native.Nat.{ℕ, zero, suc, ◌+◌, ◌-◌, ◌*◌, ◌≤◌, ◌<◌}
use native.Mathlib.Nat.{add-suc, sub-zero, zero-add}
use native.Mathlib.Numerals.{add-one}
use native.Mathlib.Omega.{arith}
use borrow.Author.Tests.{lt-ltb, le-ltb, leb-true}
use lib.Dec.{leb}
use lib.ListN.{length, set}
use lib.Seq.{sets}
use Rattle.wire.proofs.Below.{and_left, and_right}
use Rattle.pack.specs.Invocation.{Position}
use Rattle.pack.specs.Items.{item_end, outers_from, outers_fill, outers_at, outers_whole, height_at, inners_end, inners_good, inners_from, count_at, group_end, group_good, groups_from, groups_fill}
use Rattle.pack.specs.Flatten.{numbered}
use Rattle.pack.specs.Loops.{keeps, kept_from}
use Rattle.pack.proofs.Walk.{item-grows, inners-inside, inners-grow}

-- instructions of section 2, n of them passed
module _ (s : List ℕ) (n at : ℕ) (few : n ≤ length s) where
  split : suc (length s) - n ≡ suc (suc (length s) - (n + 1))
  split = omega arith

  outers-next : at < length s → outers_fill s (suc (length s) - n) at ≡ true
      → (item_end s at ≤ length s) × (outers_fill s (suc (length s) - (n + 1)) (item_end s at) ≡ true)
  unfolding outers_fill
  outers-next h e =
      let w : (leb (item_end s at) (length s) && outers_fill s (suc (length s) - (n + 1)) (item_end s at)) ≡ true = rw (split, lt-ltb at (length s) h) at e in
      (leb-true _ _ (and_left (leb (item_end s at) (length s)) (outers_fill s (suc (length s) - (n + 1)) (item_end s at)) w), and_right (leb (item_end s at) (length s)) (outers_fill s (suc (length s) - (n + 1)) (item_end s at)) w)

  pub outers-cons : at < length s → outers_from s (suc (length s) - n) at ≡ at ∷ outers_from s (suc (length s) - (n + 1)) (item_end s at)
  unfolding outers_from
  outers-cons h = rw (split, lt-ltb at (length s) h)

  pub outers-nil : length s ≤ at → outers_from s (suc (length s) - n) at ≡ []
  unfolding outers_from
  outers-nil h = rw (split, le-ltb at (length s) h)

-- a walk over section 2 has come to `at`, with n instructions before it
pub record Reached (s : List ℕ) (n at : ℕ) : Type 0 where
  pub inside : at ≤ length s
  pub few : n ≤ at
  pub fill : outers_fill s (suc (length s) - n) at ≡ true
  pub count : n + length (outers_from s (suc (length s) - n) at) ≡ length (outers_at s)

pub reached-first : (s : List ℕ) → outers_whole s ≡ true → Reached s 0 0
reached-first s e = record { inside = omega arith; few = omega arith; fill = simp sub-zero e; count = simp (sub-zero, zero-add) }

module _ (s : List ℕ) (n at : ℕ) (r : Reached s n at) where
  -- the instruction at `at` lies in the section, and the walk goes on behind it
  pub reached-next : at < length s → (at + 8 ≤ item_end s at) × (item_end s at ≤ length s) × (n < length (outers_at s)) × Reached s (n + 1) (item_end s at)
  reached-next h =
      let few : n ≤ length s = omega (arith, r.few) in
      let w = outers-next s n at few h r.fill in
      let x = ap length (outers-cons s n at few h) in
      let g = item-grows s at in (
        g,
        w.0,
        omega (arith, r.count),
        record { inside = w.0; few = omega (arith, r.few); fill = w.1; count = omega (arith, r.count) },
      )

-- a group has a header of 6 bytes, and 13 and more for each instruction
pub group-grows : (s : List ℕ) (at : ℕ) → at + 6 + 13 * count_at s at ≤ group_end s at
unfolding group_end
group-grows s at = inners-grow s (count_at s at) (at + 6)

-- a good group lies in the section
pub group-inside : (s : List ℕ) (at : ℕ) → group_good s at ≡ true
    → (at + 6 ≤ length s) × (group_end s at ≤ length s) × (at + 6 + 13 * count_at s at ≤ group_end s at)
unfolding group_good group_end
group-inside s at e =
    let h : at + 6 ≤ length s = leb-true _ _ (and_left (leb (at + 6) (length s)) (inners_good s (count_at s at) (at + 6)) e) in
    (h, inners-inside s (count_at s at) (at + 6) h (and_right (leb (at + 6) (length s)) (inners_good s (count_at s at) (at + 6)) e), group-grows s at)

-- the group at `at` comes next, f bounding how many are left: it lies in the section, and the rest follows it
pub record Next (s : List ℕ) (f at : ℕ) : Type 0 where
  pub header : at + 6 ≤ length s
  pub grows : at + 6 ≤ group_end s at
  pub end : group_end s at ≤ length s
  pub fill : groups_fill s (f - 1) (group_end s at) ≡ true
  pub cons : groups_from s f at ≡ at ∷ groups_from s (f - 1) (group_end s at)

module _ (s : List ℕ) (at : ℕ) where
  next-suc : (g : ℕ) → at < length s → groups_fill s (suc g) at ≡ true → (group_good s at ≡ true) × (groups_fill s g (group_end s at) ≡ true) × (groups_from s (suc g) at ≡ at ∷ groups_from s g (group_end s at))
  unfolding groups_fill groups_from
  next-suc g h e =
      let w : (group_good s at && groups_fill s g (group_end s at)) ≡ true = rw (lt-ltb at (length s) h) at e in
      (and_left (group_good s at) (groups_fill s g (group_end s at)) w, and_right (group_good s at) (groups_fill s g (group_end s at)) w, rw (lt-ltb at (length s) h))

  pub next-group : (f : ℕ) → length s - at < f → at < length s → groups_fill s f at ≡ true → Next s f at
  next-group f l h e =
      let z : f ≡ suc (f - 1) = omega arith in
      let w = next-suc (f - 1) h (ap (λ (k : ℕ). groups_fill s k at) (sym z) ∙ e) in
      let i = group-inside s at w.0 in
      record { header = i.0; grows = omega (arith, i.2); end = i.1; fill = w.1; cons = ap (λ (k : ℕ). groups_from s k at) z ∙ w.2 }

  pub groups-nil : (f : ℕ) → length s ≤ at → groups_from s f at ≡ []
  unfolding groups_from
  groups-nil zero h = refl
  groups-nil (suc f) h = rw (le-ltb at (length s) h)

-- one of them is remembered, or not
module _ (s : List ℕ) (o g : ℕ) (gs : List ℕ) where
  pub kept_cons : keeps s o g ≡ true → kept_from s o (g ∷ gs) ≡ g ∷ kept_from s o gs
  unfolding kept_from
  kept_cons e = rw e

  pub kept-skip : keeps s o g ≡ false → kept_from s o (g ∷ gs) ≡ kept_from s o gs
  unfolding kept_from
  kept-skip e = rw e

-- instructions of a group, j of its n passed: what r reads is written by f from index k on
module _ (r : ℕ → ℕ) (s : List ℕ) (i k n j to : ℕ) (more : j < n) where
  left : n - j ≡ suc (n - (j + 1))
  left = omega arith

  pub member-next : {A : Type 0} (f : Position × ℕ → A) (l : List A) (v : A) → v ≡ f (record { outer = i; inner = some j; height = height_at s to }, r (to + 5))
      → sets (set l (k + j) v) (k + (j + 1)) (map f (numbered i (j + 1) (inners_from r s (n - (j + 1)) (item_end s (to + 5)))))
      ≡ sets l (k + j) (map f (numbered i j (inners_from r s (n - j) to)))
  unfolding numbered inners_from
  member-next f l v e = rw (e, left, add-one j, add-suc k j)

  pub member-end : inners_end s (n - (j + 1)) (item_end s (to + 5)) ≡ inners_end s (n - j) to
  unfolding inners_end
  member-end = rw left

pub member-last : {A : Type 0} (r : ℕ → ℕ) (s : List ℕ) (i k n j to : ℕ) → n ≤ j → (f : Position × ℕ → A) (l : List A)
    → sets l (k + j) (map f (numbered i j (inners_from r s (n - j) to))) ≡ l
unfolding numbered inners_from
member-last r s i k n j to h f l =
    let z : n - j ≡ 0 = omega arith in
    rw z
