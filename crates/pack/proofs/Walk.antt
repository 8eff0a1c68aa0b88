-- One step of the walks over a section, by what the code has tested. An item has at least its header, so each step gets on.
-- Assumes nothing.
use mathlib.Core.Path.{◌≡◌, refl, ap}
use mathlib.Core.Bool.{Bool, true, false, cond, ◌&&◌}
use mathlib.Core.List.{List, map}
use Prim.Native.Nat.{ℕ, zero, suc, ◌+◌, ◌-◌, ◌*◌, ◌≤◌, ◌<◌}
use native.Mathlib.Nat.{add-zero}
use native.Mathlib.Omega.{arith}
use borrow.Author.Tests.{le-leb, lt-leb, lt-ltb, le-ltb, leb-true}
use lib.Dec.{ltb, leb}
use lib.ListN.{length}
use Rattle.wire.specs.Le.{le}
use Rattle.wire.proofs.Below.{and_left, and_right}
use Rattle.std.specs.Prelude.{Option, Some, None}
use Rattle.pack.specs.Invocation.{instruction_at}
use Rattle.pack.specs.Items.{item_end, outers_from, outers_fill, height_good, inners_end, inners_good, inners_from, count_at, group_end, group_good, group_at, groups_from, groups_fill}
use Rattle.pack.specs.Flatten.{kept_in}
use Rattle.pack.proofs.Tests.{none_if, some_if}

-- an instruction has 8 bytes and more
pub item-grows : (s : List ℕ) (at : ℕ) → at + 8 ≤ item_end s at
unfolding item_end
item-grows s at = omega arith

-- n inner instructions have 13 bytes each and more
pub inners-grow : (s : List ℕ) (n at : ℕ) → at + 13 * n ≤ inners_end s n at
unfolding inners_end
inners-grow s zero at = omega arith
inners-grow s (suc n) at = omega (arith, inners-grow s n (item_end s (at + 5)), item-grows s (at + 5))

-- as many as were asked for
pub inners-length : {A : Type 0} (r : ℕ → A) (s : List ℕ) (n at : ℕ) → length (inners_from r s n at) ≡ n
unfolding inners_from
inners-length r s zero at = refl
inners-length r s (suc n) at = ap suc (inners-length r s n (item_end s (at + 5)))

-- section 2 from `at` on, with n instructions before it
abbrev pub outers_count : List ℕ → ℕ → ℕ → ℕ → Option ℕ
outers_count s f at n = cond (outers_fill s f at) (Some (n + length (outers_from s f at))) None

module _ (s : List ℕ) (at n : ℕ) (few : n ≤ length s) where
  split : suc (length s) - n ≡ suc (length s - n)
  split = omega arith

  pub outers-ended : length s ≤ at → outers_count s (suc (length s) - n) at n ≡ Some n
  unfolding outers_fill outers_from
  outers-ended h = rw (split, le-ltb _ _ h, add-zero n)

  pub outers-cut : at < length s → length s < item_end s at → outers_count s (suc (length s) - n) at n ≡ None
  unfolding outers_fill outers_from
  outers-cut h k = rw (split, lt-ltb _ _ h, lt-leb _ _ k)

  pub outers-more : at < length s → item_end s at ≤ length s
      → outers_count s (suc (length s) - (n + 1)) (item_end s at) (n + 1) ≡ outers_count s (suc (length s) - n) at n
  unfolding outers_fill outers_from
  outers-more h k =
      let f : suc (length s) - (n + 1) ≡ length s - n = omega arith in
      let m : n + 1 + length (outers_from s (length s - n) (item_end s at)) ≡ n + suc (length (outers_from s (length s - n) (item_end s at))) = omega arith in
      rw (f, split, lt-ltb _ _ h, le-leb _ _ k, m)

-- the instructions of a group, n less j of them left
abbrev pub inners_walk : List ℕ → ℕ → ℕ → Option ℕ
inners_walk s n at = cond (inners_good s n at) (Some (inners_end s n at)) None

module _ (s : List ℕ) (n j at : ℕ) where
  left : j < n → n - j ≡ suc (n - (j + 1))
  left h = omega arith

  pub inners-ended : n ≤ j → inners_walk s (n - j) at ≡ Some at
  unfolding inners_good inners_end
  inners-ended h =
      let z : n - j ≡ 0 = omega arith in
      rw z

  pub inners-cut : j < n → length s < item_end s (at + 5) → inners_walk s (n - j) at ≡ None
  unfolding inners_good inners_end
  inners-cut h k = rw (left h, lt-leb _ _ k)

  pub inners-bad : j < n → item_end s (at + 5) ≤ length s → height_good s at ≡ false → inners_walk s (n - j) at ≡ None
  unfolding inners_good inners_end
  inners-bad h k e = rw (left h, le-leb _ _ k, e)

  pub inners-more : j < n → item_end s (at + 5) ≤ length s → height_good s at ≡ true
      → inners_walk s (n - (j + 1)) (item_end s (at + 5)) ≡ inners_walk s (n - j) at
  unfolding inners_good inners_end
  inners-more h k e = rw (left h, le-leb _ _ k, e)

-- section 3 from `at` on, n instructions kept before it
abbrev pub groups_count : List ℕ → ℕ → ℕ → ℕ → ℕ → Option ℕ
groups_count s o f at n = cond (groups_fill s f at) (Some (n + kept_in o (map (group_at (instruction_at s) s) (groups_from s f at)))) None

module _ (s : List ℕ) (o f g at n : ℕ) (next : f ≡ suc g) where
  pub groups-ended : length s ≤ at → groups_count s o f at n ≡ Some n
  unfolding groups_fill groups_from kept_in
  groups-ended h = rw (next, le-ltb _ _ h, add-zero n)

  pub groups-cut : at < length s → group_good s at ≡ false → groups_count s o f at n ≡ None
  unfolding groups_fill groups_from
  groups-cut h e = rw (next, lt-ltb _ _ h, e)

  pub groups-more : at < length s → group_good s at ≡ true
      → groups_count s o g (group_end s at) (n + cond (ltb (le 4 s at) o) (count_at s at) 0) ≡ groups_count s o f at n
  unfolding groups_fill groups_from kept_in group_at
  groups-more h e =
      rw (next, lt-ltb _ _ h, e, inners-length (instruction_at s) s (count_at s at) (at + 6))
      (ap (λ (k : ℕ). cond (groups_fill s g (group_end s at)) (Some k) None) (taken (ltb (le 4 s at) o) (count_at s at) (kept_in o (map (group_at (instruction_at s) s) (groups_from s g (group_end s at))))))
    where
      taken : (t : Bool) (k m : ℕ) → n + cond t k 0 + m ≡ n + cond t (k + m) m
      taken true k m = omega arith
      taken false k m = omega arith

-- good instructions end in the section
pub inners-inside : (s : List ℕ) (n at : ℕ) → at ≤ length s → inners_good s n at ≡ true → inners_end s n at ≤ length s
unfolding inners_good inners_end
inners-inside s zero at h e = h
inners-inside s (suc n) at h e =
    let r = and_right (leb (item_end s (at + 5)) (length s)) (height_good s at && inners_good s n (item_end s (at + 5))) e in
    inners-inside s n (item_end s (at + 5)) (leb-true _ _ (and_left (leb (item_end s (at + 5)) (length s)) (height_good s at && inners_good s n (item_end s (at + 5))) e)) (and_right (height_good s at) (inners_good s n (item_end s (at + 5))) r)

-- a group keeps no more than it has
pub kept-few : (t : Bool) (n k : ℕ) → k ≡ cond t n 0 → k ≤ n
kept-few true n k e = omega arith
kept-few false n k e = omega arith

module _ (s : List ℕ) (at : ℕ) (header : at + 6 ≤ length s) where
  -- the walk over a group's instructions was cut
  pub group-cut : None ≡ inners_walk s (count_at s at) (at + 6) → group_good s at ≡ false
  unfolding group_good
  group-cut e = rw (le-leb _ _ header) (none_if (inners_good s (count_at s at) (at + 6)) (inners_end s (count_at s at) (at + 6)) e)

  -- it came to an end: the group's, in the section
  pub group-passed : (end : ℕ) → Some end ≡ inners_walk s (count_at s at) (at + 6)
      → (group_good s at ≡ true) × (end ≡ group_end s at) × (end ≤ length s) × (at + 6 + 13 * count_at s at ≤ end)
  unfolding group_good group_end
  group-passed end e =
      let w = some_if (inners_good s (count_at s at) (at + 6)) (inners_end s (count_at s at) (at + 6)) end e in
      let inside = inners-inside s (count_at s at) (at + 6) header w.0 in
      let grows = inners-grow s (count_at s at) (at + 6) in
      (rw (le-leb _ _ header) w.0, w.1, omega arith, omega arith)
