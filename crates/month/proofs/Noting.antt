-- Lines held by their numbers: a number put in at the place of its line holds the line in its place, and what is behind the last that can be held goes.
-- Assumes nothing.
use Rattle.std.proofs.Common.{◌≡◌, ℕ, zero, suc, ◌+◌, ◌-◌, ◌*◌, ◌/◌, ◌<◌, ◌≤◌, min, true, false, ◌⊎◌, List, [], ◌∷◌, ◌++◌, map, length, get_or, take, drop, set, sym, refl, ap, ◌∙◌, ap₂, inl, inr, ⊎_elim, le_of_suc-le-suc, not-suc-le-zero, add-one, arith, length-append, length-drop, length-take, length-take-le, take_all, drop-cons, get_or-take, take-take, take_at, le-ltb}
use native.Mathlib.Decide.{dec_lt}
use mathlib.Core.Logic.{by_cases, ⊎_map}
use mathlib.Core.Bool.{and-false}
use mathlib.Core.List.Memᴰ
use mathlib.Core.List.{Memᴰ}
use lib.ListN.{length-map}
use lib.Seq.{sets, sets-eq, take-append-add}
use Rattle.wire.proofs.Sets.{sets-before, sets-front}
use Rattle.wire.specs.Order.{lt_key}
use Rattle.wire.specs.Ascending.{Ascending, asc_nil}
use Rattle.wire.proofs.Ascending.{put-mem}
use Rattle.month.specs.Transfers.{Line}
use Rattle.month.specs.Report.{enter}
use Rattle.month.specs.Adding.{among}
use Rattle.month.specs.Lookup.{line_numbered, lines_numbered, spot_of, least_with}
use Rattle.month.specs.Standing.{Held, Entered, Picked}
use Rattle.month.proofs.Views.{mem-at, drop-take}
use Rattle.month.proofs.Least.{mem-take, take-ascends, enter-ascends}
use Rattle.month.proofs.Spots.{spot-most, among-spot, enter-spot, enter-there}

-- elements moved up by one, the last ones first
pub move-more : (o : List ℕ) (k i : ℕ) → 0 < i → i ≤ k → k < length o
    → set (sets o (i + 1) (take (k - i) (drop i o))) (i - 1 + 1) (get_or (sets o (i + 1) (take (k - i) (drop i o))) (i - 1) 0) ≡ sets o (i - 1 + 1) (take (k - (i - 1)) (drop (i - 1) o))
move-more o k i h p q =
    let e : i - 1 + 1 ≡ i = omega arith in
    let f : k - (i - 1) ≡ suc (k - i) = omega arith in
    let g : suc (i - 1) ≡ i = omega arith in
    rw (e, f, sets-before o (i + 1) (take (k - i) (drop i o)) (i - 1) (omega arith), drop-cons o (i - 1) 0 (omega arith), g)
    (sets-front o (i + 1) i (take (k - i) (drop i o)) (get_or o (i - 1) 0) (omega arith))

-- one put in where they made room
pub moved : (o : List ℕ) (j k n : ℕ) → j ≤ k → k < length o
    → take (suc k) (set (sets o (j + 1) (take (k - j) (drop j o))) j n) ≡ take j o ++ (n ∷ take (k - j) (drop j o))
moved o j k n h q =
    let m : length (take j o ++ (n ∷ take (k - j) (drop j o))) ≡ suc k = simp (length-append, length-take, length-drop) (omega arith) in
    rw (sets-front o (j + 1) j (take (k - j) (drop j o)) n (omega arith), sets-eq (n ∷ take (k - j) (drop j o)) o j (simp (length-take, length-drop) (omega arith)))
    (take_at (take j o ++ (n ∷ take (k - j) (drop j o))) (drop (j + length (n ∷ take (k - j) (drop j o))) o) (suc k) m)

-- a list's parts, taken before or after a function
module _ {A B : Type 0} (f : A → B) where
  pub map-take : (n : ℕ) (l : List A) → map f (take n l) ≡ take n (map f l)
  map-take zero l = refl
  map-take (suc n) [] = refl
  map-take (suc n) (x ∷ l) = ap (λ (m : List B). f x ∷ m) (map-take n l)

  map-drop : (n : ℕ) (l : List A) → map f (drop n l) ≡ drop n (map f l)
  map-drop zero l = refl
  map-drop (suc n) [] = refl
  map-drop (suc n) (x ∷ l) = map-drop n l

  pub map-join : (l m : List A) → map f (l ++ m) ≡ map f l ++ map f m
  map-join [] m = refl
  map-join (x ∷ l) m = ap (λ (k : List B). f x ∷ k) (map-join l m)

  pub map_at : (a : A) (b : B) (l : List A) (j : ℕ) → j < length l → get_or (map f l) j b ≡ f (get_or l j a)
  map_at a b [] j h = absurd (not-suc-le-zero h)
  map_at a b (x ∷ l) zero h = refl
  map_at a b (x ∷ l) (suc j) h = map_at a b l j (le_of_suc-le-suc h)

-- no more than so many
put-most : (l : List ℕ) (n j kept most : ℕ) → j ≤ kept → kept ≤ length l → suc kept ≤ most → (kept ≡ length l) ⊎ (suc kept ≡ most)
    → take j l ++ (n ∷ take (kept - j) (drop j l)) ≡ take most (take j l ++ (n ∷ drop j l))
put-most l n j kept most h p q (inl e) =
    rw (take_all (kept - j) (drop j l) (simp length-drop (omega arith)))
    (sym (take_all most (take j l ++ (n ∷ drop j l)) (simp (length-append, length-take, length-drop) (omega arith))))
put-most l n j kept most h p q (inr e) =
    let m : most ≡ length (take j l) + suc (kept - j) = simp length-take (omega arith) in
    rw m (sym (take-append-add (take j l) (n ∷ drop j l) (suc (kept - j))))

module _ {t ns : List ℕ} {k : ℕ} (h : Held t ns k) where
  pub held_at : (j : ℕ) → j < k → get_or ns j 0 / 3 * 150 + 150 ≤ length t
  held_at j p =
      let e = get_or-take k ns j 0 p in
      let m = length-take-le k ns h.held_most in
      h.held_there (get_or ns j 0) (rw e at (mem-at (take k ns) 0 j (omega arith)))

  pub held-length : length (lines_numbered t (take k ns)) ≡ k
  held-length = length-map (take k ns) (line_numbered t) ∙ length-take-le k ns h.held_most

-- where a line is not one to be entered, or stands there, or is above all that can be held, the lines stay
module _ (most : ℕ) (old : List Line) (bound k : Line) (l : List Line) where
  pub not-above : lt_key bound k ≡ false → least_with most old bound k l ≡ l
  unfolding least_with
  not-above e = rw e

  pub not_new : among k old ≡ true → least_with most old bound k l ≡ l
  unfolding least_with
  not_new e = rw (e, and-false (lt_key bound k))

  pub least-enter : lt_key bound k ≡ true → among k old ≡ false → least_with most old bound k l ≡ take most (enter k l)
  unfolding least_with
  least-enter e f = rw (e, f)

pub least-behind : (most : ℕ) (k : Line) {l : List Line} → Ascending (λ x. x) l → length l ≤ most → most ≤ spot_of k l → take most (enter k l) ≡ l
least-behind most k {l} s h p =
    let q = spot-most k l in
    let e : spot_of k l ≡ most = omega arith in
    let f : among k l ≡ false = rw (among-spot k [] s, le-ltb (spot_of k l) (length l) (omega arith)) in
    rw (enter-spot k s f, e)
    (take_at (take most l) (k ∷ drop most l) most (length-take-le most l (omega arith)) ∙ take_all most l (omega arith))

-- how many of the k numbers stay when one is put in at place j
abbrev pub Keeps : (j k most kept : ℕ) → Type 0
Keeps j k most kept = (kept ≤ k) × (j ≤ kept) × (kept < most) × ((kept ≡ k) ⊎ (suc kept ≡ most))

pub keeps : {j k most kept : ℕ} → j ≤ k → j < most → k ≤ most → kept ≡ min k (most - 1) → Keeps j k most kept
keeps {j} {k} {most} {kept} h p q e =
    by_cases
    (dec_lt k most)
    (λ (l : k < most). (omega arith, omega arith, omega arith, inl (omega arith)))
    (λ (l : ¬ (k < most)). (omega arith, omega arith, omega arith, inr (omega arith)))

-- line n, whose place among the lines held is j
module _ {t ns : List ℕ} {k : ℕ} (h : Held t ns k) (n j : ℕ) (place : j ≡ spot_of (line_numbered t n) (lines_numbered t (take k ns))) where
  -- it stands there
  pub noted-there : among (line_numbered t n) (lines_numbered t (take k ns)) ≡ true
      → take (length ns) (enter (line_numbered t n) (lines_numbered t (take k ns))) ≡ lines_numbered t (take k ns)
  noted-there e =
      rw (enter-there (line_numbered t n) h.held_ascend e)
      (take_all (length ns) (lines_numbered t (take k ns)) (omega (arith, held-length h, h.held_most)))

  -- it does not, and its number is put in
  pub noted : {ns' : List ℕ} (kept : ℕ) → n / 3 * 150 + 150 ≤ length t → length ns' ≡ length ns
      → kept ≤ k → j ≤ kept → kept < length ns → (kept ≡ k) ⊎ (suc kept ≡ length ns)
      → among (line_numbered t n) (lines_numbered t (take k ns)) ≡ false
      → take (suc kept) ns' ≡ take j ns ++ (n ∷ take (kept - j) (drop j ns))
      → Entered t ns' (kept + 1) (take (length ns) (enter (line_numbered t n) (lines_numbered t (take k ns))))
  noted {ns'} kept there len hk hj hm hc apart e =
      record {
        entered = rw (add-one kept) lines;
        holds_lines = record { held_most = omega arith; held_there = rw (add-one kept) inside; held_ascend = rw (add-one kept, lines) ascend };
      }
    where
      short : length (take k ns) ≡ k
      short = length-take-le k ns h.held_most

      behind : take (kept - j) (drop j (take k ns)) ≡ take (kept - j) (drop j ns)
      behind =
          let s : j + (k - j) ≡ k = omega arith in
          let b : drop j (take k ns) ≡ take (k - j) (drop j ns) = ap (λ (m : ℕ). drop j (take m ns)) (sym s) ∙ drop-take j (k - j) ns in
          rw b (take-take (kept - j) (k - j) (drop j ns) (omega arith))

      numbers : take (suc kept) ns' ≡ take (length ns) (take j (take k ns) ++ (n ∷ drop j (take k ns)))
      numbers =
          e
          ∙ ap₂ (λ (x y : List ℕ). x ++ (n ∷ y)) (sym (take-take j k ns (omega arith))) (sym behind)
          ∙ put-most (take k ns) n j kept (length ns) hj (omega (arith, short)) (omega arith) (⊎_map (λ q. q ∙ sym short) (λ q. q) hc)

      lines : lines_numbered t (take (suc kept) ns') ≡ take (length ns) (enter (line_numbered t n) (lines_numbered t (take k ns)))
      lines =
          ap (map (line_numbered t)) numbers
          ∙ map-take (line_numbered t) (length ns) (take j (take k ns) ++ (n ∷ drop j (take k ns)))
          ∙ ap (take (length ns)) (map-join (line_numbered t) (take j (take k ns)) (n ∷ drop j (take k ns))
          ∙ ap₂ (λ (x y : List Line). x ++ (line_numbered t n ∷ y)) (map-take (line_numbered t) j (take k ns)) (map-drop (line_numbered t) j (take k ns))
          ∙ sym (rw (← place) at (enter-spot (line_numbered t n) h.held_ascend apart)))

      inside : (m : ℕ) → Memᴰ m (take (suc kept) ns') → m / 3 * 150 + 150 ≤ length t
      inside m i =
          ⊎_elim
          (λ (q : m ≡ n). rw q there)
          (λ (q : Memᴰ m (take k ns)). h.held_there m q)
          (put-mem n j (take k ns) (mem-take (length ns) (take j (take k ns) ++ (n ∷ drop j (take k ns))) (rw numbers at i)))

      ascend : Ascending (λ x. x) (take (length ns) (enter (line_numbered t n) (lines_numbered t (take k ns))))
      ascend = take-ascends (length ns) (enter-ascends (line_numbered t n) h.held_ascend)

-- lines picked from one table, by what they are
pub picked : (t : List ℕ) {l m : List Line} → l ≡ m → ◌≡◌ {A = Picked} (record { table = t; lines = l }) (record { table = t; lines = m })
picked t e = ap (λ (x : List Line). record { table = t; lines = x }) e

-- no numbers yet
pub none-held : (t ns : List ℕ) → Held t ns 0
none-held t ns = record { held_most = omega arith; held_there = λ n i. absurd (Memᴰ.not-nil i); held_ascend = asc_nil }

-- what is held when line n has been looked at
abbrev pub Noted : (t ns : List ℕ) (k : ℕ) (old : List Line) (bound : Line) (n : ℕ) (ns' : List ℕ) (k' : ℕ) → Type 0
Noted t ns k old bound n ns' k' =
    Entered t ns' k' (least_with (length ns) old bound (line_numbered t n) (lines_numbered t (take k ns)))

module _ {t ns : List ℕ} {k : ℕ} (h : Held t ns k) (old : List Line) (bound : Line) (n : ℕ) {line : Line} (e : line ≡ line_numbered t n) where
  pub note-below : lt_key bound line ≡ false → Noted t ns k old bound n ns k
  note-below f =
      record {
        entered = sym (not-above (length ns) old bound (line_numbered t n) (lines_numbered t (take k ns)) (rw e at f));
        holds_lines = h;
      }

  pub note-old : among line old ≡ true → Noted t ns k old bound n ns k
  note-old f =
      record {
        entered = sym (not_new (length ns) old bound (line_numbered t n) (lines_numbered t (take k ns)) (rw e at f));
        holds_lines = h;
      }

  -- above the bound, and not in the report
  module _ (f : lt_key bound line ≡ true) (g : among line old ≡ false) where
    enters : least_with (length ns) old bound (line_numbered t n) (lines_numbered t (take k ns))
        ≡ take (length ns) (enter (line_numbered t n) (lines_numbered t (take k ns)))
    enters =
        least-enter (length ns) old bound (line_numbered t n) (lines_numbered t (take k ns)) (rw e at f) (rw e at g)

    module _ {j : ℕ} (q : j ≡ spot_of line (lines_numbered t (take k ns))) where
      pub note-behind : length ns ≤ j → Noted t ns k old bound n ns k
      note-behind d =
          record {
            entered = sym (enters ∙ least-behind (length ns) (line_numbered t n) h.held_ascend (omega (arith, held-length h, h.held_most)) (rw (q, e) at d));
            holds_lines = h;
          }

      pub note-there : among line (lines_numbered t (take k ns)) ≡ true → Noted t ns k old bound n ns k
      note-there d = record { entered = sym (enters ∙ noted-there h n j (rw e at q) (rw e at d)); holds_lines = h }

      pub note-put : {ns' : List ℕ} {kept : ℕ} → n / 3 * 150 + 150 ≤ length t → length ns' ≡ length ns → Keeps j k (length ns) kept
          → among line (lines_numbered t (take k ns)) ≡ false
          → take (suc kept) ns' ≡ take j ns ++ (n ∷ take (kept - j) (drop j ns))
          → Noted t ns k old bound n ns' (kept + 1)
      note-put {kept} there len w d g = rw enters (noted h n j (rw e at q) kept there len w.0 w.1 w.2 w.3 (rw e at d) g)
