-- One more label, transfer or row in the loops that set the labels and the marks.
-- Assumes nothing.
use mathlib.Core.Path.{◌≡◌, refl, sym, ◌∙◌, ap₂}
use mathlib.Core.Logic.{◌≢◌, by_cases}
use mathlib.Core.Bool.{true, false}
use mathlib.Core.List.{List, [], ◌∷◌}
use Prim.Native.Nat.{ℕ, zero, suc, ◌+◌, ◌<◌}
use native.Mathlib.Decide.{ℕ_discrete}
use native.Mathlib.Nat.{zero-add}
use native.Mathlib.Numerals.{add-one}
use native.Mathlib.Omega.{arith}
use lib.ListN.{length, get_or, set, take, length-map, length-take}
use lib.Seq.{sets}
use borrow.Author.Tests.{eq-eqb, ne_eqb}
use Rattle.wire.proofs.Sets.{sets_more, sets-after}
use Rattle.wire.proofs.Tab.{tab-length, tab-at}
use Rattle.mints.specs.declared.row.Row.{Row}
use Rattle.mints.specs.Cells.{state_at}
use Rattle.mints.specs.declared.pass.Transfer.{Transfer}
use Rattle.mints.specs.Pass.{from_at, to_at}
use Rattle.mints.specs.Doubt.{differ_at, own_labels, renamed, relabelled, join_at, suspect_at, meet_at, labels_to, doubt_at, marks_to}

-- one label more, for a row of its own
pub own-more : (l : List ℕ) (n r : ℕ) → r < n → set (sets l 0 (take r (own_labels n))) r r ≡ sets l 0 (take (r + 1) (own_labels n))
own-more l n r h =
    let v : get_or (own_labels n) r 0 ≡ r = tab-at (λ r. r) 0 0 n r h ∙ zero-add r in
    let m = sets_more l 0 (own_labels n) r (rw (tab-length (λ (r : ℕ). r) 0 n) h) in
    rw (v, zero-add) at m

-- a label that is found by another name
pub renamed-here : (x y z : ℕ) → z ≡ x → renamed x y z ≡ y
unfolding renamed
renamed-here x y z e = rw (eq-eqb _ _ e)

pub renamed-other : (x y z : ℕ) → z ≢ x → renamed x y z ≡ z
unfolding renamed
renamed-other x y z n = rw (ne_eqb _ _ n)

pub relabelled-length : (x y : ℕ) (l : List ℕ) → length (relabelled x y l) ≡ length l
unfolding relabelled
relabelled-length x y l = length-map l (renamed x y)

pub relabelled-at : (x y : ℕ) (l : List ℕ) (r : ℕ) → r < length l → get_or (relabelled x y l) r 0 ≡ renamed x y (get_or l r 0)
unfolding relabelled
relabelled-at x y [] r h = absurd (omega arith)
relabelled-at x y (z ∷ l) zero h = refl
relabelled-at x y (z ∷ l) (suc r) h = relabelled-at x y l r (omega arith)

-- a label in its own place changes nothing
pub relabelled-none : (x y : ℕ) (l : List ℕ) → x ≡ y → relabelled x y l ≡ l
unfolding relabelled
relabelled-none x y [] e = refl
relabelled-none x y (z ∷ l) e = ap₂ ◌∷◌ (by_cases (ℕ_discrete z x) (λ q. renamed-here x y z q ∙ sym e ∙ sym q) (λ n. renamed-other x y z n)) (relabelled-none x y l e)

-- one label more by its new name; those from it on are as they were
pub relabelled-more : (x y : ℕ) (l : List ℕ) (r : ℕ) → r < length l
    → set (sets l 0 (take r (relabelled x y l))) r (renamed x y (get_or (sets l 0 (take r (relabelled x y l))) r 0)) ≡ sets l 0 (take (r + 1) (relabelled x y l))
relabelled-more x y l r h =
    let u : get_or (sets l 0 (take r (relabelled x y l))) r 0 ≡ get_or l r 0 = sets-after l 0 (take r (relabelled x y l)) r (rw length-take (omega arith)) in
    let m = sets_more l 0 (relabelled x y l) r (rw (relabelled-length x y l) h) in
    rw (u, ← relabelled-at x y l r h) (rw zero-add at m)

-- what a transfer between two rows does to the labels, by the tests that lead there
module _ (t : List Row) (l : List ℕ) (a b : ℕ) where
  pub meet-differ : differ_at t a b ≡ true → meet_at t l a b ≡ suspect_at t (suspect_at t l a) b
  unfolding meet_at
  meet-differ d = rw d

  pub meet-join : differ_at t a b ≡ false → state_at t a ≡ 3 → state_at t b ≡ 3 → meet_at t l a b ≡ join_at l a b
  unfolding meet_at
  meet-join d p q = rw (d, eq-eqb _ _ p, eq-eqb _ _ q)

  pub meet-source : differ_at t a b ≡ false → state_at t a ≢ 3 → meet_at t l a b ≡ l
  unfolding meet_at
  meet-source d p = rw (d, ne_eqb _ _ p)

  pub meet-target : differ_at t a b ≡ false → state_at t a ≡ 3 → state_at t b ≢ 3 → meet_at t l a b ≡ l
  unfolding meet_at
  meet-target d p q = rw (d, eq-eqb _ _ p, ne_eqb _ _ q)

-- one transfer more
pub meet-next : (ts : List Transfer) (t : List Row) (l : List ℕ) (i : ℕ) {k : List ℕ} → k ≡ labels_to ts t l i → meet_at t k (from_at ts i) (to_at ts i) ≡ labels_to ts t l (i + 1)
unfolding labels_to
meet-next ts t l i e = rw (add-one i, e)

-- one row more
module _ (t : List Row) (l : List ℕ) (r : ℕ) {u : List Row} (e : u ≡ marks_to t l r) where
  pub mark-skip : get_or l r 0 ≢ 0 → u ≡ marks_to t l (r + 1)
  unfolding marks_to
  mark-skip n = rw (add-one r, ← e, ne_eqb _ _ n)

  pub mark-next : get_or l r 0 ≡ 0 → doubt_at u r ≡ marks_to t l (r + 1)
  unfolding marks_to
  mark-next q = rw (add-one r, ← e, eq-eqb _ _ q)
