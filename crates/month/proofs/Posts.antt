-- A transfer added to the rows of its lines: which rows it needs, that they can take it, and that what is left is the report with the transfer fed.
-- Assumes nothing.
use Rattle.std.proofs.Common.{◌≡◌, ℕ, ◌+◌, ◌-◌, ◌*◌, ◌^◌, ◌<◌, ◌≤◌, Bool, true, false, cond, List, [], ◌∷◌, length, get_or, sym, refl, ap, ◌∙◌, ap₂, le-add_right, arith, leb-true, ltb-true}
use Rattle.std.specs.Prelude.{Some}
use Rattle.wire.specs.Le.{le}
use Rattle.month.specs.Transfers.{FedTransfer, Line, summed, withheld, rest_of, own, source_line, destination_line, touched}
use Rattle.month.specs.Sums.{Sums, Within}
use Rattle.month.specs.Report.{Report, Sorted, lines_of, fed_into}
use Rattle.month.specs.Adding.{add_row, among, whole_part, source_part, destination_part, apart_part}
use Rattle.month.specs.Bytes.{transfer_at, rows_to}
use Rattle.month.specs.Lookup.{fed_at, place_of_line, row_of, all_among, has_all}
use Rattle.month.specs.Standing.{Bears, Takes, Stands}
use Rattle.month.proofs.Adds.{sums-eq}
use Rattle.month.proofs.Adding.{add-sorted}
use Rattle.month.proofs.Feeding.{fed-one, fed-three}
use Rattle.month.proofs.Bound.{AllWithin, widen, add-within}
use Rattle.month.proofs.Views.{rows-length, lines-length}
use Rattle.month.proofs.Spots.{place-line, place-among, row-some}
use Rattle.month.proofs.Numbered.{summed-fee, summed-rest}
use Rattle.month.proofs.Posting.{add-keeps}

-- a line that has a row
module _ (b : List ℕ) (n : ℕ) (k : Line) {p : ℕ} (e : Some p ≡ row_of k (lines_of (rows_to b n))) where
  pub found : among k (lines_of (rows_to b n)) ≡ true
  found = (row-some k (lines_of (rows_to b n)) e).0

  place : p ≡ place_of_line k (lines_of (rows_to b n))
  place = (row-some k (lines_of (rows_to b n)) e).1

  below : place_of_line k (lines_of (rows_to b n)) < length (lines_of (rows_to b n))
  below = ltb-true _ _ (sym (place-among k (lines_of (rows_to b n))) ∙ found)

  pub found_in : p < n
  found_in = omega (arith, place, below, lines-length b n)

  pub found-line : get_or (lines_of (rows_to b n)) p [] ≡ k
  found-line = ap (λ (j : ℕ). get_or (lines_of (rows_to b n)) j []) place ∙ place-line k (lines_of (rows_to b n)) [] below

-- whether all lines are there, line by line
module _ (r : Report) (t : FedTransfer) where
  pub has-not-own : among (own t) (lines_of r) ≡ false → has_all r t ≡ false
  unfolding touched all_among
  has-not-own e = go (summed t)
    where
      go : (b : Bool) → all_among (cond b (own t ∷ source_line t ∷ destination_line t ∷ []) (own t ∷ [])) (lines_of r) ≡ false
      go true = rw e
      go false = rw e

  pub has-own : summed t ≡ false → among (own t) (lines_of r) ≡ true → has_all r t ≡ true
  unfolding touched all_among
  has-own s e = rw (s, e)

  pub has-not-source : summed t ≡ true → among (own t) (lines_of r) ≡ true → among (source_line t) (lines_of r) ≡ false → has_all r t ≡ false
  unfolding touched all_among
  has-not-source s e f = rw (s, e, f)

  pub has-not-destination : summed t ≡ true → among (own t) (lines_of r) ≡ true → among (source_line t) (lines_of r) ≡ true → among (destination_line t) (lines_of r) ≡ false → has_all r t ≡ false
  unfolding touched all_among
  has-not-destination s e f g = rw (s, e, f, g)

  pub has-three : summed t ≡ true → among (own t) (lines_of r) ≡ true → among (source_line t) (lines_of r) ≡ true → among (destination_line t) (lines_of r) ≡ true → has_all r t ≡ true
  unfolding touched all_among
  has-three s e f g = rw (s, e, f, g)

-- what one transfer may need: three additions
pub bears-takes : (r : Report) → Bears 1 r → Takes r
bears-takes r h x i = widen {b = 2 ^ 128 - 3 * 2 ^ 64} {c = 2 ^ 128 - 2 ^ 64} {n = 4294967294} {m = 4294967294} (h x i) (le-add_right (2 ^ 128 - 3 * 2 ^ 64) (2 * 2 ^ 64)) (omega arith)

-- a part that adds less than 2 to the 64th to each sum, and nothing to the count
abbrev pub Light : Sums → Type 0
Light s = Within (2 ^ 64) 0 s

module _ (b c : List ℕ) (n p : ℕ) (s : Sums) (h : p < n) (st : Stands b n) (l : length c ≡ length b)
    (e : rows_to c n ≡ add_row (rows_to b n) (get_or (lines_of (rows_to b n)) p [], s)) where
  -- after an addition the rows ascend, and their lines are as they were
  pub add-stands : Stands c n
  add-stands = record { inside = omega (arith, st.inside); sorted = rw e (add-sorted (get_or (lines_of (rows_to b n)) p [], s) st.sorted) }

  pub lines-kept : lines_of (rows_to c n) ≡ lines_of (rows_to b n)
  lines-kept = ap lines_of e ∙ add-keeps (rows_to b n) p s st.sorted (omega (arith, rows-length b n))

  -- the first of three, and the second
  pub takes_two : Bears 1 (rows_to b n) → Light s → AllWithin (2 ^ 128 - 2 * 2 ^ 64) 4294967294 (rows_to c n)
  takes_two w q =
      rw e (add-within {b = 2 ^ 128 - 3 * 2 ^ 64} {c = 2 ^ 64} {n = 4294967294} {m = 0} {r = rows_to b n} (get_or (lines_of (rows_to b n)) p [], s) w (widen q (omega arith) (omega arith)) (le-add_right 1 (2 ^ 128 - 3 * 2 ^ 64 - 1)))

  pub takes_one : AllWithin (2 ^ 128 - 2 * 2 ^ 64) 4294967294 (rows_to b n) → Light s → Takes (rows_to c n)
  takes_one w q =
      rw e (add-within {b = 2 ^ 128 - 2 * 2 ^ 64} {c = 2 ^ 64} {n = 4294967294} {m = 0} {r = rows_to b n} (get_or (lines_of (rows_to b n)) p [], s) w (widen q (omega arith) (omega arith)) (le-add_right 1 (2 ^ 128 - 2 * 2 ^ 64 - 1)))

pub two-takes : (r : Report) → AllWithin (2 ^ 128 - 2 * 2 ^ 64) 4294967294 r → Takes r
two-takes r h x i = widen {b = 2 ^ 128 - 2 * 2 ^ 64} {c = 2 ^ 128 - 2 ^ 64} {n = 4294967294} {m = 4294967294} (h x i) (le-add_right (2 ^ 128 - 2 * 2 ^ 64) (2 ^ 64)) (omega arith)

-- the three parts, by an amount and a fee
abbrev pub whole_by : ℕ → ℕ → Sums
whole_by x f = record { debits = x; credits = x - f; fees = f; apart = 0 }

abbrev pub source_by : ℕ → Sums
source_by x = record { debits = x; credits = 0; fees = 0; apart = 0 }

abbrev pub destination_by : ℕ → ℕ → Sums
destination_by x f = record { debits = 0; credits = x - f; fees = f; apart = 0 }

-- counted apart: one row
pub one-fed : (b c : List ℕ) (n p : ℕ) (t : FedTransfer) → Stands b n → summed t ≡ false → get_or (lines_of (rows_to b n)) p [] ≡ own t
    → rows_to c n ≡ add_row (rows_to b n) (get_or (lines_of (rows_to b n)) p [], apart_part) → rows_to c n ≡ fed_into (rows_to b n) (t ∷ [])
one-fed b c n p t st s g e = e ∙ ap (λ (k : Line). add_row (rows_to b n) (k, apart_part)) g ∙ sym (fed-one t st.sorted s)

-- a fee of a summed transfer is not above its amount
pub fee-most : (s : List ℕ) (i x f : ℕ) → summed (fed_at s i) ≡ true → x ≡ le 8 s (i * 150 + 133) → f ≡ le 8 s (i * 150 + 142) → f ≤ x
fee-most s i x f e p q = omega (arith, leb-true (le 8 s (i * 150 + 142)) (le 8 s (i * 150 + 133)) (summed-fee s (i * 150) e).1)

-- summed: three rows
three-parts : (r : Report) (s : List ℕ) (i x f : ℕ) → Sorted r → summed (fed_at s i) ≡ true → x ≡ le 8 s (i * 150 + 133) → f ≡ le 8 s (i * 150 + 142)
    → fed_into r (fed_at s i ∷ []) ≡ add_row (add_row (add_row r (own (fed_at s i), whole_by x f)) (source_line (fed_at s i), source_by x)) (destination_line (fed_at s i), destination_by x f)
unfolding transfer_at
three-parts r s i x f a e p q =
    let t = fed_at s i in
    let am : (transfer_at s (i * 150)).amount ≡ x = sym p in
    let fe : withheld (transfer_at s (i * 150)) ≡ f = (summed-fee s (i * 150) e).0 ∙ sym q in
    let re : rest_of (transfer_at s (i * 150)) ≡ x - f = summed-rest s (i * 150) e ∙ ap₂ (λ (u : ℕ) (v : ℕ). u - v) (sym p) (sym q) in
    let w : whole_part t ≡ whole_by x f = sums-eq am re fe refl in
    let so : source_part t ≡ source_by x = sums-eq am refl refl refl in
    let de : destination_part t ≡ destination_by x f = sums-eq refl re fe refl in
    fed-three t a e
    ∙ ap (λ (z : Sums). add_row (add_row (add_row r (own t, z)) (source_line t, source_part t)) (destination_line t, destination_part t)) w
    ∙ ap (λ (z : Sums). add_row (add_row (add_row r (own t, whole_by x f)) (source_line t, z)) (destination_line t, destination_part t)) so
    ∙ ap (λ (z : Sums). add_row (add_row (add_row r (own t, whole_by x f)) (source_line t, source_by x)) (destination_line t, z)) de

pub three-fed : (b b1 b2 b3 : List ℕ) (n p1 p2 p3 : ℕ) (s : List ℕ) (i x f : ℕ) → Stands b n → p1 < n → p2 < n → length b1 ≡ length b
    → summed (fed_at s i) ≡ true → x ≡ le 8 s (i * 150 + 133) → f ≡ le 8 s (i * 150 + 142)
    → get_or (lines_of (rows_to b n)) p1 [] ≡ own (fed_at s i)
    → get_or (lines_of (rows_to b n)) p2 [] ≡ source_line (fed_at s i)
    → get_or (lines_of (rows_to b n)) p3 [] ≡ destination_line (fed_at s i)
    → rows_to b1 n ≡ add_row (rows_to b n) (get_or (lines_of (rows_to b n)) p1 [], whole_by x f)
    → rows_to b2 n ≡ add_row (rows_to b1 n) (get_or (lines_of (rows_to b1 n)) p2 [], source_by x)
    → rows_to b3 n ≡ add_row (rows_to b2 n) (get_or (lines_of (rows_to b2 n)) p3 [], destination_by x f)
    → rows_to b3 n ≡ fed_into (rows_to b n) (fed_at s i ∷ [])
three-fed b b1 b2 b3 n p1 p2 p3 s i x f st h1 h2 l e px pf g1 g2 g3 e1 e2 e3 =
    let t = fed_at s i in
    let k1 : lines_of (rows_to b1 n) ≡ lines_of (rows_to b n) = lines-kept b b1 n p1 (whole_by x f) h1 st l e1 in
    let st1 : Stands b1 n = add-stands b b1 n p1 (whole_by x f) h1 st l e1 in
    let k2 : lines_of (rows_to b2 n) ≡ lines_of (rows_to b n) = ap lines_of e2 ∙ add-keeps (rows_to b1 n) p2 (source_by x) st1.sorted (omega (arith, rows-length b1 n)) ∙ k1 in
    let f1 : rows_to b1 n ≡ add_row (rows_to b n) (own t, whole_by x f) = e1 ∙ ap (λ (k : Line). add_row (rows_to b n) (k, whole_by x f)) g1 in
    let f2 : rows_to b2 n ≡ add_row (add_row (rows_to b n) (own t, whole_by x f)) (source_line t, source_by x) =
    e2 ∙ ap₂ (λ (r : Report) (k : Line). add_row r (k, source_by x)) f1 (ap (λ (m : List Line). get_or m p2 []) k1 ∙ g2) in
    e3
    ∙ ap₂ (λ (r : Report) (k : Line). add_row r (k, destination_by x f)) f2 (ap (λ (m : List Line). get_or m p3 []) k2 ∙ g3)
    ∙ sym (three-parts (rows_to b n) s i x f st.sorted e px pf)
