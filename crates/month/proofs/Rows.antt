-- How many rows a report has after feeding, counted without feeding. Assumes nothing.
use Rattle.std.proofs.Common.{◌≡◌, ◌+◌, ◌≤◌, true, false, ◌⊎◌, List, [], ◌∷◌, ◌++◌, sym, refl, ap, ◌∙◌, inl, inr, arith}
use mathlib.Core.Bool.{or-true}
use mathlib.Core.List.{Memᴰ}
use Rattle.wire.specs.Same.{same}
use Rattle.wire.proofs.Same.{same-eq, same-ne}
use Rattle.month.specs.Transfers.{FedTransfer, Line}
use Rattle.month.specs.Report.{ReportRow, Report, used, lines_of, Sorted, lines_in, fed_into}
use Rattle.month.specs.Adding.{add_row, add_rows, parts_in, among, new_in}
use Rattle.wire.specs.Members.{SameMembers}
use Rattle.month.proofs.Tables.{mem?}
use Rattle.month.proofs.Parts.{parts-lines}
use Rattle.month.proofs.Reports.{fed-fed, fed-sorted}
use Rattle.month.proofs.Adding.{add-sorted, add-lines, add-again, add-new, fed-adds, fed-grows}

-- the test of membership
pub among_in : {k : Line} {l : List Line} → Memᴰ k l → among k l ≡ true
unfolding among
among_in (Memᴰ.head e) = rw (same-eq e)
among_in {k} (Memᴰ.tail {x} i) = rw (among_in i, or-true (same k x))

pub among-out : (k : Line) (l : List Line) → (¬ Memᴰ k l) → among k l ≡ false
unfolding among
among-out k [] n = refl
among-out k (x ∷ l) n = rw (same-ne (λ e. n (Memᴰ.head e)), among-out k l (λ i. n (Memᴰ.tail i)))

among-alike : (k : Line) {l m : List Line} → SameMembers l m → among k l ≡ among k m
among-alike k {l} {m} s = go (mem? k l)
  where
    go : Memᴰ k l ⊎ (¬ Memᴰ k l) → among k l ≡ among k m
    go (inl i) = among_in i ∙ sym (among_in (s.to i))
    go (inr n) = among-out k l n ∙ sym (among-out k m (λ i. n (s.from i)))

more : {l m : List Line} (k : Line) → SameMembers l m → SameMembers (k ∷ l) (k ∷ m)
more {l} {m} k s = record { to = λ i. to i; from = λ i. from i }
  where
    to : {x : Line} → Memᴰ x (k ∷ l) → Memᴰ x (k ∷ m)
    to (Memᴰ.head e) = Memᴰ.head e
    to (Memᴰ.tail i) = Memᴰ.tail (s.to i)

    from : {x : Line} → Memᴰ x (k ∷ m) → Memᴰ x (k ∷ l)
    from (Memᴰ.head e) = Memᴰ.head e
    from (Memᴰ.tail i) = Memᴰ.tail (s.from i)

new-alike : (l : List Line) {s t : List Line} → SameMembers s t → new_in s l ≡ new_in t l
unfolding new_in
new-alike [] m = refl
new-alike (k ∷ l) m = rw (among-alike k m, new-alike l (more k m))

add-used : {r : Report} (e : ReportRow) → Sorted r → used (add_row r e) ≡ new_in (lines_of r) (e.0 ∷ []) + used r
unfolding new_in
add-used {r} e a = go (mem? e.0 (lines_of r))
  where
    go : Memᴰ e.0 (lines_of r) ⊎ (¬ Memᴰ e.0 (lines_of r)) → used (add_row r e) ≡ new_in (lines_of r) (e.0 ∷ []) + used r
    go (inl i) = rw (among_in i) (omega (arith, add-again e a i))
    go (inr n) = rw (among-out e.0 (lines_of r) n) (omega (arith, add-new r e n))

-- rows added one after the other: one more for each line that is new
pub add-all-used : {r : Report} (es : List ReportRow) → Sorted r → used (add_rows r es) ≡ used r + new_in (lines_of r) (lines_of es)
unfolding add_rows new_in
add-all-used [] a = omega arith
add-all-used {r} (e ∷ es) a = omega (arith, add-all-used {r = add_row r e} es (add-sorted e a), add-used e a, new-alike (lines_of es) (add-lines r e))

-- the rows used after feeding
pub fed-used : {r : Report} (ts : List FedTransfer) → Sorted r → used (fed_into r ts) ≡ used r + new_in (lines_of r) (lines_in ts)
fed-used {r} ts a = ap used (sym (fed-adds ts a)) ∙ add-all-used (parts_in ts) a ∙ ap (λ (l : List Line). used r + new_in (lines_of r) l) (parts-lines ts)

-- on the way there are never more
pub fed-part-used : (r : Report) (us ts : List FedTransfer) → used (fed_into r us) ≤ used (fed_into r (us ++ ts))
fed-part-used r us ts = omega (arith, fed-grows ts (fed-sorted r us), ap used (fed-fed r us ts))
