-- For code: one transfer fed is three rows added, or two, or one; rows added in either order; a row added at a place. Assumes nothing.
use Rattle.std.proofs.Common.{◌≡◌, ℕ, zero, suc, ◌<◌, ◌≤◌, true, false, List, [], ◌∷◌, ◌++◌, length, get_or, take, drop, set, sym, refl, ap, ◌∙◌, append-nil, le_of_suc-le-suc, not-suc-le-zero, arith}
use mathlib.Core.List.{Memᴰ}
use Rattle.wire.proofs.Same.{same-eq, same-ne}
use Rattle.wire.specs.Order.{Below}
use Rattle.month.specs.Transfers.{FedTransfer, summed, Line, own, source_line, destination_line}
use Rattle.month.specs.Sums.{plus}
use Rattle.month.specs.Report.{ReportRow, Report, lines_of, Sorted, held_on, fed_into}
use Rattle.month.specs.Adding.{add_row, add_rows, whole_part, source_part, destination_part, apart_part, parts_of, parts_in}
use Rattle.wire.proofs.Order.{below-differ, lt_key-below, lt_key-above, lt_key-level}
use Rattle.month.proofs.Adds.{plus_comm, plus_assoc, share}
use Rattle.month.proofs.Tables.{report-unique}
use Rattle.month.proofs.Reports.{fed-fed}
use Rattle.month.proofs.Adding.{add-sorted, add-held, add-lines, fed-adds}

-- two rows are added in either order
pub add_comm : {r : Report} (e f : ReportRow) → Sorted r → add_row (add_row r e) f ≡ add_row (add_row r f) e
add_comm {r} e f a = report-unique (add-sorted f (add-sorted e a)) (add-sorted e (add-sorted f a)) (record { to = λ i. turn e f i; from = λ i. turn f e i }) each
  where
    front : {k : Line} (g h : ReportRow) → Memᴰ k (h.0 ∷ lines_of (add_row r g)) → Memᴰ k (lines_of (add_row (add_row r h) g))
    front g h (Memᴰ.head q) = (add-lines (add_row r h) g).from (Memᴰ.tail ((add-lines r h).from (Memᴰ.head q)))
    front g h (Memᴰ.tail i) = under g h ((add-lines r g).to i)
      where
        under : {k : Line} (g h : ReportRow) → Memᴰ k (g.0 ∷ lines_of r) → Memᴰ k (lines_of (add_row (add_row r h) g))
        under g h (Memᴰ.head q) = (add-lines (add_row r h) g).from (Memᴰ.head q)
        under g h (Memᴰ.tail i) = (add-lines (add_row r h) g).from (Memᴰ.tail ((add-lines r h).from (Memᴰ.tail i)))

    turn : {k : Line} (g h : ReportRow) → Memᴰ k (lines_of (add_row (add_row r g) h)) → Memᴰ k (lines_of (add_row (add_row r h) g))
    turn g h i = front g h ((add-lines (add_row r g) h).to i)

    each : (k : Line) → held_on k (add_row (add_row r e) f) ≡ held_on k (add_row (add_row r f) e)
    each k =
        rw (add-held k (add_row r e) f, add-held k r e, add-held k (add_row r f) e, add-held k r f)
        (plus_assoc (held_on k r) (share k e) (share k f)
        ∙ ap (plus (held_on k r)) (plus_comm (share k e) (share k f))
        ∙ sym (plus_assoc (held_on k r) (share k f) (share k e)))

-- the first of some transfers, then the others
pub fed-cons : (r : Report) (t : FedTransfer) (ts : List FedTransfer) → fed_into r (t ∷ ts) ≡ fed_into (fed_into r (t ∷ [])) ts
fed-cons r t ts = sym (fed-fed r (t ∷ []) ts)

-- one transfer is its parts
pub fed-parts : {r : Report} (t : FedTransfer) → Sorted r → fed_into r (t ∷ []) ≡ add_rows r (parts_of t)
unfolding parts_in
fed-parts {r} t a = sym (fed-adds (t ∷ []) a) ∙ ap (add_rows r) (append-nil (parts_of t))

-- summed: three rows
pub fed-three : {r : Report} (t : FedTransfer) → Sorted r → summed t ≡ true
    → fed_into r (t ∷ []) ≡ add_row (add_row (add_row r (own t, whole_part t)) (source_line t, source_part t)) (destination_line t, destination_part t)
unfolding parts_of add_rows
fed-three t a e = fed-parts t a ∙ rw e

-- counted apart: one row
pub fed-one : {r : Report} (t : FedTransfer) → Sorted r → summed t ≡ false → fed_into r (t ∷ []) ≡ add_row r (own t, apart_part)
unfolding parts_of add_rows
fed-one t a e = fed-parts t a ∙ rw e

-- a new line at place j: all before are below it, and the one there is above
pub add_at : (r : Report) (e d : ReportRow) (j : ℕ) → j ≤ length r
    → ((i : ℕ) → i < j → Below (get_or r i d).0 e.0)
    → (j < length r → Below e.0 (get_or r j d).0)
    → add_row r e ≡ take j r ++ (e ∷ drop j r)
unfolding add_row
add_at [] e d zero h f g = refl
add_at [] e d (suc j) h f g = absurd (not-suc-le-zero h)
add_at (x ∷ r) e d zero h f g = rw (lt_key-below (g (omega arith)))
add_at (x ∷ r) e d (suc j) h f g =
    rw (lt_key-above (f 0 (omega arith)), same-ne (λ q. below-differ (f 0 (omega arith)) (sym q)))
    (ap (λ (s : Report). x ∷ s) (add_at r e d j (le_of_suc-le-suc h) (λ i k. f (suc i) (omega arith)) (λ k. g (omega arith))))

-- a line that stands at place j: its row takes the sums
pub add-on : (r : Report) (e d : ReportRow) (j : ℕ) → j < length r
    → ((i : ℕ) → i < j → Below (get_or r i d).0 e.0)
    → e.0 ≡ (get_or r j d).0
    → add_row r e ≡ set r j ((get_or r j d).0, plus (get_or r j d).1 e.1)
unfolding add_row
add-on [] e d j h f q = absurd (not-suc-le-zero h)
add-on (x ∷ r) e d zero h f q = rw (lt_key-level q, same-eq q)
add-on (x ∷ r) e d (suc j) h f q =
    rw (lt_key-above (f 0 (omega arith)), same-ne (λ p. below-differ (f 0 (omega arith)) (sym p)))
    (ap (λ (s : Report). x ∷ s) (add-on r e d j (le_of_suc-le-suc h) (λ i k. f (suc i) (omega arith)) q))
