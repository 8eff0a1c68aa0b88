-- The tests of a report, and that a report made by feeding always passes them. Assumes nothing.
use Rattle.std.proofs.Common.{◌≡◌, ℕ, ◌/◌, ◌^◌, ◌≤◌, true, ◌&&◌, ltb, leb, List, [], ◌∷◌, ◌++◌, length, get_or, refl, ⊎_elim, lt_of_lt_of_le, arith, ltb-true, lt-ltb, le-leb, leb-true}
use mathlib.Core.List.Memᴰ
use mathlib.Core.List.{Memᴰ}
use Rattle.wire.proofs.Below.{and_left, and_right}
use Rattle.wire.specs.Order.{Below, lt_key}
use Rattle.wire.specs.Ascending.{asc_nil, asc_cons}
use Rattle.month.specs.Transfers.{FedTransfer, account_flag, AllFormed}
use Rattle.month.specs.Sums.{Within}
use Rattle.month.specs.Report.{ReportRow, Report, used, Sorted, Lined, report_of}
use Rattle.month.specs.Bytes.{rows_to, rises, good_row, good_rows, good_report, written_report}
use Rattle.wire.proofs.Order.{below-trans, lt_key-below, lt_key-true}
use Rattle.month.proofs.Reports.{report-sorted}
use Rattle.month.proofs.Bound.{AllWithin, report-within, report-lined}
use Rattle.month.proofs.Reading.{AllFit, read-written, written-length}

-- each line below the next: each below all that follow
pub rises_sorted : (r : Report) → rises r ≡ true → Sorted r
unfolding rises
rises_sorted [] e = asc_nil
rises_sorted (x ∷ []) e = asc_cons (λ y i. absurd (Memᴰ.not-nil i)) asc_nil
rises_sorted (x ∷ y ∷ r) e =
    go (lt_key-true x.0 y.0 (and_left (lt_key x.0 y.0) (rises (y ∷ r)) e)) (rises_sorted (y ∷ r) (and_right (lt_key x.0 y.0) (rises (y ∷ r)) e))
  where
    after : Below x.0 y.0 → Sorted (y ∷ r) → (z : ReportRow) → Memᴰ z (y ∷ r) → Below x.0 z.0
    after h s z (Memᴰ.head q) = rw q h
    after h (asc_cons f s) z (Memᴰ.tail i) = below-trans h (f z i)

    go : Below x.0 y.0 → Sorted (y ∷ r) → Sorted (x ∷ y ∷ r)
    go h s = asc_cons (after h s) s

pub sorted_rises : {r : Report} → Sorted r → rises r ≡ true
unfolding rises
sorted_rises asc_nil = refl
sorted_rises (asc_cons f asc_nil) = refl
sorted_rises (asc_cons f (asc_cons {r = y} {t = r} g s)) = rw (lt_key-below (f y (Memᴰ.head refl))) (sorted_rises {r = y ∷ r} (asc_cons g s))

-- a good row, and back
pub good-within : (m : ℕ) (x : ReportRow) → good_row m x ≡ true → Within (2 ^ 96) m x.1
unfolding good_row
good-within m x e =
    let d = ltb x.1.debits (2 ^ 96) in
    let c = ltb x.1.credits (2 ^ 96) in
    let f = ltb x.1.fees (2 ^ 96) in
    let a = leb x.1.apart m in
    let e1 = and_right (leb (get_or x.0 0 0) 1) (leb (account_flag x.0) 1 && (d && (c && (f && a)))) e in
    let e2 = and_right (leb (account_flag x.0) 1) (d && (c && (f && a))) e1 in
    let e3 = and_right d (c && (f && a)) e2 in
    let e4 = and_right c (f && a) e3 in
    record {
      debits_below = ltb-true _ _ (and_left d (c && (f && a)) e2);
      credits_below = ltb-true _ _ (and_left c (f && a) e3);
      fees_below = ltb-true _ _ (and_left f a e4);
      apart_most = leb-true _ _ (and_right f a e4);
    }

pub within-good : (m : ℕ) (x : ReportRow) → Lined x.0 → Within (2 ^ 96) m x.1 → good_row m x ≡ true
unfolding good_row
within-good m x l w =
    rw (le-leb _ _ l.line_mint, le-leb _ _ l.line_account, lt-ltb _ _ w.debits_below, lt-ltb _ _ w.credits_below, lt-ltb _ _ w.fees_below, le-leb _ _ w.apart_most)

pub good-all : (m : ℕ) (r : Report) → good_rows m r ≡ true → AllWithin (2 ^ 96) m r
unfolding good_rows
good-all m [] e x i = absurd (Memᴰ.not-nil i)
good-all m (y ∷ r) e x (Memᴰ.head q) = rw q (good-within m y (and_left (good_row m y) (good_rows m r) e))
good-all m (y ∷ r) e x (Memᴰ.tail i) = good-all m r (and_right (good_row m y) (good_rows m r) e) x i

pub all-good : (m : ℕ) (r : Report) → ((x : ReportRow) → Memᴰ x r → Lined x.0) → AllWithin (2 ^ 96) m r → good_rows m r ≡ true
unfolding good_rows
all-good m [] l w = refl
all-good m (x ∷ r) l w =
    rw (within-good m x (l x (Memᴰ.head refl)) (w x (Memᴰ.head refl)))
    (all-good m r (λ y i. l y (Memᴰ.tail i)) (λ y i. w y (Memᴰ.tail i)))

-- a report that passes the tests is sorted, and holds sums below 2 to the 96th
pub report-passed : (b : List ℕ) (n m : ℕ) → good_report b n m ≡ true → (n ≤ length b / 118) × Sorted (rows_to b n) × AllWithin (2 ^ 96) m (rows_to b n)
unfolding good_report
report-passed b n m e =
    let room = leb n (length b / 118) in
    let up = rises (rows_to b n) in
    let good = good_rows m (rows_to b n) in
    let rest = and_right room (up && good) e in
    (leb-true _ _ (and_left room (up && good) e), rises_sorted (rows_to b n) (and_left up good rest), good-all m (rows_to b n) (and_right up good rest))

-- the rows of a report of transfers are told by their bytes
pub report-fits : (ts : List FedTransfer) → AllFormed ts → length ts ≤ 4294967295 → AllFit (report_of ts)
report-fits ts h n x i =
    let w = report-within ts h n i in
    let wide = leb-true (2 ^ 96) (256 ^ 16) refl in
    record {
      fits_line = (report-lined ts h (Memᴰ.map (λ (y : ReportRow). y.0) i)).line_bytes;
      fits_debits = lt_of_lt_of_le w.debits_below wide;
      fits_credits = lt_of_lt_of_le w.credits_below wide;
      fits_fees = lt_of_lt_of_le w.fees_below wide;
      fits_apart = omega (arith, w.apart_most);
    }

-- written, it passes the tests
pub report-passes : (us : List FedTransfer) (size : ℕ) → AllFormed us → length us ≤ 4294967295 → used (report_of us) ≤ size / 118
    → good_report (written_report (report_of us) size) (used (report_of us)) (length us) ≡ true
unfolding good_report
report-passes us size h n room =
    let f = report-fits us h n in
    rw (written-length (report_of us) size f (omega arith), read-written (report_of us) size f, le-leb _ _ room, sorted_rises (report-sorted us))
    (all-good (length us) (report_of us) (λ x i. report-lined us h (Memᴰ.map (λ (y : ReportRow). y.0) i)) (λ x i. report-within us h n i))

pub formed-both : (us ts : List FedTransfer) → AllFormed us → AllFormed ts → AllFormed (us ++ ts)
formed-both us ts h k t i = ⊎_elim (λ j. h t j) (λ j. k t j) (Memᴰ.append_cases us i)
