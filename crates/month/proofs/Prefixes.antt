-- A test that the first rows fail, all rows fail; and the tests of one row more. Assumes nothing.
use Rattle.std.proofs.Common.{◌≡◌, ℕ, zero, suc, ◌+◌, ◌-◌, ◌*◌, ◌/◌, ◌%◌, ◌^◌, ◌<◌, ◌≤◌, Bool, true, false, ◌&&◌, eqb, ltb, leb, List, [], ◌∷◌, ◌++◌, length, get_or, take, drop, sym, refl, ap, ◌∙◌, ⊎_elim, le_of_suc-le-suc, add-zero, eq-or-lt_of_le, arith, get_or-drop, get_or-take, eq-eqb, le-leb}
use mathlib.Core.Bool.{and-true, and-false, and_assoc}
use native.Mathlib.Nat.{add-sub_cancel_left}
use Rattle.wire.specs.Le.{le}
use Rattle.wire.specs.Order.{lt_key}
use Rattle.month.specs.Report.{ReportRow, Report}
use Rattle.month.specs.Bytes.{flags_to, good_table, report_row_at, rows_to, rises, good_row, good_rows, good_report}
use Rattle.month.proofs.Reading.{le-lt}
use Rattle.month.proofs.Wide.{wide_read, wide-small}

-- a test of the first n of many, which one more cannot mend
cut : (f : ℕ → Bool) → ((n : ℕ) → f n ≡ false → f (suc n) ≡ false) → (i n : ℕ) → i ≤ n → f i ≡ false → f n ≡ false
cut f step i zero h e = let z : i ≡ zero = omega arith in rw z at e
cut f step i (suc n) h e =
    ⊎_elim (λ (p : i ≡ suc n). rw p at e) (λ l. step n (cut f step i n (le_of_suc-le-suc l) e)) (eq-or-lt_of_le h)

-- a bad flag makes a bad table
pub table-cut : (s : List ℕ) (i : ℕ) → i < length s / 150 → (leb (get_or s (i * 150 + 100) 0) 1 && leb (get_or s (i * 150 + 141) 0) 1) ≡ false → good_table s ≡ false
unfolding good_table flags_to
table-cut s i h e =
    let bad : flags_to s (suc i) ≡ false = rw e (and-false (flags_to s i)) in
    rw (cut (flags_to s) (λ n f. rw f) (suc i) (length s / 150) h bad) (and-false (eqb (length s % 150) 0))

-- all flags good
pub table-whole : (s : List ℕ) (i : ℕ) → length s % 150 ≡ 0 → length s / 150 ≡ i → flags_to s i ≡ true → good_table s ≡ true
unfolding good_table
table-whole s i e p f = rw (eq-eqb (length s % 150) 0 e, p, f)

-- a sum is below 2 to the 96th by its high half
pub small-high : (s : List ℕ) (at : ℕ) → ((i : ℕ) → get_or s i 0 < 256) → ltb (le 16 s at) (2 ^ 96) ≡ ltb (le 8 s (at + 8)) 4294967296
small-high s at h = ap (λ (n : ℕ). ltb n (2 ^ 96)) (wide_read s at) ∙ wide-small (le 8 s at) (le 8 s (at + 8)) (le-lt 8 s at h)

-- a byte of a line
line-byte : (s : List ℕ) (at k : ℕ) → k < 66 → get_or (take 66 (drop at s)) k 0 ≡ get_or s (at + k) 0
line-byte s at k h = get_or-take 66 (drop at s) k 0 h ∙ get_or-drop at s k 0

-- the tests of a row, by its bytes
pub row-tests : (m : ℕ) (s : List ℕ) (at : ℕ)
    → good_row m (report_row_at s at)
    ≡ (leb (get_or s at 0) 1
    && (leb (get_or s (at + 33) 0) 1
    && (ltb (le 16 s (at + 66)) (2 ^ 96)
    && (ltb (le 16 s (at + 82)) (2 ^ 96)
    && (ltb (le 16 s (at + 98)) (2 ^ 96) && leb (le 4 s (at + 114)) m)))))
unfolding good_row report_row_at
row-tests m s at = rw (line-byte s at 0 (omega arith), line-byte s at 33 (omega arith), add-zero at)

-- one row more
goods-snoc : (m : ℕ) (r : Report) (x : ReportRow) → good_rows m (r ++ (x ∷ [])) ≡ (good_rows m r && good_row m x)
unfolding good_rows
goods-snoc m [] x = and-true (good_row m x)
goods-snoc m (y ∷ r) x = ap (◌&&◌ (good_row m y)) (goods-snoc m r x) ∙ sym (and_assoc (good_row m y) (good_rows m r) (good_row m x))

pub goods-next : (m : ℕ) (b : List ℕ) (i : ℕ) → good_rows m (rows_to b (suc i)) ≡ (good_rows m (rows_to b i) && good_row m (report_row_at b (i * 118)))
unfolding rows_to
goods-next m b i = goods-snoc m (rows_to b i) (report_row_at b (i * 118))

rises-snoc : (r : Report) (x y : ReportRow) → rises (r ++ (x ∷ []) ++ (y ∷ [])) ≡ (rises (r ++ (x ∷ [])) && lt_key x.0 y.0)
unfolding rises
rises-snoc [] x y = and-true (lt_key x.0 y.0)
rises-snoc (z ∷ []) x y = ap (◌&&◌ (lt_key z.0 x.0)) (rises-snoc [] x y) ∙ sym (and_assoc (lt_key z.0 x.0) true (lt_key x.0 y.0))
rises-snoc (z ∷ w ∷ r) x y =
    ap (◌&&◌ (lt_key z.0 w.0)) (rises-snoc (w ∷ r) x y)
    ∙ sym (and_assoc (lt_key z.0 w.0) (rises ((w ∷ r) ++ (x ∷ []))) (lt_key x.0 y.0))

pub rises_next : (b : List ℕ) (i : ℕ)
    → rises (rows_to b (suc (suc i))) ≡ (rises (rows_to b (suc i)) && lt_key (take 66 (drop (i * 118) b)) (take 66 (drop (suc i * 118) b)))
unfolding rows_to report_row_at
rises_next b i = rises-snoc (rows_to b i) (report_row_at b (i * 118)) (report_row_at b (suc i * 118))

-- two lines that follow each other, where the code has their bytes
pub lines_at : (b : List ℕ) (i : ℕ)
    → lt_key (take (i * 118 + 66 - i * 118) (drop (i * 118) b)) (take (i * 118 + 118 + 66 - (i * 118 + 118)) (drop (i * 118 + 118) b))
    ≡ lt_key (take 66 (drop (i * 118) b)) (take 66 (drop (suc i * 118) b))
lines_at b i =
    let e : i * 118 + 118 ≡ suc i * 118 = omega arith in
    rw (add-sub_cancel_left (i * 118) 66, add-sub_cancel_left (i * 118 + 118) 66, e)

-- the first row and no row rise
pub rises-none : (b : List ℕ) → rises (rows_to b 0) ≡ true
unfolding rows_to rises
rises-none b = refl

pub rises-one : (b : List ℕ) → rises (rows_to b 1) ≡ true
unfolding rows_to rises
rises-one b = refl

pub goods-none : (m : ℕ) (b : List ℕ) → good_rows m (rows_to b 0) ≡ true
unfolding rows_to good_rows
goods-none m b = refl

rises-more : (b : List ℕ) (n : ℕ) → rises (rows_to b n) ≡ false → rises (rows_to b (suc n)) ≡ false
rises-more b zero e = rises-one b ∙ sym (rises-none b) ∙ e
rises-more b (suc n) e = rises_next b n ∙ rw e

-- a bad row makes a bad report
pub report-cut : (b : List ℕ) (n m i : ℕ) → i < n → good_row m (report_row_at b (i * 118)) ≡ false → good_report b n m ≡ false
unfolding good_report
report-cut b n m i h e =
    let bad : good_rows m (rows_to b (suc i)) ≡ false = goods-next m b i ∙ rw e (and-false (good_rows m (rows_to b i))) in
    let all = cut (λ k. good_rows m (rows_to b k)) (λ k f. goods-next m b k ∙ rw f) (suc i) n h bad in
    rw (all, and-false (rises (rows_to b n))) (and-false (leb n (length b / 118)))

-- and so does a line that is not below the next
pub report-falls : (b : List ℕ) (n m i : ℕ) → suc i < n → lt_key (take 66 (drop (i * 118) b)) (take 66 (drop (suc i * 118) b)) ≡ false → good_report b n m ≡ false
unfolding good_report
report-falls b n m i h e =
    let bad : rises (rows_to b (suc (suc i))) ≡ false = rises_next b i ∙ rw e (and-false (rises (rows_to b (suc i)))) in
    rw (cut (λ k. rises (rows_to b k)) (rises-more b) (suc (suc i)) n h bad) (and-false (leb n (length b / 118)))

-- all rows good, and all lines rise
pub report-whole : (b : List ℕ) (n m i : ℕ) → n ≤ length b / 118 → n ≡ i → rises (rows_to b i) ≡ true → good_rows m (rows_to b i) ≡ true → good_report b n m ≡ true
unfolding good_report
report-whole b n m i h p r g = rw (le-leb n (length b / 118) h, p, r, g)
