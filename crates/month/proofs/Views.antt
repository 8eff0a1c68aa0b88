-- The rows of a buffer by their places, and rows that ascend by theirs: each row is told by its own 118 bytes. Assumes nothing.
use Rattle.std.proofs.Common.{◌≡◌, ℕ, zero, suc, ◌+◌, ◌*◌, ◌<◌, ◌≤◌, List, [], ◌∷◌, ◌++◌, length, get_or, take, drop, set, sym, refl, ap, ◌∙◌, ⊎_elim, le_of_suc-le-suc, not-suc-le-zero, add_assoc, suc-add, eq-or-lt_of_le, zero-add, arith, length-append, length-drop, length-set, length-take-le, get_or-drop, get_or-set_other, get_or-take, get_or-set_same, take-take, take_at, ext_get_or}
use mathlib.Core.Path.{Σ_path}
use mathlib.Core.Logic.{by_cases}
use mathlib.Core.List.{Memᴰ}
use native.Mathlib.Decide.{ℕ_discrete, dec_lt}
use lib.ListN.{length-map, get_or-append, get_or-map}
use lib.Seq.{sets, length-sets, get_or_at, take-length, take-nil}
use Rattle.wire.specs.Le.{le}
use Rattle.wire.specs.Order.{Below}
use Rattle.wire.specs.Ascending.{Ascending, asc_nil, asc_cons}
use Rattle.wire.proofs.Sets.{sets-before, sets-in, sets-after}
use Rattle.month.specs.Sums.{nothing}
use Rattle.month.specs.Report.{ReportRow, Report, lines_of}
use Rattle.month.specs.Bytes.{report_row_at, rows_to, report_row_bytes}
use Rattle.month.proofs.Adds.{sums-eq}
use Rattle.month.proofs.Reading.{Fits, row-length, row-front}

-- as many rows as are asked for
pub rows-length : (b : List ℕ) (n : ℕ) → length (rows_to b n) ≡ n
unfolding rows_to
rows-length b zero = refl
rows-length b (suc n) = omega (arith, length-append (rows_to b n) (report_row_at b (n * 118) ∷ []), rows-length b n)

pub lines-length : (b : List ℕ) (n : ℕ) → length (lines_of (rows_to b n)) ≡ n
lines-length b n = length-map (rows_to b n) (λ x. x.0) ∙ rows-length b n

-- the row at a place
pub row_at : (b : List ℕ) (n j : ℕ) (d : ReportRow) → j < n → get_or (rows_to b n) j d ≡ report_row_at b (j * 118)
unfolding rows_to
row_at b zero j d h = absurd (not-suc-le-zero h)
row_at b (suc n) j d h =
    ⊎_elim
    (λ (e : j ≡ n). rw e (get_or_at (rows_to b n) (report_row_at b (n * 118)) [] d n (rows-length b n)))
    (λ (l : j < n). get_or-append (rows_to b n) (report_row_at b (n * 118) ∷ []) d j (omega (arith, rows-length b n)) ∙ row_at b n j d l)
    (eq-or-lt_of_le (le_of_suc-le-suc h))

-- and its line
pub line_at : (b : List ℕ) (n j : ℕ) → j < n → get_or (lines_of (rows_to b n)) j [] ≡ take 66 (drop (j * 118) b)
unfolding report_row_at
line_at b n j h = get_or-map (λ (x : ReportRow). x.0) (rows_to b n) j ([], nothing) ∙ ap (λ (x : ReportRow). x.0) (row_at b n j ([], nothing) h)

-- a report that has the same row at each place
pub rows_are : (b : List ℕ) (n : ℕ) (r : Report) (d : ReportRow) → length r ≡ n → ((j : ℕ) → j < n → report_row_at b (j * 118) ≡ get_or r j d) → rows_to b n ≡ r
rows_are b n r d e f =
    ext_get_or d (rows_to b n) r (rows-length b n ∙ sym e) (λ j h. row_at b n j d (omega (arith, rows-length b n)) ∙ f j (omega (arith, rows-length b n)))

pub rows_same : (b c : List ℕ) (n : ℕ) → ((j : ℕ) → j < n → report_row_at b (j * 118) ≡ report_row_at c (j * 118)) → rows_to b n ≡ rows_to c n
rows_same b c n f = rows_are b n (rows_to c n) ([], nothing) (rows-length c n) (λ j h. f j h ∙ sym (row_at c n j ([], nothing) h))

-- the first rows of some
pub rows-part : (b : List ℕ) (n k : ℕ) → k ≤ n → take k (rows_to b n) ≡ rows_to b k
rows-part b n k h =
    sym (rows_are b k (take k (rows_to b n)) ([], nothing) (length-take-le k (rows_to b n) (omega (arith, rows-length b n)))
    (λ j l. sym (get_or-take k (rows_to b n) j ([], nothing) l ∙ row_at b n j ([], nothing) (omega arith))))

-- a number by its bytes, wherever they stand
pub le-moved : (n : ℕ) (s t : List ℕ) (a b : ℕ) → ((k : ℕ) → k < n → get_or s (a + k) 0 ≡ get_or t (b + k) 0) → le n s a ≡ le n t b
unfolding le
le-moved zero s t a b f = refl
le-moved (suc n) s t a b f = rw (le-moved n s t a b (λ k h. f k (omega arith)), f n (omega arith))

-- equal runs, by their bytes
at-run : (n : ℕ) (s t : List ℕ) (a b : ℕ) → take n (drop a s) ≡ take n (drop b t) → (k : ℕ) → k < n → get_or s (a + k) 0 ≡ get_or t (b + k) 0
at-run n s t a b e k h =
    sym (get_or-drop a s k 0) ∙ sym (get_or-take n (drop a s) k 0 h) ∙ ap (λ (l : List ℕ). get_or l k 0) e ∙ get_or-take n (drop b t) k 0 h ∙ get_or-drop b t k 0

pub run-by-bytes : (n : ℕ) (s t : List ℕ) (a b : ℕ) → a + n ≤ length s → b + n ≤ length t → ((k : ℕ) → k < n → get_or s (a + k) 0 ≡ get_or t (b + k) 0)
    → take n (drop a s) ≡ take n (drop b t)
run-by-bytes n s t a b h l f =
    let p = length-take-le n (drop a s) (omega (arith, length-drop a s)) in
    let q = length-take-le n (drop b t) (omega (arith, length-drop b t)) in
    ext_get_or 0 (take n (drop a s)) (take n (drop b t)) (p ∙ sym q)
    (λ k i. get_or-take n (drop a s) k 0 (omega (arith, p)) ∙ get_or-drop a s k 0 ∙ f k (omega (arith, p)) ∙ sym (get_or-drop b t k 0) ∙ sym (get_or-take n (drop b t) k 0 (omega (arith, p))))

-- a row is told by its 118 bytes, wherever they stand
pub row_moved : (s t : List ℕ) (a b : ℕ) → take 118 (drop a s) ≡ take 118 (drop b t) → report_row_at s a ≡ report_row_at t b
unfolding report_row_at
row_moved s t a b e =
    Σ_path
    (sym (take-take 66 118 (drop a s) (omega arith)) ∙ ap (take 66) e ∙ take-take 66 118 (drop b t) (omega arith))
    (sums-eq (field 16 66 (omega arith)) (field 16 82 (omega arith)) (field 16 98 (omega arith)) (field 4 114 (omega arith)))
  where
    field : (n o : ℕ) → o + n ≤ 118 → le n s (a + o) ≡ le n t (b + o)
    field n o h = le-moved n s t (a + o) (b + o) (λ k l. rw (add_assoc a o k, add_assoc b o k) (at-run 118 s t a b e (o + k) (omega arith)))

pub row-by-bytes : (s t : List ℕ) (a b : ℕ) → a + 118 ≤ length s → b + 118 ≤ length t → ((k : ℕ) → k < 118 → get_or s (a + k) 0 ≡ get_or t (b + k) 0)
    → report_row_at s a ≡ report_row_at t b
row-by-bytes s t a b h l f = row_moved s t a b (run-by-bytes 118 s t a b h l f)

-- a part of a front
pub drop-take : {A : Type 0} (n m : ℕ) (l : List A) → drop n (take (n + m) l) ≡ take m (drop n l)
drop-take zero m l = ap (λ (k : ℕ). take k l) (zero-add m)
drop-take (suc n) m [] = rw suc-add (sym (take-nil m))
drop-take (suc n) m (x ∷ l) = rw suc-add (drop-take n m l)

-- a row that its bytes tell, read where they stand
pub row-stored : (s : List ℕ) (at : ℕ) {x : ReportRow} → Fits x → take 118 (drop at s) ≡ report_row_bytes x → report_row_at s at ≡ x
row-stored s at {x} f e =
    row_moved s (report_row_bytes x ++ []) at 0 (e ∙ sym (take_at (report_row_bytes x) [] 118 (row-length f))) ∙ row-front [] f

-- what was stored, read as a run
pub run-stored : (l : List ℕ) (i : ℕ) (vs : List ℕ) (n : ℕ) → length vs ≡ n → i + n ≤ length l → take n (drop i (sets l i vs)) ≡ vs
run-stored l i vs n e h =
    run-by-bytes n (sets l i vs) vs i 0 (omega (arith, length-sets l i vs)) (omega arith)
    (λ k j. sets-in l i vs k (omega arith) (omega arith) ∙ ap (λ (m : ℕ). get_or vs m 0) (sym (zero-add k)))
    ∙ ap (λ (m : ℕ). take m vs) (sym e)
    ∙ take-length vs

-- a row stored over another
pub rows-set : (b : List ℕ) (n p : ℕ) (x : ReportRow) → p < n → n * 118 ≤ length b → Fits x → rows_to (sets b (p * 118) (report_row_bytes x)) n ≡ set (rows_to b n) p x
rows-set b n p x h l f = rows_are c n (set (rows_to b n) p x) d (length-set (rows_to b n) p x ∙ rows-length b n) each
  where
    d : ReportRow
    d = ([], nothing)

    c : List ℕ
    c = sets b (p * 118) (report_row_bytes x)

    long : length c ≡ length b
    long = length-sets b (p * 118) (report_row_bytes x)

    each : (j : ℕ) → j < n → report_row_at c (j * 118) ≡ get_or (set (rows_to b n) p x) j d
    each j k =
        by_cases
        (ℕ_discrete j p)
        (λ (e : j ≡ p).
        rw e (row-stored c (p * 118) f (run-stored b (p * 118) (report_row_bytes x) 118 (row-length f) (omega arith))
        ∙ sym (get_or-set_same (rows_to b n) p x d (omega (arith, rows-length b n)))))
        (λ (e : ¬ (j ≡ p)).
        row-by-bytes c b (j * 118) (j * 118) (omega (arith, long)) (omega arith) (λ m q. apart j m k q e)
        ∙ sym (get_or-set_other (rows_to b n) p j x d e ∙ row_at b n j d k))
      where
        apart : (j m : ℕ) → j < n → m < 118 → ¬ (j ≡ p) → get_or c (j * 118 + m) 0 ≡ get_or b (j * 118 + m) 0
        apart j m k q e =
            by_cases
            (dec_lt j p)
            (λ (g : j < p). sets-before b (p * 118) (report_row_bytes x) (j * 118 + m) (omega arith))
            (λ (g : ¬ (j < p)). sets-after b (p * 118) (report_row_bytes x) (j * 118 + m) (omega (arith, row-length f)))

pub mem-at : {A : Type 0} (l : List A) (d : A) (i : ℕ) → i < length l → Memᴰ (get_or l i d) l
mem-at [] d i h = absurd (not-suc-le-zero h)
mem-at (x ∷ l) d zero h = Memᴰ.head refl
mem-at (x ∷ l) d (suc i) h = Memᴰ.tail (mem-at l d i (le_of_suc-le-suc h))

-- what ascends, by its places
pub ascend-at : {A : Type 0} {key : A → List ℕ} {l : List A} (d : A) (i j : ℕ) → Ascending key l → i < j → j < length l → Below (key (get_or l i d)) (key (get_or l j d))
ascend-at d i j asc_nil h k = absurd (not-suc-le-zero k)
ascend-at d i zero (asc_cons f s) h k = absurd (not-suc-le-zero h)
ascend-at d zero (suc j) (asc_cons {t = t} f s) h k = f (get_or t j d) (mem-at t d j (le_of_suc-le-suc k))
ascend-at d (suc i) (suc j) (asc_cons f s) h k = ascend-at d i j s (le_of_suc-le-suc h) (le_of_suc-le-suc k)
