-- What a call answers, by the tests that it passes or fails, and what a table that passes them all finds. Assumes nothing.
use Rattle.std.proofs.Common.{◌≡◌, ℕ, zero, suc, ◌+◌, ◌-◌, ◌*◌, ◌/◌, ◌^◌, ◌<◌, ◌≤◌, Bool, true, false, ltb, ◌⊎◌, List, [], ◌∷◌, ◌++◌, length, get_or, take, drop, sym, refl, ap, ◌∙◌, ap₂, inl, inr, ⊎_elim, append-nil, mul-le-mul_right, arith, length-append, length-drop, drop_of_length-le, length-take-le, ltb-false, le-ltb, leb-true}
use Rattle.wire.specs.Zeros.{zeros}
use Rattle.month.specs.Report.{Report, used, fed_into}
use Rattle.month.specs.Bytes.{transfer_at, transfers_to, transfers_in, good_table, rows_to, good_report, report_bytes, written_report, Books, stays, holds, feed}
use Rattle.month.specs.Standing.{Bears, Stands}
use Rattle.month.specs.Refusals.{number_of}
use Rattle.month.specs.declared.Refusal.{Refusal}
use Rattle.month.specs.declared.Refusal.TheVariants.{BadTransfers, BadReport, NoRoom, PastLimit}
use Rattle.month.specs.Call.{Feeds}
use Rattle.month.proofs.Bound.{widen}
use Rattle.month.proofs.Reading.{rows_written}
use Rattle.month.proofs.Passing.{report-passed}

-- a table has as many transfers as rows
count-to : (s : List ℕ) (n : ℕ) → length (transfers_to s n) ≡ n
unfolding transfers_to
count-to s zero = refl
count-to s (suc n) = omega (arith, length-append (transfers_to s n) (transfer_at s (n * 150) ∷ []), count-to s n)

pub transfers-count : (t : List ℕ) → length (transfers_in t) ≡ length t / 150
unfolding transfers_in
transfers-count t = count-to t (length t / 150)

-- the report after the table
abbrev pub after : List ℕ → ℕ → List ℕ → Report
after b n t = fed_into (rows_to b n) (transfers_in t)

-- all tests of a call
pub record Passed (b : List ℕ) (n m : ℕ) (t : List ℕ) : Type 0 where
  pub table_good : good_table t ≡ true
  pub report_good : good_report b n m ≡ true
  pub room : used (after b n t) ≤ length b / 118
  pub limit : m + length (transfers_in t) ≤ 4294967295

-- the answer where a test fails, and where none does
pub refused-19 : (b : List ℕ) (n m : ℕ) (t : List ℕ) → good_table t ≡ false → feed b n m t ≡ stays 19 b n m
unfolding feed
refused-19 b n m t g = rw g

pub refused-20 : (b : List ℕ) (n m : ℕ) (t : List ℕ) → good_table t ≡ true → good_report b n m ≡ false → feed b n m t ≡ stays 20 b n m
unfolding feed
refused-20 b n m t g h = rw (g, h)

pub refused-9 : (b : List ℕ) (n m : ℕ) (t : List ℕ) → good_table t ≡ true → good_report b n m ≡ true → ltb (length b / 118) (used (after b n t)) ≡ true
    → feed b n m t ≡ stays 9 b n m
unfolding feed
refused-9 b n m t g h r = rw (g, h, r)

pub refused-10 : (b : List ℕ) (n m : ℕ) (t : List ℕ) → good_table t ≡ true → good_report b n m ≡ true → ltb (length b / 118) (used (after b n t)) ≡ false
    → ltb 4294967295 (m + length (transfers_in t)) ≡ true → feed b n m t ≡ stays 10 b n m
unfolding feed
refused-10 b n m t g h r l = rw (g, h, r, l)

pub passed-holds : {b : List ℕ} {n m : ℕ} {t : List ℕ} → Passed b n m t → feed b n m t ≡ holds (after b n t) (m + length (transfers_in t)) (length b)
unfolding feed
passed-holds {b} {n} {m} {t} p =
    rw (p.table_good, p.report_good, le-ltb (length b / 118) (used (after b n t)) p.room, le-ltb 4294967295 (m + length (transfers_in t)) p.limit)

either : (a : Bool) → (a ≡ true) ⊎ (a ≡ false)
either true = inl refl
either false = inr refl

-- a call is refused and leaves all, or all tests are passed
abbrev pub Outcome : List ℕ → ℕ → ℕ → List ℕ → Type 0
Outcome b n m t = ((k : ℕ) × (0 < k) × (feed b n m t ≡ stays k b n m)) ⊎ Passed b n m t

pub outcome : (b : List ℕ) (n m : ℕ) (t : List ℕ) → Outcome b n m t
outcome b n m t = ⊎_elim good-table (λ g. inl (19, omega arith, refused-19 b n m t g)) (either (good_table t))
  where
    has_room : good_table t ≡ true → good_report b n m ≡ true → ltb (length b / 118) (used (after b n t)) ≡ false → Outcome b n m t
    has_room g h r =
        ⊎_elim
        (λ l. inl (10, omega arith, refused-10 b n m t g h r l))
        (λ l. inr record { table_good = g; report_good = h; room = ltb-false _ _ r; limit = ltb-false _ _ l })
        (either (ltb 4294967295 (m + length (transfers_in t))))

    good-report : good_table t ≡ true → good_report b n m ≡ true → Outcome b n m t
    good-report g h = ⊎_elim (λ r. inl (9, omega arith, refused-9 b n m t g h r)) (has_room g h) (either (ltb (length b / 118) (used (after b n t))))

    good-table : good_table t ≡ true → Outcome b n m t
    good-table g = ⊎_elim (good-report g) (λ h. inl (20, omega arith, refused-20 b n m t g h)) (either (good_report b n m))

-- no refusal has number 0
pub number-not-0 : (r : Refusal) → number_of r ≡ 0 → ⊥
number-not-0 BadTransfers e = omega arith
number-not-0 BadReport e = omega arith
number-not-0 NoRoom e = omega arith
number-not-0 PastLimit e = omega arith

-- the number tells which
pub passed-zero : (b : List ℕ) (n m : ℕ) (t : List ℕ) → (feed b n m t).number ≡ 0 → Passed b n m t
unfolding stays
passed-zero b n m t e = ⊎_elim (λ w. absurd (omega (arith, w.1, ap (λ (x : Books). x.number) w.2))) (λ p. p) (outcome b n m t)

pub refused-stays : (b : List ℕ) (n m : ℕ) (t : List ℕ) → ((feed b n m t).number ≡ 0 → ⊥) → feed b n m t ≡ stays (feed b n m t).number b n m
unfolding stays holds
refused-stays b n m t h =
    ⊎_elim
    (λ w. w.2 ∙ ap (λ (k : ℕ). stays k b n m) (sym (ap (λ (x : Books). x.number) w.2)))
    (λ p. absurd (h (ap (λ (x : Books). x.number) (passed-holds p))))
    (outcome b n m t)

-- what a table that passes finds: a report that stands, rows that bear its transfers, and room
pub good-stands : (b : List ℕ) (n m : ℕ) → good_report b n m ≡ true → Stands b n
good-stands b n m g = let p = report-passed b n m g in record { inside = omega (arith, p.0); sorted = p.1 }

less-taken : (a b x y : ℕ) → x ≤ y → a + y ≤ b → a ≤ b - x
less-taken a b x y h k = omega arith

-- a sum below 2 to the 96th bears all transfers that a report may be of
sum-bears : (k : ℕ) → k ≤ 4294967295 → 2 ^ 96 ≤ 2 ^ 128 - k * (3 * 2 ^ 64)
sum-bears k h = less-taken (2 ^ 96) (2 ^ 128) (k * (3 * 2 ^ 64)) (4294967295 * (3 * 2 ^ 64)) (mul-le-mul_right (3 * 2 ^ 64) h) (leb-true _ _ refl)

pub passed-bears : {b : List ℕ} {n m : ℕ} {t : List ℕ} → Passed b n m t → Bears (length t / 150) (rows_to b n)
passed-bears {b} {n} {m} {t} p x i =
    widen ((report-passed b n m p.report_good).2 x i) (sum-bears (length t / 150) (omega (arith, p.limit, transfers-count t))) (omega (arith, p.limit, transfers-count t))

-- the bytes from a on made 0
pub tail-cleared : (d : List ℕ) (a : ℕ) → a ≤ length d
    → take a d ++ (zeros (length (take (length d - a) (drop a d))) ++ drop (length d - a) (drop a d)) ≡ take a d ++ zeros (length d - a)
tail-cleared d a h =
    let l = length-drop a d in
    rw (length-take-le (length d - a) (drop a d) (omega arith), drop_of_length-le (drop a d) {i = length d - a} (omega arith), append-nil (zeros (length d - a)))

-- a call that is refused, and one that is not
pub refused-feeds : (b : List ℕ) (n m : ℕ) (t : List ℕ) (k : ℕ) → k ≡ (feed b n m t).number → (k ≡ 0 → ⊥) → Feeds b n m t (record { number = k; place = 0; rows = n; fed = m }) b
unfolding stays
refused-feeds b n m t k e h =
    let s = refused-stays b n m t (λ z. h (e ∙ z)) in
    record {
      number = e;
      place = refl;
      rows = sym (ap (λ (x : Books). x.rows) s);
      fed = sym (ap (λ (x : Books). x.transfers) s);
      left = sym (ap (λ (x : Books). x.buffer) s);
    }

pub passed-feeds : {b : List ℕ} {n m : ℕ} {t : List ℕ} → Passed b n m t → (d : List ℕ) (u : ℕ) → rows_to d u ≡ after b n t → u ≡ used (after b n t)
    → ((i : ℕ) → get_or d i 0 < 256) → length d ≡ length b
    → Feeds b n m t (record { number = 0; place = 0; rows = u; fed = m + length t / 150 }) (take (u * 118) d ++ zeros (length d - u * 118))
unfolding holds written_report
passed-feeds {b} {n} {m} {t} p d u e k h l =
    let s = passed-holds p in
    let bytes : take (u * 118) d ≡ report_bytes (after b n t) = sym (rows_written d u h (omega (arith, p.room))) ∙ ap report_bytes e in
    let rest : length d - u * 118 ≡ length b - used (after b n t) * 118 = omega arith in
    record {
      number = sym (ap (λ (x : Books). x.number) s);
      place = refl;
      rows = k ∙ sym (ap (λ (x : Books). x.rows) s);
      fed = ap (◌+◌ m) (sym (transfers-count t)) ∙ sym (ap (λ (x : Books). x.transfers) s);
      left = ap₂ (λ (x : List ℕ) (y : ℕ). x ++ zeros y) bytes rest ∙ sym (ap (λ (x : Books). x.buffer) s);
    }
