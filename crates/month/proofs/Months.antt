-- Calls one after the other, from an empty report: what they leave is the report of all transfers that they fed, whatever was refused in between. Assumes nothing.
use Rattle.std.proofs.Common.{◌≡◌, ℕ, ◌+◌, ◌/◌, ◌^◌, ◌<◌, ◌≤◌, Bool, true, false, cond, not, ◌||◌, eqb, ltb, ◌≢◌, List, [], ◌∷◌, ◌++◌, length, get_or, sym, refl, ap, ◌∙◌, ap₂, ⊎_elim, append_assoc, append-nil, arith, length-append, eq-eqb, ne_eqb, le-leb}
use mathlib.Core.Bool.{or-true, or-false, or_assoc}
use mathlib.Core.List.Memᴰ
use mathlib.Core.List.{Permᴰ}
use borrow.Author.Tests.{eqb-false}
use Rattle.month.specs.Transfers.{FedTransfer, AllFormed}
use Rattle.month.specs.Report.{Report, used, report_of, fed_into}
use Rattle.month.specs.Totals.{Balanced}
use Rattle.month.specs.Bytes.{transfers_in, transfers_of_all, good_table, rows_to, rises, good_rows, good_report, written_report, Books, stays, holds, feed}
use Rattle.month.specs.Call.{Feeds}
use Rattle.month.specs.Months.{MonthCall, was_fed, Calls, no_call, next_call, fed_by, some_fed, NoneRefused, tables_of}
use Rattle.month.specs.declared.MonthAnswer.{MonthAnswer}
use Rattle.month.proofs.Reports.{report-none, fed-report, report-perm}
use Rattle.month.proofs.Totals.{balanced}
use Rattle.month.proofs.Bound.{AllWithin}
use Rattle.month.proofs.Reading.{read-written, written-length, table-formed}
use Rattle.month.proofs.Passing.{report-fits, report-passes, report-passed, formed-both}
use Rattle.month.proofs.Answers.{after, Passed, outcome, passed-holds, refused-stays}

-- answers are told by their four numbers
answer_eq : {a b : MonthAnswer} → a.number ≡ b.number → a.place ≡ b.place → a.rows ≡ b.rows → a.fed ≡ b.fed → a ≡ b
answer_eq p q r s = λ i. record { number = p i; place = q i; rows = r i; fed = s i }

-- a call's promise leaves one answer and one buffer
pub feeds-unique : {b : List ℕ} {n m : ℕ} {t : List ℕ} {a a' : MonthAnswer} {d d' : List ℕ} → Feeds b n m t a d → Feeds b n m t a' d' → (a ≡ a') × (d ≡ d')
feeds-unique f g =
    (answer_eq (f.number ∙ sym g.number) (f.place ∙ sym g.place) (f.rows ∙ sym g.rows) (f.fed ∙ sym g.fed), f.left ∙ sym g.left)

-- after transfers us were fed into a report that was empty in the buffer b: rows, transfers and bytes; w tells whether a table was fed at all
record Kept (b : List ℕ) (us : List FedTransfer) (w : Bool) (d : List ℕ) (n m : ℕ) : Type 0 where
  kept_rows : n ≡ used (report_of us)
  kept_fed : m ≡ length us
  kept_report : rows_to d n ≡ report_of us
  kept_good : good_report d n m ≡ true
  kept_length : length d ≡ length b
  kept_formed : AllFormed us
  kept_limit : length us ≤ 4294967295
  kept_buffer : w ≡ true → d ≡ written_report (report_of us) (length b)

-- before any call
kept-none : (b : List ℕ) → Kept b [] false b 0 0
unfolding good_report rows_to rises good_rows
kept-none b =
    record {
      kept_rows = ap used (sym report-none);
      kept_fed = refl;
      kept_report = sym report-none;
      kept_good = rw (le-leb 0 (length b / 118) (omega arith));
      kept_length = refl;
      kept_formed = λ t i. absurd (Memᴰ.not-nil i);
      kept_limit = omega arith;
      kept_buffer = λ e. absurd (false-true e);
    }
  where
    false-true : ◌≡◌ {A = Bool} false true → ⊥
    false-true e = let z : ◌≡◌ {A = ℕ} 0 1 = cc in omega arith

-- a report written in a buffer of that length
kept-written : (b : List ℕ) (us : List FedTransfer) → AllFormed us → length us ≤ 4294967295 → used (report_of us) ≤ length b / 118
    → Kept b us true (written_report (report_of us) (length b)) (used (report_of us)) (length us)
kept-written b us h k r =
    record {
      kept_rows = refl;
      kept_fed = refl;
      kept_report = read-written (report_of us) (length b) (report-fits us h k);
      kept_good = report-passes us (length b) h k r;
      kept_length = written-length (report_of us) (length b) (report-fits us h k) (omega arith);
      kept_formed = h;
      kept_limit = k;
      kept_buffer = λ e. refl;
    }

or_left : (a b : Bool) → (a || b) ≡ false → a ≡ false
or_left true b e = e
or_left false b e = refl

or_right : (a b : Bool) → (a || b) ≡ false → b ≡ false
or_right true true e = e
or_right true false e = refl
or_right false b e = e

-- one call more: refused, it leaves all; else its transfers are added
kept_step : {b : List ℕ} {us : List FedTransfer} {w : Bool} {d : List ℕ} {n m : ℕ} (k : MonthCall) → Kept b us w d n m → ((i : ℕ) → get_or k.table i 0 < 256)
    → Feeds d n m k.table k.answer k.buffer
    → Kept b (us ++ cond (was_fed k) (transfers_in k.table) []) (w || was_fed k) k.buffer k.answer.rows k.answer.fed
unfolding was_fed stays holds
kept_step {b} {us} {w} {d} {n} {m} k x h f = ⊎_elim refused passed (outcome d n m k.table)
  where
    t : List ℕ
    t = k.table

    refused : (j : ℕ) × (0 < j) × (feed d n m t ≡ stays j d n m) → Kept b (us ++ cond (was_fed k) (transfers_in t) []) (w || was_fed k) k.buffer k.answer.rows k.answer.fed
    refused (j, o, e) =
        let z : k.answer.number ≡ j = f.number ∙ ap (λ (y : Books). y.number) e in
        rw (ne_eqb k.answer.number 0 (λ q. omega (arith, z, q, o)), append-nil us, or-false w, f.left ∙ ap (λ (y : Books). y.buffer) e, f.rows ∙ ap (λ (y : Books). y.rows) e, f.fed ∙ ap (λ (y : Books). y.transfers) e)
        x

    passed : Passed d n m t → Kept b (us ++ cond (was_fed k) (transfers_in t) []) (w || was_fed k) k.buffer k.answer.rows k.answer.fed
    passed p =
        let ts = transfers_in t in
        let q : after d n t ≡ report_of (us ++ ts) = ap (λ (r : Report). fed_into r ts) x.kept_report ∙ fed-report us ts in
        let s : m + length ts ≡ length (us ++ ts) = omega (arith, x.kept_fed, length-append us ts) in
        let e : feed d n m t ≡ holds (report_of (us ++ ts)) (length (us ++ ts)) (length b) = passed-holds p ∙ rw (q, s, x.kept_length) in
        let room : used (report_of (us ++ ts)) ≤ length b / 118 = rw (← x.kept_length, ← q) p.room in
        rw (eq-eqb k.answer.number 0 (f.number ∙ ap (λ (y : Books). y.number) e), or-true w, f.left ∙ ap (λ (y : Books). y.buffer) e, f.rows ∙ ap (λ (y : Books). y.rows) e, f.fed ∙ ap (λ (y : Books). y.transfers) e)
        (kept-written b (us ++ ts) (formed-both us ts x.kept_formed (table-formed t h)) (omega (arith, p.limit, s)) room)

kept-calls : {b : List ℕ} {us : List FedTransfer} {w : Bool} {d : List ℕ} {n m : ℕ} {ks : List MonthCall} {e : List ℕ} {p q : ℕ} → Kept b us w d n m → Calls d n m ks e p q
    → Kept b (us ++ fed_by ks) (w || some_fed ks) e p q
unfolding fed_by some_fed
kept-calls {us} {w} x no_call = rw (append-nil us, or-false w) x
kept-calls {us} {w} x (next_call {k = k} {ks = ks} h f c) =
    rw (← append_assoc us (cond (was_fed k) (transfers_in k.table) []) (fed_by ks), ← or_assoc w (was_fed k) (some_fed ks))
    (kept-calls {us = us ++ cond (was_fed k) (transfers_in k.table) []} {w = w || was_fed k} (kept_step k x h f) c)

from_empty : {b : List ℕ} {ks : List MonthCall} {d : List ℕ} {n m : ℕ} → Calls b 0 0 ks d n m → Kept b (fed_by ks) (some_fed ks) d n m
from_empty {b} c = kept-calls (kept-none b) c

-- the rows in use are the report of all transfers that were fed, and the counts are its rows and those transfers
pub month-left : {b : List ℕ} {ks : List MonthCall} {d : List ℕ} {n m : ℕ} → Calls b 0 0 ks d n m
    → (rows_to d n ≡ report_of (fed_by ks)) × (n ≡ used (report_of (fed_by ks))) × (m ≡ length (fed_by ks))
month-left c = let x = from_empty c in (x.kept_report, x.kept_rows, x.kept_fed)

-- and the whole buffer is that report, with a tail of 0, as soon as a table was fed
pub month-buffer : {b : List ℕ} {ks : List MonthCall} {d : List ℕ} {n m : ℕ} → Calls b 0 0 ks d n m → some_fed ks ≡ true → d ≡ written_report (report_of (fed_by ks)) (length b)
month-buffer c e = (from_empty c).kept_buffer e

-- where none was fed, all is as it stood
calls-refused : {b : List ℕ} {n m : ℕ} {ks : List MonthCall} {d : List ℕ} {p q : ℕ} → Calls b n m ks d p q → some_fed ks ≡ false → (d ≡ b) × (p ≡ n) × (q ≡ m)
unfolding some_fed was_fed stays
calls-refused no_call e = (refl, refl, refl)
calls-refused {b} {n} {m} (next_call {k = k} {ks = ks} h f c) e =
    let off : eqb k.answer.number 0 ≡ false = or_left (was_fed k) (some_fed ks) e in
    let s = refused-stays b n m k.table (λ z. eqb-false k.answer.number 0 off (f.number ∙ z)) in
    let r = calls-refused c (or_right (was_fed k) (some_fed ks) e) in (
      r.0 ∙ f.left ∙ ap (λ (y : Books). y.buffer) s,
      r.1 ∙ f.rows ∙ ap (λ (y : Books). y.rows) s,
      r.2 ∙ f.fed ∙ ap (λ (y : Books). y.transfers) s,
    )

pub month-untouched : {b : List ℕ} {ks : List MonthCall} {d : List ℕ} {n m : ℕ} → Calls b 0 0 ks d n m → some_fed ks ≡ false → (d ≡ b) × (n ≡ 0) × (m ≡ 0)
month-untouched c e = calls-refused c e

-- the rows in use balance: each total is that of the transfers fed
pub month-balances : {b : List ℕ} {ks : List MonthCall} {d : List ℕ} {n m : ℕ} → Calls b 0 0 ks d n m → Balanced (fed_by ks) (rows_to d n)
month-balances {ks} c = let x = from_empty c in rw x.kept_report (balanced (fed_by ks) x.kept_formed)

-- their sums are below 2 to the 96th, and no count is above the transfers fed
pub month-within : {b : List ℕ} {ks : List MonthCall} {d : List ℕ} {n m : ℕ} → Calls b 0 0 ks d n m → AllWithin (2 ^ 96) m (rows_to d n)
month-within {d} {n} {m} c = (report-passed d n m (from_empty c).kept_good).2

-- a further call: 19 by its table, 9 by the rows of the report of all transfers, 10 by their number, or it is fed
pub month-next : {b : List ℕ} {ks : List MonthCall} {d : List ℕ} {n m : ℕ} {t : List ℕ} {a : MonthAnswer} {e : List ℕ} → Calls b 0 0 ks d n m → Feeds d n m t a e
    → a.number
    ≡ cond (not (good_table t)) 19
    (cond (ltb (length b / 118) (used (report_of (fed_by ks ++ transfers_in t)))) 9 (cond (ltb 4294967295 (length (fed_by ks ++ transfers_in t))) 10 0))
unfolding feed stays holds
month-next {b} {ks} {d} {n} {m} {t} c f =
    let x = from_empty c in
    let us = fed_by ks in
    let ts = transfers_in t in
    let q : after d n t ≡ report_of (us ++ ts) = ap (λ (r : Report). fed_into r ts) x.kept_report ∙ fed-report us ts in
    let s : m + length ts ≡ length (us ++ ts) = omega (arith, x.kept_fed, length-append us ts) in
    f.number ∙ rw (x.kept_good, q, s, x.kept_length) (go (good_table t) (ltb (length b / 118) (used (report_of (us ++ ts)))) (ltb 4294967295 (length (us ++ ts))) d n m (report_of (us ++ ts)) (length (us ++ ts)) (length b))
  where
    go : (x y z : Bool) (d : List ℕ) (n m : ℕ) (r : Report) (k l : ℕ)
        → (cond (not x) (stays 19 d n m) (cond y (stays 9 d n m) (cond z (stays 10 d n m) (holds r k l)))).number
        ≡ cond (not x) 19 (cond y 9 (cond z 10 0))
    go false y z d n m r k l = refl
    go true true z d n m r k l = refl
    go true false true d n m r k l = refl
    go true false false d n m r k l = refl

-- so a report that came from an empty one never meets 20
pub month-never-20 : {b : List ℕ} {ks : List MonthCall} {d : List ℕ} {n m : ℕ} {t : List ℕ} {a : MonthAnswer} {e : List ℕ} → Calls b 0 0 ks d n m → Feeds d n m t a e → a.number ≢ 20
month-never-20 {b} {ks} {t} c f q =
    go (good_table t) (ltb (length b / 118) (used (report_of (fed_by ks ++ transfers_in t)))) (ltb 4294967295 (length (fed_by ks ++ transfers_in t))) (sym (month-next c f) ∙ q)
  where
    go : (x y z : Bool) → ◌≡◌ {A = ℕ} (cond (not x) 19 (cond y 9 (cond z 10 0))) 20 → ⊥
    go false y z e = omega arith
    go true true z e = omega arith
    go true false true e = omega arith
    go true false false e = omega arith

perm-length : {us ts : List FedTransfer} → Permᴰ us ts → length us ≡ length ts
perm-length Permᴰ.nil = refl
perm-length (Permᴰ.cons e p) = omega (arith, perm-length p)
perm-length (Permᴰ.swap e f) = refl
perm-length (Permᴰ.trans p q) = perm-length p ∙ perm-length q

-- the same transfers in any order, in tables cut in any way, refused ones in between or not, leave the same bytes in buffers of one length
pub month-any-order : {b b' : List ℕ} {ks ks' : List MonthCall} {d d' : List ℕ} {n n' m m' : ℕ} → Calls b 0 0 ks d n m → Calls b' 0 0 ks' d' n' m'
    → length b ≡ length b' → some_fed ks ≡ true → some_fed ks' ≡ true → Permᴰ (fed_by ks) (fed_by ks')
    → (d ≡ d') × (n ≡ n') × (m ≡ m')
month-any-order c c' l e e' p =
    let x = from_empty c in
    let y = from_empty c' in
    let r = report-perm p in (
      x.kept_buffer e ∙ ap₂ written_report r l ∙ sym (y.kept_buffer e'),
      x.kept_rows ∙ ap used r ∙ sym y.kept_rows,
      x.kept_fed ∙ perm-length p ∙ sym y.kept_fed,
    )

-- where none was refused, the transfers fed are those of all tables handed in
pub all-fed : (ks : List MonthCall) → NoneRefused ks → fed_by ks ≡ transfers_of_all (tables_of ks)
unfolding fed_by was_fed transfers_of_all
all-fed [] h = refl
all-fed (k ∷ ks) h = rw (eq-eqb k.answer.number 0 (h k (Memᴰ.head refl)), all-fed ks (λ x i. h x (Memᴰ.tail i)))

some-fed : (k : MonthCall) (ks : List MonthCall) → NoneRefused (k ∷ ks) → some_fed (k ∷ ks) ≡ true
unfolding some_fed was_fed
some-fed k ks h = rw (eq-eqb k.answer.number 0 (h k (Memᴰ.head refl)))

-- the same transfers handed in, in any order and cut into tables in any way, none refused: the same bytes, rows and count
pub month-cut-anyhow : {b b' : List ℕ} {k k' : MonthCall} {ks ks' : List MonthCall} {d d' : List ℕ} {n n' m m' : ℕ}
    → Calls b 0 0 (k ∷ ks) d n m → Calls b' 0 0 (k' ∷ ks') d' n' m' → NoneRefused (k ∷ ks) → NoneRefused (k' ∷ ks') → length b ≡ length b'
    → Permᴰ (transfers_of_all (tables_of (k ∷ ks))) (transfers_of_all (tables_of (k' ∷ ks')))
    → (d ≡ d') × (n ≡ n') × (m ≡ m')
month-cut-anyhow {k} {k'} {ks} {ks'} c c' h h' l p =
    month-any-order c c' l (some-fed k ks h) (some-fed k' ks' h') (rw (all-fed (k ∷ ks) h, all-fed (k' ∷ ks') h') p)
