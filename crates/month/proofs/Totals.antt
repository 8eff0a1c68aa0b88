-- Over all mint lines, and over all account lines, debits equal credits plus fees, and each total is that of the transfers. Assumes nothing.
use Rattle.std.proofs.Common.{◌≡◌, ℕ, ◌+◌, ◌≤◌, Bool, true, false, cond, eqb, List, [], ◌∷◌, ◌++◌, length, get_or, sym, refl, ap, ◌∙◌, subst, arith, leb-true}
use mathlib.Core.Bool.{false≢true}
use mathlib.Core.Option.{Option, none, some}
use mathlib.Core.List.Memᴰ
use Rattle.wire.specs.Zeros.{zeros}
use Rattle.wire.specs.Ascending.{asc_nil}
use Rattle.month.specs.Transfers.{FedTransfer, covered, summed, known, withheld, rest_of, own, source_line, destination_line, Formed, AllFormed, account_flag}
use Rattle.month.specs.Sums.{Sums, sum, those, summed_in, others_in, plus}
use Rattle.month.specs.Report.{ReportRow, Report, report_of}
use Rattle.month.specs.Totals.{total_of, mint_total, account_total, amounts_in, rests_in, fees_in, Balanced}
use Rattle.month.specs.Adding.{add_row, add_rows, whole_part, source_part, destination_part, apart_part, parts_of, parts_in}
use Rattle.month.proofs.Reports.{fed-none}
use Rattle.month.proofs.Adding.{Added, last, before, met, past, added, fed-adds}

-- the account flag of a transfer's lines
flag-behind : (m : List ℕ) (x : ℕ) (l : List ℕ) → get_or (m ++ (x ∷ l)) (length m) 0 ≡ x
flag-behind [] x l = refl
flag-behind (y ∷ m) x l = flag-behind m x l

pub flag_at : (m : List ℕ) (x : ℕ) (l : List ℕ) → length m ≡ 33 → account_flag (m ++ (x ∷ l)) ≡ x
flag_at m x l e = subst (λ (n : ℕ). get_or (m ++ (x ∷ l)) n 0 ≡ x) e (flag-behind m x l)

pub own-flag : {t : FedTransfer} → Formed t → account_flag (own t) ≡ 0
unfolding own
own-flag {t} f = flag_at t.mint 0 (zeros 32) f.mint_bytes

pub source-flag : {t : FedTransfer} → Formed t → account_flag (source_line t) ≡ 1
unfolding source_line
source-flag {t} f = flag_at t.mint 1 t.source f.mint_bytes

pub destination-flag : {t : FedTransfer} → Formed t → account_flag (destination_line t) ≡ 1
unfolding destination_line
destination-flag {t} f = flag_at t.mint 1 t.destination f.mint_bytes

-- a field of which sums add
record Additive (field : Sums → ℕ) : Type 0 where
  plus_field : (a b : Sums) → field (plus a b) ≡ field a + field b

-- what a row weighs in a total
weight : (Sums → ℕ) → ℕ → ReportRow → ℕ
weight field f x = cond (eqb (account_flag x.0) f) (field x.1) 0

total-cons : (field : Sums → ℕ) (f : ℕ) (x : ReportRow) (r : Report) → total_of field f (x ∷ r) ≡ weight field f x + total_of field f r
unfolding total_of sum those weight
total-cons field f x r = go (eqb (account_flag x.0) f) refl
  where
    go : (b : Bool) → eqb (account_flag x.0) f ≡ b → total_of field f (x ∷ r) ≡ weight field f x + total_of field f r
    go true e = rw e
    go false e = rw e (omega arith)

total-nil : (field : Sums → ℕ) (f : ℕ) → total_of field f [] ≡ 0
unfolding total_of sum those
total-nil field f = refl

total-append : (field : Sums → ℕ) (f : ℕ) (r s : Report) → total_of field f (r ++ s) ≡ total_of field f r + total_of field f s
total-append field f [] s = omega (arith, total-nil field f)
total-append field f (x ∷ r) s = omega (arith, total-cons field f x r, total-cons field f x (r ++ s), total-append field f r s)

module _ {field : Sums → ℕ} (additive : Additive field) (f : ℕ) where
  weight-met : (e x : ReportRow) → e.0 ≡ x.0 → weight field f (x.0, plus x.1 e.1) ≡ weight field f x + weight field f e
  unfolding weight
  weight-met e x q = rw q (go (eqb (account_flag x.0) f))
    where
      go : (b : Bool) → cond b (field (plus x.1 e.1)) 0 ≡ cond b (field x.1) 0 + cond b (field e.1) 0
      go true = additive.plus_field x.1 e.1
      go false = refl

  total-added : {e : ReportRow} {r s : Report} → Added e r s → total_of field f s ≡ total_of field f r + weight field f e
  total-added {e} last = omega (arith, total-cons field f e [])
  total-added {e} (before {x} {r} h) = omega (arith, total-cons field f e (x ∷ r))
  total-added {e} (met {x} {r} q) =
      omega (arith, total-cons field f (x.0, plus x.1 e.1) r, total-cons field f x r, weight-met e x q)
  total-added {e} (past {x} {r} {s} h i) = omega (arith, total-cons field f x r, total-cons field f x s, total-added i)

  total-add-all : (r : Report) (es : List ReportRow) → total_of field f (add_rows r es) ≡ total_of field f r + total_of field f es
  unfolding add_rows
  total-add-all r [] = omega (arith, total-nil field f)
  total-add-all r (e ∷ es) = omega (arith, total-add-all (add_row r e) es, total-added (added r e), total-cons field f e es)

  -- a total over a report is that over the parts of its transfers
  total-report : (ts : List FedTransfer) → total_of field f (report_of ts) ≡ total_of field f (parts_in ts)
  total-report ts = ap (total_of field f) (sym (fed-none ts) ∙ sym (fed-adds ts asc_nil)) ∙ omega (arith, total-add-all [] (parts_in ts), total-nil field f)

-- the parts of one transfer, on mint lines and on account lines
mint-part : (field : Sums → ℕ) (t : FedTransfer) → Formed t → total_of field 0 (parts_of t) ≡ cond (summed t) (field (whole_part t)) (field apart_part)
unfolding total_of sum those parts_of
mint-part field t h = go (summed t) refl
  where
    go : (b : Bool) → summed t ≡ b → total_of field 0 (parts_of t) ≡ cond (summed t) (field (whole_part t)) (field apart_part)
    go true e = rw (e, own-flag h, source-flag h, destination-flag h) (omega arith)
    go false e = rw (e, own-flag h) (omega arith)

account-part : (field : Sums → ℕ) (t : FedTransfer) → Formed t → total_of field 1 (parts_of t) ≡ cond (summed t) (field (source_part t) + field (destination_part t)) 0
unfolding total_of sum those parts_of
account-part field t h = go (summed t) refl
  where
    go : (b : Bool) → summed t ≡ b → total_of field 1 (parts_of t) ≡ cond (summed t) (field (source_part t) + field (destination_part t)) 0
    go true e = rw (e, own-flag h, source-flag h, destination-flag h) (omega arith)
    go false e = rw (e, own-flag h)

-- the parts of all transfers
mint-parts : (field : Sums → ℕ) (ts : List FedTransfer) → AllFormed ts
    → total_of field 0 (parts_in ts) ≡ sum (λ t. field (whole_part t)) (summed_in ts) + sum (λ t. field apart_part) (others_in ts)
unfolding parts_in sum those
mint-parts field [] h = total-nil field 0
mint-parts field (t ∷ ts) h = go (summed t) refl (mint-parts field ts (λ u i. h u (Memᴰ.tail i)))
  where
    go : (b : Bool) → summed t ≡ b
        → total_of field 0 (parts_in ts) ≡ sum (λ u. field (whole_part u)) (summed_in ts) + sum (λ u. field apart_part) (others_in ts)
        → total_of field 0 (parts_in (t ∷ ts)) ≡ sum (λ u. field (whole_part u)) (summed_in (t ∷ ts)) + sum (λ u. field apart_part) (others_in (t ∷ ts))
    go true e k =
        let p : total_of field 0 (parts_of t) ≡ field (whole_part t) = mint-part field t (h t (Memᴰ.head refl)) ∙ rw e in
        rw e (omega (arith, k, p, total-append field 0 (parts_of t) (parts_in ts)))
    go false e k =
        let p : total_of field 0 (parts_of t) ≡ field apart_part = mint-part field t (h t (Memᴰ.head refl)) ∙ rw e in
        rw e (omega (arith, k, p, total-append field 0 (parts_of t) (parts_in ts)))

account-parts : (field : Sums → ℕ) (ts : List FedTransfer) → AllFormed ts
    → total_of field 1 (parts_in ts) ≡ sum (λ t. field (source_part t) + field (destination_part t)) (summed_in ts)
unfolding parts_in sum those
account-parts field [] h = total-nil field 1
account-parts field (t ∷ ts) h = go (summed t) refl (account-parts field ts (λ u i. h u (Memᴰ.tail i)))
  where
    go : (b : Bool) → summed t ≡ b
        → total_of field 1 (parts_in ts) ≡ sum (λ u. field (source_part u) + field (destination_part u)) (summed_in ts)
        → total_of field 1 (parts_in (t ∷ ts)) ≡ sum (λ u. field (source_part u) + field (destination_part u)) (summed_in (t ∷ ts))
    go true e k =
        let p : total_of field 1 (parts_of t) ≡ field (source_part t) + field (destination_part t) = account-part field t (h t (Memᴰ.head refl)) ∙ rw e in
        rw e (omega (arith, k, p, total-append field 1 (parts_of t) (parts_in ts)))
    go false e k =
        let p : total_of field 1 (parts_of t) ≡ 0 = account-part field t (h t (Memᴰ.head refl)) ∙ rw e in
        rw e (omega (arith, k, p, total-append field 1 (parts_of t) (parts_in ts)))

sum-zero : {A : Type 0} (f : A → ℕ) (l : List A) → ((x : A) → f x ≡ 0) → sum f l ≡ 0
unfolding sum
sum-zero f [] h = refl
sum-zero f (x ∷ l) h = omega (arith, h x, sum-zero f l h)

sum_one : {A : Type 0} (l : List A) → sum (λ x. 1) l ≡ length l
unfolding sum
sum_one [] = refl
sum_one (x ∷ l) = omega (arith, sum_one l)

sum_alike : {A : Type 0} (f g : A → ℕ) (l : List A) → ((x : A) → f x ≡ g x) → sum f l ≡ sum g l
unfolding sum
sum_alike f g [] h = refl
sum_alike f g (x ∷ l) h = omega (arith, h x, sum_alike f g l h)

-- the fee of a summed transfer is not above its amount
pub summed-fee : (t : FedTransfer) → summed t ≡ true → withheld t ≤ t.amount
unfolding summed covered withheld known
summed-fee t e = go t.fee e
  where
    go : (o : Option ℕ) → covered o t.amount ≡ true → known o ≤ t.amount
    go none q = absurd (false≢true q)
    go (some f) q = leb-true f t.amount q

-- amounts are rests and fees
pub amounts-split : (ts : List FedTransfer) → amounts_in ts ≡ rests_in ts + fees_in ts
unfolding amounts_in rests_in fees_in sum those rest_of
amounts-split [] = refl
amounts-split (t ∷ ts) = go (summed t) refl (amounts-split ts)
  where
    go : (b : Bool) → summed t ≡ b → amounts_in ts ≡ rests_in ts + fees_in ts → amounts_in (t ∷ ts) ≡ rests_in (t ∷ ts) + fees_in (t ∷ ts)
    go true e k = rw e (omega (arith, k, summed-fee t e))
    go false e k = rw e k

mint-total : {field : Sums → ℕ} → Additive field → (ts : List FedTransfer) → AllFormed ts
    → mint_total field (report_of ts) ≡ sum (λ t. field (whole_part t)) (summed_in ts) + sum (λ t. field apart_part) (others_in ts)
mint-total {field} a ts h = total-report a 0 ts ∙ mint-parts field ts h

account-total : {field : Sums → ℕ} → Additive field → (ts : List FedTransfer) → AllFormed ts → (g : FedTransfer → ℕ)
    → ((t : FedTransfer) → field (source_part t) + field (destination_part t) ≡ g t) → account_total field (report_of ts) ≡ sum g (summed_in ts)
account-total {field} a ts h g e = total-report a 1 ts ∙ account-parts field ts h ∙ sum_alike _ g (summed_in ts) e

debits-add : Additive (λ s. s.debits)
unfolding plus
debits-add = record { plus_field = λ a b. refl }

credits-add : Additive (λ s. s.credits)
unfolding plus
credits-add = record { plus_field = λ a b. refl }

fees-add : Additive (λ s. s.fees)
unfolding plus
fees-add = record { plus_field = λ a b. refl }

apart-add : Additive (λ s. s.apart)
unfolding plus
apart-add = record { plus_field = λ a b. refl }

-- the report of a list of transfers balances
pub balanced : (ts : List FedTransfer) → AllFormed ts → Balanced ts (report_of ts)
unfolding amounts_in rests_in fees_in
balanced ts h =
    let no = sum-zero (λ (t : FedTransfer). 0) (others_in ts) (λ t. refl) in
    let none = sum-zero (λ (t : FedTransfer). 0) (summed_in ts) (λ t. refl) in
    let split = amounts-split ts in
    let md : mint_total (λ s. s.debits) (report_of ts) ≡ amounts_in ts = mint-total debits-add ts h ∙ omega (arith, no) in
    let mc : mint_total (λ s. s.credits) (report_of ts) ≡ rests_in ts = mint-total credits-add ts h ∙ omega (arith, no) in
    let mf : mint_total (λ s. s.fees) (report_of ts) ≡ fees_in ts = mint-total fees-add ts h ∙ omega (arith, no) in
    let ma : mint_total (λ s. s.apart) (report_of ts) ≡ length (others_in ts) = mint-total apart-add ts h ∙ omega (arith, none, sum_one (others_in ts)) in
    let ad : account_total (λ s. s.debits) (report_of ts) ≡ amounts_in ts = account-total debits-add ts h (λ t. t.amount) (λ t. omega arith) in
    let ac : account_total (λ s. s.credits) (report_of ts) ≡ rests_in ts = account-total credits-add ts h rest_of (λ t. omega arith) in
    let af : account_total (λ s. s.fees) (report_of ts) ≡ fees_in ts = account-total fees-add ts h withheld (λ t. omega arith) in
    let aa : account_total (λ s. s.apart) (report_of ts) ≡ 0 = account-total apart-add ts h (λ t. 0) (λ t. refl) ∙ none in
    record {
      mint_debits = md;
      mint_credits = mc;
      mint_fees = mf;
      mint_apart = ma;
      account_debits = ad;
      account_credits = ac;
      account_fees = af;
      account_apart = aa;
      mint_balance = omega (arith, md, mc, mf, split);
      account_balance = omega (arith, ad, ac, af, split);
    }
