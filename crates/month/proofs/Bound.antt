-- The sums stay below 2 to the 96th, and the counts below the number of transfers. Assumes nothing.
use Rattle.std.proofs.Common.{◌≡◌, ℕ, suc, ◌+◌, ◌*◌, ◌^◌, ◌<◌, ◌≤◌, Bool, true, false, cond, not, ◌≢◌, ◌⊎◌, List, [], ◌∷◌, ◌++◌, length, get_or, sym, refl, ap, ◌∙◌, inl, inr, arith, length-append}
use mathlib.Core.Logic.{by_cases}
use mathlib.Core.List.Memᴰ
use mathlib.Core.List.{Memᴰ}
use Rattle.wire.specs.Same.{same}
use Rattle.wire.proofs.Same.{same-eq, same-ne}
use Rattle.wire.specs.Zeros.{zeros}
use Rattle.ids.specs.Keys.{Key}
use Rattle.month.specs.Transfers.{FedTransfer, summed, withheld, rest_of, Line, own, source_line, destination_line, Formed, AllFormed, touched, account_flag}
use Rattle.month.specs.Sums.{sum, those, on, debit_on, credit_on, fee_on, apart_on, debits_of, credits_of, fees_of, apart_of, Sums, sums_of, plus, Within}
use Rattle.month.specs.Report.{ReportRow, Report, lines_of, report_of, Lined}
use Rattle.month.specs.Adding.{add_row}
use Rattle.wire.proofs.Order.{key?}
use Rattle.month.proofs.Reports.{report-row, report-touched}
use Rattle.month.proofs.Adding.{Added, last, before, met, past, added}
use Rattle.month.proofs.Totals.{own-flag, source-flag, destination-flag, summed-fee, flag_at}

-- the mint's own line is no account's
pub own-not-source : {t : FedTransfer} → Formed t → own t ≢ source_line t
own-not-source {t} f e = absurd (omega (arith, sym (own-flag f) ∙ ap account_flag e ∙ source-flag f))

pub own-not-destination : {t : FedTransfer} → Formed t → own t ≢ destination_line t
own-not-destination {t} f e = absurd (omega (arith, sym (own-flag f) ∙ ap account_flag e ∙ destination-flag f))

-- of two lines that differ at most one is k
on-two : (k a b : Line) (n : ℕ) → a ≢ b → on k a n + on k b n ≤ n
on-two k a b n d =
    by_cases
    (key? k a)
    (λ e. rw (same-eq e, same-ne {a = k} {b = b} (λ q. d (sym e ∙ q))) (omega arith))
    (λ m. rw (same-ne m) (go (same k b)))
  where
    go : (c : Bool) → 0 + cond c n 0 ≤ n
    go true = omega arith
    go false = omega arith

-- no line takes more of a transfer than its amount
pub debit-within : (k : Line) {t : FedTransfer} → Formed t → debit_on k t ≤ t.amount
unfolding debit_on
debit-within k {t} f = on-two k (own t) (source_line t) t.amount (own-not-source f)

pub credit-within : (k : Line) {t : FedTransfer} → Formed t → credit_on k t ≤ rest_of t
unfolding credit_on
credit-within k {t} f = on-two k (own t) (destination_line t) (rest_of t) (own-not-destination f)

pub fee-within : (k : Line) {t : FedTransfer} → Formed t → fee_on k t ≤ withheld t
unfolding fee_on
fee-within k {t} f = on-two k (own t) (destination_line t) (withheld t) (own-not-destination f)

apart-within : (k : Line) (t : FedTransfer) → apart_on k t ≤ 1
unfolding apart_on
apart-within k t = go (same k (own t))
  where
    go : (b : Bool) → cond b 1 0 ≤ 1
    go true = omega arith
    go false = omega arith

-- a sum over some of a list, of numbers that are at most c
sum-within : {A : Type 0} (p : A → Bool) (f : A → ℕ) (l : List A) → ((x : A) → Memᴰ x l → p x ≡ true → f x < 2 ^ 64) → sum f (those p l) ≤ 18446744073709551615 * length l
unfolding sum those
sum-within {A} p f [] h = omega arith
sum-within {A} p f (x ∷ l) h = go (p x) refl (sum-within p f l (λ y i. h y (Memᴰ.tail i)))
  where
    go : (b : Bool) → p x ≡ b → sum f (those p l) ≤ 18446744073709551615 * length l → sum f (cond b (x ∷ those p l) (those p l)) ≤ 18446744073709551615 * length (x ∷ l)
    go true e k = omega (arith, k, h x (Memᴰ.head refl) e)
    go false e k = omega (arith, k)

count-within : {A : Type 0} (p : A → Bool) (f : A → ℕ) (l : List A) → ((x : A) → f x ≤ 1) → sum f (those p l) ≤ length l
unfolding sum those
count-within p f [] h = omega arith
count-within {A} p f (x ∷ l) h = go (p x) (count-within p f l h)
  where
    go : (b : Bool) → sum f (those p l) ≤ length l → sum f (cond b (x ∷ those p l) (those p l)) ≤ length (x ∷ l)
    go true k = omega (arith, k, h x)
    go false k = omega (arith, k)

-- the sums of any line over at most 4,294,967,295 transfers
pub sums-within : (k : Line) (ts : List FedTransfer) → AllFormed ts → length ts ≤ 4294967295 → Within (2 ^ 96) (length ts) (sums_of k ts)
unfolding sums_of debits_of credits_of fees_of apart_of rest_of
sums-within k ts h n =
    record {
      debits_below = omega (arith, sum-within summed (debit_on k) ts (λ t i e. omega (arith, debit-within k (h t i), (h t i).amount_bits)));
      credits_below = omega (arith, sum-within summed (credit_on k) ts (λ t i e. omega (arith, credit-within k (h t i), (h t i).amount_bits)));
      fees_below = omega (arith, sum-within summed (fee_on k) ts (λ t i e. omega (arith, fee-within k (h t i), summed-fee t e, (h t i).amount_bits)));
      apart_most = count-within (λ t. not (summed t)) (apart_on k) ts (apart-within k);
    }

-- so each row of the report
pub report-within : {x : ReportRow} (ts : List FedTransfer) → AllFormed ts → length ts ≤ 4294967295 → Memᴰ x (report_of ts) → Within (2 ^ 96) (length ts) x.1
report-within {x} ts h n i = rw (report-row ts i) (sums-within x.0 ts h n)

-- all rows of a report
abbrev pub AllWithin : ℕ → ℕ → Report → Type 0
AllWithin b n r = (x : ReportRow) → Memᴰ x r → Within b n x.1

-- larger bounds
pub widen : {b c n m : ℕ} {u : Sums} → Within b n u → b ≤ c → n ≤ m → Within c m u
widen p h k =
    record {
      debits_below = omega (arith, p.debits_below);
      credits_below = omega (arith, p.credits_below);
      fees_below = omega (arith, p.fees_below);
      apart_most = omega (arith, p.apart_most);
    }

plus-within : {b c n m : ℕ} {u v : Sums} → Within b n u → Within (suc c) m v → Within (b + c) (n + m) (plus u v)
unfolding plus
plus-within p q =
    record {
      debits_below = omega (arith, p.debits_below, q.debits_below);
      credits_below = omega (arith, p.credits_below, q.credits_below);
      fees_below = omega (arith, p.fees_below, q.fees_below);
      apart_most = omega (arith, p.apart_most, q.apart_most);
    }

added-within : {b c n m : ℕ} {e : ReportRow} {r s : Report} → Added e r s → AllWithin b n r → Within (suc c) m e.1 → 0 < b → AllWithin (b + c) (n + m) s
added-within last w q h x (Memᴰ.head p) = rw p (widen q (omega arith) (omega arith))
added-within last w q h x (Memᴰ.tail j) = absurd (Memᴰ.not-nil j)
added-within (before k) w q h x (Memᴰ.head p) = rw p (widen q (omega arith) (omega arith))
added-within (before k) w q h x (Memᴰ.tail j) = widen (w x j) (omega arith) (omega arith)
added-within (met {x = y} k) w q h x (Memᴰ.head p) = rw p (plus-within (w y (Memᴰ.head refl)) q)
added-within (met k) w q h x (Memᴰ.tail j) = widen (w x (Memᴰ.tail j)) (omega arith) (omega arith)
added-within (past k i) w q h x (Memᴰ.head p) = widen (w x (Memᴰ.head p)) (omega arith) (omega arith)
added-within (past k i) w q h x (Memᴰ.tail j) = added-within i (λ z l. w z (Memᴰ.tail l)) q h x j

-- one row added: no sum grows by more than the row's
pub add-within : {b c n m : ℕ} {r : Report} (e : ReportRow) → AllWithin b n r → Within (suc c) m e.1 → 0 < b → AllWithin (b + c) (n + m) (add_row r e)
add-within {r} e w q h = added-within (added r e) w q h

-- the mint's bytes, an account flag and 32 more
lined : {t : FedTransfer} → Formed t → (x : ℕ) (l : List ℕ) → x ≤ 1 → length l ≡ 32 → Lined (t.mint ++ (x ∷ l))
lined {t} f x l h e =
    record {
      line_bytes = omega (arith, length-append t.mint (x ∷ l), f.mint_bytes, e);
      line_mint = flag f.mint_form;
      line_account = omega (arith, flag_at t.mint x l f.mint_bytes);
    }
  where
    flag : (t.mint ≡ zeros 33) ⊎ ((k : Key) × (t.mint ≡ 1 ∷ k)) → get_or (t.mint ++ (x ∷ l)) 0 0 ≤ 1
    flag (inl q) = rw q (omega arith)
    flag (inr (k, q)) = rw q (omega arith)

own-lined : {t : FedTransfer} → Formed t → Lined (own t)
unfolding own
own-lined f = lined f 0 (zeros 32) (omega arith) refl

source-lined : {t : FedTransfer} → Formed t → Lined (source_line t)
unfolding source_line
source-lined {t} f = lined f 1 t.source (omega arith) f.source_bytes

destination-lined : {t : FedTransfer} → Formed t → Lined (destination_line t)
unfolding destination_line
destination-lined {t} f = lined f 1 t.destination (omega arith) f.destination_bytes

-- a line that a transfer touches
pub touched-lined : {k : Line} {t : FedTransfer} → Formed t → Memᴰ k (touched t) → Lined k
unfolding touched
touched-lined {k} {t} f i = go (summed t) i
  where
    go : (b : Bool) → Memᴰ k (cond b (own t ∷ source_line t ∷ destination_line t ∷ []) (own t ∷ [])) → Lined k
    go true (Memᴰ.head q) = rw q (own-lined f)
    go true (Memᴰ.tail (Memᴰ.head q)) = rw q (source-lined f)
    go true (Memᴰ.tail (Memᴰ.tail (Memᴰ.head q))) = rw q (destination-lined f)
    go true (Memᴰ.tail (Memᴰ.tail (Memᴰ.tail j))) = absurd (Memᴰ.not-nil j)
    go false (Memᴰ.head q) = rw q (own-lined f)
    go false (Memᴰ.tail j) = absurd (Memᴰ.not-nil j)

-- each line of a report
pub report-lined : {k : Line} (ts : List FedTransfer) → AllFormed ts → Memᴰ k (lines_of (report_of ts)) → Lined k
report-lined ts h i = let t = report-touched ts i in touched-lined (h t.0 t.1) t.2
