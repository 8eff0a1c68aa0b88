-- A report that is written is read back; a table's transfers have the size of their rows. Assumes nothing.
use Rattle.std.proofs.Common.{◌≡◌, ℕ, zero, suc, ◌+◌, ◌-◌, ◌*◌, ◌/◌, ◌^◌, ◌<◌, ◌≤◌, Bool, true, false, cond, eqb, ◌⊎◌, List, [], ◌∷◌, ◌++◌, length, get_or, take, drop, sym, refl, ap, ◌∙◌, ap₂, inl, inr, append_assoc, append-nil, le_of_suc-le-suc, not-suc-le-zero, add_assoc, mul_comm, pow-suc, arith, length-append, length-drop, length-take-le, take-suc, drop-drop, take_at, take-add}
use mathlib.Core.Path.{Σ_path}
use mathlib.Core.List.Memᴰ
use mathlib.Core.List.{Memᴰ}
use lib.Arith.{digits_lt}
use lib.ListN.{length-replicate}
use lib.Seq.{drop-append-add, take-length}
use Rattle.wire.specs.Zeros.{zeros}
use Rattle.wire.specs.Le.{le, le_bytes}
use Rattle.wire.proofs.Laws.{le_bytes-length, le-back, le-behind, le-written}
use Rattle.ids.specs.Keys.{Key}
use Rattle.month.specs.Transfers.{Formed, AllFormed}
use Rattle.month.specs.Sums.{nothing}
use Rattle.month.specs.Report.{ReportRow, Report, used}
use Rattle.month.specs.Bytes.{transfer_at, transfers_to, transfers_in, report_row_at, rows_to, report_row_bytes, report_bytes, written_report}
use Rattle.month.proofs.Adds.{sums-eq}

-- a row that its bytes can tell
pub record Fits (x : ReportRow) : Type 0 where
  pub fits_line : length x.0 ≡ 66
  pub fits_debits : x.1.debits < 256 ^ 16
  pub fits_credits : x.1.credits < 256 ^ 16
  pub fits_fees : x.1.fees < 256 ^ 16
  pub fits_apart : x.1.apart < 256 ^ 4

pub row-length : {x : ReportRow} → Fits x → length (report_row_bytes x) ≡ 118
unfolding report_row_bytes
row-length {x} f =
    let k = x.0 in
    let d = le_bytes 16 x.1.debits in
    let c = le_bytes 16 x.1.credits in
    let g = le_bytes 16 x.1.fees in
    let a = le_bytes 4 x.1.apart in
    rw (length-append (k ++ d ++ c ++ g) a, length-append (k ++ d ++ c) g, length-append (k ++ d) c, length-append k d, le_bytes-length 16 x.1.debits, le_bytes-length 16 x.1.credits, le_bytes-length 16 x.1.fees, le_bytes-length 4 x.1.apart)
    (omega (arith, f.fits_line))

-- five fields one after the other, however they are joined
from_first : (k d c g a s : List ℕ) → k ++ d ++ c ++ g ++ a ++ s ≡ k ++ (d ++ (c ++ (g ++ (a ++ s))))
from_first k d c g a s = append_assoc (k ++ d ++ c ++ g) a s ∙ append_assoc (k ++ d ++ c) g (a ++ s) ∙ append_assoc (k ++ d) c (g ++ (a ++ s)) ∙ append_assoc k d (c ++ (g ++ (a ++ s)))

from_second : (k d c g a s : List ℕ) → k ++ d ++ c ++ g ++ a ++ s ≡ (k ++ d) ++ (c ++ (g ++ (a ++ s)))
from_second k d c g a s = append_assoc (k ++ d ++ c ++ g) a s ∙ append_assoc (k ++ d ++ c) g (a ++ s) ∙ append_assoc (k ++ d) c (g ++ (a ++ s))

from-third : (k d c g a s : List ℕ) → k ++ d ++ c ++ g ++ a ++ s ≡ (k ++ d ++ c) ++ (g ++ (a ++ s))
from-third k d c g a s = append_assoc (k ++ d ++ c ++ g) a s ∙ append_assoc (k ++ d ++ c) g (a ++ s)

-- a row in front is read back
pub row-front : {x : ReportRow} (s : List ℕ) → Fits x → report_row_at (report_row_bytes x ++ s) 0 ≡ x
unfolding report_row_at report_row_bytes
row-front {x} s f =
    let k = x.0 in
    let d = le_bytes 16 x.1.debits in
    let c = le_bytes 16 x.1.credits in
    let g = le_bytes 16 x.1.fees in
    let a = le_bytes 4 x.1.apart in
    let ld = le_bytes-length 16 x.1.debits in
    let lc = le_bytes-length 16 x.1.credits in
    let lg = le_bytes-length 16 x.1.fees in
    let l2 : length (k ++ d) ≡ 82 = omega (arith, length-append k d, ld, f.fits_line) in
    let l3 : length (k ++ d ++ c) ≡ 98 = omega (arith, length-append (k ++ d) c, lc, l2) in
    let l4 : length (k ++ d ++ c ++ g) ≡ 114 = omega (arith, length-append (k ++ d ++ c) g, lg, l3) in
    Σ_path
    (ap (take 66) (from_first k d c g a s) ∙ take_at k (d ++ (c ++ (g ++ (a ++ s)))) 66 f.fits_line)
    (sums-eq
    (ap (λ (l : List ℕ). le 16 l 66) (from_first k d c g a s) ∙ le-written 16 x.1.debits k (c ++ (g ++ (a ++ s))) 66 f.fits_line f.fits_debits)
    (ap (λ (l : List ℕ). le 16 l 82) (from_second k d c g a s) ∙ le-written 16 x.1.credits (k ++ d) (g ++ (a ++ s)) 82 l2 f.fits_credits)
    (ap (λ (l : List ℕ). le 16 l 98) (from-third k d c g a s) ∙ le-written 16 x.1.fees (k ++ d ++ c) (a ++ s) 98 l3 f.fits_fees)
    (ap (λ (l : List ℕ). le 4 l 114) (append_assoc (k ++ d ++ c ++ g) a s) ∙ le-written 4 x.1.apart (k ++ d ++ c ++ g) s 114 l4 f.fits_apart))

drop-behind : (p s : List ℕ) (m at : ℕ) → length p ≡ m → drop (m + at) (p ++ s) ≡ drop at s
drop-behind p s m at e = rw (← e) (drop-append-add p s at)

-- a row behind others
row-behind : (p s : List ℕ) (at : ℕ) → length p ≡ 118 → report_row_at (p ++ s) (118 + at) ≡ report_row_at s at
unfolding report_row_at
row-behind p s at e =
    Σ_path
    (ap (take 66) (drop-behind p s 118 at e))
    (sums-eq
    (ap (le 16 (p ++ s)) (add_assoc 118 at 66) ∙ le-behind 16 p s 118 (at + 66) e)
    (ap (le 16 (p ++ s)) (add_assoc 118 at 82) ∙ le-behind 16 p s 118 (at + 82) e)
    (ap (le 16 (p ++ s)) (add_assoc 118 at 98) ∙ le-behind 16 p s 118 (at + 98) e)
    (ap (le 4 (p ++ s)) (add_assoc 118 at 114) ∙ le-behind 4 p s 118 (at + 114) e))

-- all rows of a report
abbrev pub AllFit : Report → Type 0
AllFit r = (x : ReportRow) → Memᴰ x r → Fits x

pub bytes-length : (r : Report) → AllFit r → length (report_bytes r) ≡ used r * 118
unfolding report_bytes
bytes-length [] f = refl
bytes-length (x ∷ r) f = omega (arith, length-append (report_row_bytes x) (report_bytes r), row-length (f x (Memᴰ.head refl)), bytes-length r (λ y i. f y (Memᴰ.tail i)))

row_read : (r : Report) (s : List ℕ) (d : ReportRow) (i : ℕ) → AllFit r → i < length r → report_row_at (report_bytes r ++ s) (i * 118) ≡ get_or r i d
unfolding report_bytes
row_read [] s d i f h = absurd (not-suc-le-zero h)
row_read (x ∷ r) s d zero f h = ap (λ (l : List ℕ). report_row_at l 0) (append_assoc (report_row_bytes x) (report_bytes r) s) ∙ row-front (report_bytes r ++ s) (f x (Memᴰ.head refl))
row_read (x ∷ r) s d (suc i) f h =
    let e : suc i * 118 ≡ 118 + i * 118 = omega arith in
    ap₂ report_row_at (append_assoc (report_row_bytes x) (report_bytes r) s) e
    ∙ row-behind (report_row_bytes x) (report_bytes r ++ s) (i * 118) (row-length (f x (Memᴰ.head refl)))
    ∙ row_read r s d i (λ y j. f y (Memᴰ.tail j)) (le_of_suc-le-suc h)

rows-read : (r : Report) (s : List ℕ) (d : ReportRow) (n : ℕ) → AllFit r → n ≤ length r → rows_to (report_bytes r ++ s) n ≡ take n r
unfolding rows_to
rows-read r s d zero f h = refl
rows-read r s d (suc n) f h =
    ap₂ (λ (q : Report) (x : ReportRow). q ++ (x ∷ [])) (rows-read r s d n f (omega arith)) (row_read r s d n f h)
    ∙ sym (take-suc r n d h)

-- a report that is written is read back
pub read-written : (r : Report) (size : ℕ) → AllFit r → rows_to (written_report r size) (used r) ≡ r
unfolding written_report
read-written r size f = rows-read r (zeros (size - used r * 118)) ([], nothing) (length r) f (omega arith) ∙ take-length r

pub written-length : (r : Report) (size : ℕ) → AllFit r → used r * 118 ≤ size → length (written_report r size) ≡ size
unfolding written_report
written-length r size f h = omega (arith, length-append (report_bytes r) (zeros (size - used r * 118)), bytes-length r f, length-replicate {A = ℕ} (size - used r * 118) 0)

-- 32 bytes of a table that has them
key-length : (s : List ℕ) (at : ℕ) → at + 32 ≤ length s → length (take 32 (drop at s)) ≡ 32
key-length s at h = length-take-le 32 (drop at s) (omega (arith, length-drop at s))

-- n bytes make a number below 256 to the n-th
pub le-lt : (n : ℕ) (s : List ℕ) (at : ℕ) → ((i : ℕ) → get_or s i 0 < 256) → le n s at < 256 ^ n
unfolding le
le-lt zero s at h = omega arith
le-lt (suc n) s at h = rw (pow-suc, mul_comm (256 ^ n) 256) (omega (arith, digits_lt (h (at + n)) (le-lt n s at h)))

-- the transfer of a whole row of bytes has the size of its row
pub transfer-formed : (s : List ℕ) (at : ℕ) → ((i : ℕ) → get_or s i 0 < 256) → at + 150 ≤ length s → Formed (transfer_at s at)
unfolding transfer_at
transfer-formed s at h l =
    record {
      mint_bytes = bytes (eqb (get_or s (at + 100) 0) 1);
      mint_form = form (eqb (get_or s (at + 100) 0) 1);
      source_bytes = key-length s (at + 36) (omega arith);
      destination_bytes = key-length s (at + 68) (omega arith);
      amount_bits = le-lt 8 s (at + 133) h;
    }
  where
    bytes : (b : Bool) → length (cond b (1 ∷ take 32 (drop (at + 101) s)) (zeros 33)) ≡ 33
    bytes true = ap suc (key-length s (at + 101) (omega arith))
    bytes false = refl

    form : (b : Bool) → (cond b (1 ∷ take 32 (drop (at + 101) s)) (zeros 33) ≡ zeros 33) ⊎ ((k : Key) × (cond b (1 ∷ take 32 (drop (at + 101) s)) (zeros 33) ≡ 1 ∷ k))
    form true = inr (take 32 (drop (at + 101) s), refl)
    form false = inl refl

formed-to : (s : List ℕ) (n : ℕ) → ((i : ℕ) → get_or s i 0 < 256) → n * 150 ≤ length s → AllFormed (transfers_to s n)
unfolding transfers_to
formed-to s zero h l t i = absurd (Memᴰ.not-nil i)
formed-to s (suc n) h l t i = go (Memᴰ.append_cases (transfers_to s n) i) (λ j. formed-to s n h (omega arith) t j)
  where
    go : Memᴰ t (transfers_to s n) ⊎ Memᴰ t (transfer_at s (n * 150) ∷ []) → (Memᴰ t (transfers_to s n) → Formed t) → Formed t
    go (inl j) k = k j
    go (inr j) k = rw (Memᴰ.eq_of_singleton j) (transfer-formed s (n * 150) h (omega arith))

-- all transfers of a table
pub table-formed : (s : List ℕ) → ((i : ℕ) → get_or s i 0 < 256) → AllFormed (transfers_in s)
unfolding transfers_in
table-formed s h = formed-to s (length s / 150) h (omega arith)

pub bytes-append : (r s : Report) → report_bytes (r ++ s) ≡ report_bytes r ++ report_bytes s
unfolding report_bytes
bytes-append [] s = refl
bytes-append (x ∷ r) s = ap (λ (l : List ℕ). report_row_bytes x ++ l) (bytes-append r s) ∙ sym (append_assoc (report_row_bytes x) (report_bytes r) (report_bytes s))

-- the next field of a row
field_next : (s : List ℕ) (at n m : ℕ) → ((i : ℕ) → get_or s i 0 < 256) → at + n + m ≤ length s → take n (drop at s) ++ le_bytes m (le m s (at + n)) ≡ take (n + m) (drop at s)
field_next s at n m h l =
    ap (λ (x : List ℕ). take n (drop at s) ++ x) (le-back m s (at + n) (λ k j. h (at + n + k)) l ∙ ap (take m) (sym (drop-drop n at s)))
    ∙ sym (take-add n m (drop at s))

-- a row that is read, written again
row-again : (s : List ℕ) (at : ℕ) → ((i : ℕ) → get_or s i 0 < 256) → at + 118 ≤ length s → report_row_bytes (report_row_at s at) ≡ take 118 (drop at s)
unfolding report_row_bytes report_row_at
row-again s at h l =
    rw (field_next s at 66 16 h (omega arith), field_next s at 82 16 h (omega arith), field_next s at 98 16 h (omega arith), field_next s at 114 4 h (omega arith))

-- the rows of a buffer of bytes, written again
pub rows_written : (b : List ℕ) (n : ℕ) → ((i : ℕ) → get_or b i 0 < 256) → n * 118 ≤ length b → report_bytes (rows_to b n) ≡ take (n * 118) b
unfolding rows_to report_bytes
rows_written b zero h l = refl
rows_written b (suc n) h l =
    let e : suc n * 118 ≡ n * 118 + 118 = omega arith in
    bytes-append (rows_to b n) (report_row_at b (n * 118) ∷ [])
    ∙ ap₂ ◌++◌ (rows_written b n h (omega arith)) (append-nil (report_row_bytes (report_row_at b (n * 118))) ∙ row-again b (n * 118) h (omega arith))
    ∙ sym (take-add (n * 118) 118 b)
    ∙ ap (λ (k : ℕ). take k b) (sym e)
