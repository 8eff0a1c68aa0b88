-- The report: it ascends, has a line exactly when a transfer touches it, can be made in parts, and in any order. Assumes nothing.
use Rattle.std.proofs.Common.{◌≡◌, ◌*◌, ◌≤◌, Bool, true, false, cond, ◌⊎◌, List, [], ◌∷◌, ◌++◌, length, sym, refl, ap, ◌∙◌, subst, ap₂, inl, inr, append_assoc, append-nil, arith, length-append}
use mathlib.Core.List.Memᴰ
use mathlib.Core.List.Permᴰ
use mathlib.Core.List.{Memᴰ, Permᴰ}
use Rattle.month.specs.Transfers.{FedTransfer, Line, summed, own, source_line, destination_line, touched}
use Rattle.month.specs.Sums.{Sums, sums_of, nothing, plus}
use Rattle.month.specs.Report.{ReportRow, Report, lines_of, Sorted, lines_in, ascending, report_of, held_on, fed_into}
use Rattle.wire.specs.Members.{SameMembers}
use Rattle.wire.proofs.Members.{perm-mem}
use Rattle.wire.proofs.Ascending.{ascending-once}
use Rattle.month.proofs.Adds.{nothing-plus, plus-nothing, plus_assoc, held_out}
use Rattle.month.proofs.Lines.{ascending-ascends, ascending-same, ascending-alike, ascending-still}
use Rattle.month.proofs.Tables.{rows_of, rows_alike, rows-lines, rows-sorted, held_rows, rows-again, lines-ascend}
use Rattle.month.proofs.Parts.{untouched, sums-nil, sums-append, lines-in-append, sums-perm, lines-mem, mem-lines}

-- a report ascends strictly, so no line stands twice
pub report-sorted : (ts : List FedTransfer) → Sorted (report_of ts)
unfolding report_of
report-sorted ts = rows-sorted (λ k. sums_of k ts) (ascending-ascends (lines_in ts))

pub report-once : {x y : ReportRow} (ts : List FedTransfer) → Memᴰ x (report_of ts) → Memᴰ y (report_of ts) → x.0 ≡ y.0 → x ≡ y
report-once ts i j e = ascending-once (report-sorted ts) i j e

-- its lines are those that a transfer touches
pub report-lines : (ts : List FedTransfer) → lines_of (report_of ts) ≡ ascending (lines_in ts)
unfolding report_of
report-lines ts = rows-lines (λ k. sums_of k ts) (ascending (lines_in ts))

pub report-touched : {k : Line} (ts : List FedTransfer) → Memᴰ k (lines_of (report_of ts)) → (t : FedTransfer) × Memᴰ t ts × Memᴰ k (touched t)
report-touched ts i = lines-mem ts ((ascending-same (lines_in ts)).to (rw (report-lines ts) at i))

pub touched-report : {k : Line} {t : FedTransfer} {ts : List FedTransfer} → Memᴰ t ts → Memᴰ k (touched t) → Memᴰ k (lines_of (report_of ts))
touched-report {ts} i j = rw (report-lines ts) ((ascending-same (lines_in ts)).from (mem-lines i j))

-- each row has the sums of its line
pub report-row : {x : ReportRow} (ts : List FedTransfer) → Memᴰ x (report_of ts) → x.1 ≡ sums_of x.0 ts
unfolding report_of
report-row {x} ts i =
    let y = Memᴰ.of_map (λ k. (k, sums_of k ts)) (ascending (lines_in ts)) i in
    subst (λ (z : ReportRow). z.1 ≡ sums_of z.0 ts) y.2 refl

-- at most three rows for each transfer
touched-length : (t : FedTransfer) → length (touched t) ≤ 3
unfolding touched
touched-length t = go (summed t)
  where
    go : (b : Bool) → length (cond b (own t ∷ source_line t ∷ destination_line t ∷ []) (own t ∷ [])) ≤ 3
    go true = omega arith
    go false = omega arith

pub lines-length : (ts : List FedTransfer) → length (lines_in ts) ≤ 3 * length ts
unfolding lines_in
lines-length [] = omega arith
lines-length (t ∷ ts) = omega (arith, length-append (touched t) (lines_in ts), touched-length t, lines-length ts)

-- two lists of lines, each with the same members as another
both : {a b c d : List Line} → SameMembers a b → SameMembers c d → SameMembers (a ++ c) (b ++ d)
both {a} {b} {c} {d} s t = record { to = λ i. to (Memᴰ.append_cases a i); from = λ i. from (Memᴰ.append_cases b i) }
  where
    to : {x : Line} → Memᴰ x a ⊎ Memᴰ x c → Memᴰ x (b ++ d)
    to (inl i) = Memᴰ.append_left d (s.to i)
    to (inr i) = Memᴰ.append_right b (t.to i)

    from : {x : Line} → Memᴰ x b ⊎ Memᴰ x d → Memᴰ x (a ++ c)
    from (inl i) = Memᴰ.append_left c (s.from i)
    from (inr i) = Memᴰ.append_right a (t.from i)

-- what is fed ascends, whatever stood there
pub fed-sorted : (r : Report) (ts : List FedTransfer) → Sorted (fed_into r ts)
unfolding fed_into
fed-sorted r ts = rows-sorted (λ k. plus (held_on k r) (sums_of k ts)) (ascending-ascends (lines_of r ++ lines_in ts))

pub fed-lines : (r : Report) (ts : List FedTransfer) → lines_of (fed_into r ts) ≡ ascending (lines_of r ++ lines_in ts)
unfolding fed_into
fed-lines r ts = rows-lines (λ k. plus (held_on k r) (sums_of k ts)) (ascending (lines_of r ++ lines_in ts))

pub fed-held : (k : Line) (r : Report) (ts : List FedTransfer) → held_on k (fed_into r ts) ≡ plus (held_on k r) (sums_of k ts)
unfolding fed_into
fed-held k r ts = held_rows (λ l. plus (held_on l r) (sums_of l ts)) (ascending-ascends (lines_of r ++ lines_in ts)) k (λ n. gone (λ i. n ((ascending-same (lines_of r ++ lines_in ts)).from i)))
  where
    gone : (¬ Memᴰ k (lines_of r ++ lines_in ts)) → plus (held_on k r) (sums_of k ts) ≡ nothing
    gone n =
        ap₂ plus (held_out k r (λ i. n (Memᴰ.append_left (lines_in ts) i))) (untouched k ts (λ i. n (Memᴰ.append_right (lines_of r) i)))
        ∙ plus-nothing nothing

-- the empty report fed
pub fed-none : (ts : List FedTransfer) → fed_into [] ts ≡ report_of ts
unfolding fed_into report_of held_on
fed-none ts = rows_alike (ascending (lines_in ts)) (λ k i. nothing-plus (sums_of k ts))

-- no transfers fed
pub fed-nothing : {r : Report} → Sorted r → fed_into r [] ≡ r
unfolding fed_into lines_in
fed-nothing {r} s =
    rows_alike (ascending (lines_of r ++ [])) (λ k i. ap (plus (held_on k r)) (sums-nil k) ∙ plus-nothing (held_on k r))
    ∙ ap (rows_of (λ k. held_on k r)) (ap ascending (append-nil (lines_of r)) ∙ ascending-still (lines-ascend s))
    ∙ rows-again s

-- some transfers fed, and then others
pub fed-fed : (r : Report) (us ts : List FedTransfer) → fed_into (fed_into r us) ts ≡ fed_into r (us ++ ts)
unfolding fed_into
fed-fed r us ts =
    rows_alike (ascending (lines_of (fed_into r us) ++ lines_in ts)) (λ k i. sums k)
    ∙ ap (rows_of (λ k. plus (held_on k r) (sums_of k (us ++ ts)))) (ascending-alike same_lines)
  where
    sums : (k : Line) → plus (held_on k (fed_into r us)) (sums_of k ts) ≡ plus (held_on k r) (sums_of k (us ++ ts))
    sums k =
        ap (λ (s : Sums). plus s (sums_of k ts)) (fed-held k r us)
        ∙ plus_assoc (held_on k r) (sums_of k us) (sums_of k ts)
        ∙ ap (plus (held_on k r)) (sym (sums-append k us ts))

    same_lines : SameMembers (lines_of (fed_into r us) ++ lines_in ts) (lines_of r ++ lines_in (us ++ ts))
    same_lines =
        rw (lines-in-append us ts, fed-lines r us, ← append_assoc (lines_of r) (lines_in us) (lines_in ts))
        (both (ascending-same (lines_of r ++ lines_in us)) (record { to = λ i. i; from = λ i. i }))

-- transfers fed into a report of others give the report of all
pub fed-report : (us ts : List FedTransfer) → fed_into (report_of us) ts ≡ report_of (us ++ ts)
fed-report us ts = ap (λ (r : Report). fed_into r ts) (sym (fed-none us)) ∙ fed-fed [] us ts ∙ fed-none (us ++ ts)

-- the empty report is that of no transfers
pub report-none : report_of [] ≡ []
unfolding report_of lines_in ascending
report-none = refl

pub perm-lines : {us ts : List FedTransfer} → Permᴰ us ts → SameMembers (lines_in us) (lines_in ts)
perm-lines {us} {ts} p = record { to = λ i. go p (lines-mem us i); from = λ i. go (Permᴰ.symm p) (lines-mem ts i) }
  where
    go : {k : Line} {vs ws : List FedTransfer} → Permᴰ vs ws → (t : FedTransfer) × Memᴰ t vs × Memᴰ k (touched t) → Memᴰ k (lines_in ws)
    go q (t, i, j) = mem-lines (perm-mem q i) j

-- the order of the transfers does not matter
pub report-perm : {us ts : List FedTransfer} → Permᴰ us ts → report_of us ≡ report_of ts
unfolding report_of
report-perm {us} {ts} p =
    rows_alike (ascending (lines_in us)) (λ k i. sums-perm k p)
    ∙ ap (rows_of (λ k. sums_of k ts)) (ascending-alike (perm-lines p))

-- nor does it when they are fed into what stood there
pub fed-perm : (r : Report) {us ts : List FedTransfer} → Permᴰ us ts → fed_into r us ≡ fed_into r ts
unfolding fed_into
fed-perm r {us} {ts} p =
    rows_alike (ascending (lines_of r ++ lines_in us)) (λ k i. ap (plus (held_on k r)) (sums-perm k p))
    ∙ ap (rows_of (λ k. plus (held_on k r) (sums_of k ts))) (ascending-alike (both {a = lines_of r} {b = lines_of r} (record { to = λ i. i; from = λ i. i }) (perm-lines p)))
