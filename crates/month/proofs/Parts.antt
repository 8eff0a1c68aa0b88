-- The parts of transfers: their lines are those that the transfers touch, and they sum to the sums of each line. Assumes nothing.
use Rattle.std.proofs.Common.{◌≡◌, ℕ, ◌+◌, Bool, true, false, cond, ◌⊎◌, List, [], ◌∷◌, ◌++◌, sym, refl, ap, ◌∙◌, ap₂, inl, inr, append_assoc, arith}
use mathlib.Core.List.Memᴰ
use mathlib.Core.List.{Memᴰ, Permᴰ}
use Rattle.wire.specs.Same.{same}
use Rattle.month.specs.Transfers.{FedTransfer, summed, withheld, rest_of, Line, own, source_line, destination_line, touched}
use Rattle.month.specs.Sums.{sum, those, debit_on, credit_on, fee_on, apart_on, debits_of, credits_of, fees_of, apart_of, Sums, sums_of, nothing, plus}
use Rattle.month.specs.Report.{ReportRow, Report, lines_of, lines_in, held_on}
use Rattle.month.specs.Adding.{whole_part, source_part, destination_part, apart_part, parts_of, parts_in}
use Rattle.month.proofs.Adds.{sums-eq, plus-swap, held-append, held_out}

lines-append : (r s : Report) → lines_of (r ++ s) ≡ lines_of r ++ lines_of s
lines-append [] s = refl
lines-append (x ∷ r) s = ap (λ (l : List Line). x.0 ∷ l) (lines-append r s)

parts-touched : (t : FedTransfer) → lines_of (parts_of t) ≡ touched t
unfolding parts_of touched
parts-touched t = go (summed t)
  where
    go : (b : Bool) → lines_of (cond b ((own t, whole_part t) ∷ (source_line t, source_part t) ∷ (destination_line t, destination_part t) ∷ []) ((own t, apart_part) ∷ [])) ≡ cond b (own t ∷ source_line t ∷ destination_line t ∷ []) (own t ∷ [])
    go true = refl
    go false = refl

-- the parts' lines, in order
pub parts-lines : (ts : List FedTransfer) → lines_of (parts_in ts) ≡ lines_in ts
unfolding parts_in lines_in
parts-lines [] = refl
parts-lines (t ∷ ts) = lines-append (parts_of t) (parts_in ts) ∙ ap₂ ◌++◌ (parts-touched t) (parts-lines ts)

-- what a transfer brings to a line
unfoldable pub brings : Line → FedTransfer → Sums
brings k t = cond (summed t) (record { debits = debit_on k t; credits = credit_on k t; fees = fee_on k t; apart = 0 }) (record { debits = 0; credits = 0; fees = 0; apart = apart_on k t })

sums-cons : (k : Line) (t : FedTransfer) (ts : List FedTransfer) → sums_of k (t ∷ ts) ≡ plus (brings k t) (sums_of k ts)
unfolding sums_of debits_of credits_of fees_of apart_of sum those plus brings
sums-cons k t ts = go (summed t) refl
  where
    go : (b : Bool) → summed t ≡ b → sums_of k (t ∷ ts) ≡ plus (brings k t) (sums_of k ts)
    go true e = rw e (sums-eq refl refl refl (omega arith))
    go false e = rw e (sums-eq (omega arith) (omega arith) (omega arith) refl)

three : (o s d : Bool) (a c f : ℕ)
    → plus (cond o (record { debits = a; credits = c; fees = f; apart = 0 }) nothing)
    (plus (cond s (record { debits = a; credits = 0; fees = 0; apart = 0 }) nothing)
    (plus (cond d (record { debits = 0; credits = c; fees = f; apart = 0 }) nothing) nothing))
    ≡ record { debits = cond o a 0 + cond s a 0; credits = cond o c 0 + cond d c 0; fees = cond o f 0 + cond d f 0; apart = 0 }
unfolding plus nothing
three true true true a c f = sums-eq (omega arith) (omega arith) (omega arith) (omega arith)
three true true false a c f = sums-eq (omega arith) (omega arith) (omega arith) (omega arith)
three true false true a c f = sums-eq (omega arith) (omega arith) (omega arith) (omega arith)
three true false false a c f = sums-eq (omega arith) (omega arith) (omega arith) (omega arith)
three false true true a c f = sums-eq (omega arith) (omega arith) (omega arith) (omega arith)
three false true false a c f = sums-eq (omega arith) (omega arith) (omega arith) (omega arith)
three false false true a c f = sums-eq (omega arith) (omega arith) (omega arith) (omega arith)
three false false false a c f = sums-eq (omega arith) (omega arith) (omega arith) (omega arith)

one : (o : Bool) → plus (cond o apart_part nothing) nothing ≡ record { debits = 0; credits = 0; fees = 0; apart = cond o 1 0 }
unfolding plus nothing
one true = sums-eq refl refl refl refl
one false = sums-eq refl refl refl refl

parts-brings : (k : Line) (t : FedTransfer) → held_on k (parts_of t) ≡ brings k t
unfolding held_on parts_of brings debit_on credit_on fee_on apart_on
parts-brings k t = go (summed t) refl
  where
    go : (b : Bool) → summed t ≡ b → held_on k (parts_of t) ≡ brings k t
    go true e = rw e (three (same k (own t)) (same k (source_line t)) (same k (destination_line t)) t.amount (rest_of t) (withheld t))
    go false e = rw e (one (same k (own t)))

pub sums-nil : (k : Line) → sums_of k [] ≡ nothing
unfolding sums_of debits_of credits_of fees_of apart_of sum those nothing
sums-nil k = refl

-- the sums of a line over a list are what the parts have on it
pub parts-sums : (k : Line) (ts : List FedTransfer) → held_on k (parts_in ts) ≡ sums_of k ts
unfolding parts_in held_on
parts-sums k [] = sym (sums-nil k)
parts-sums k (t ∷ ts) = held-append k (parts_of t) (parts_in ts) ∙ ap₂ plus (parts-brings k t) (parts-sums k ts) ∙ sym (sums-cons k t ts)

-- a line that no transfer touches has no sums
pub untouched : (k : Line) (ts : List FedTransfer) → (¬ Memᴰ k (lines_in ts)) → sums_of k ts ≡ nothing
untouched k ts n = sym (parts-sums k ts) ∙ held_out k (parts_in ts) (λ i. n (rw (parts-lines ts) at i))

parts-append : (us ts : List FedTransfer) → parts_in (us ++ ts) ≡ parts_in us ++ parts_in ts
unfolding parts_in
parts-append [] ts = refl
parts-append (u ∷ us) ts = ap (λ (l : List ReportRow). parts_of u ++ l) (parts-append us ts) ∙ sym (append_assoc (parts_of u) (parts_in us) (parts_in ts))

-- the sums over two lists, one after the other, are the sums over each added
pub sums-append : (k : Line) (us ts : List FedTransfer) → sums_of k (us ++ ts) ≡ plus (sums_of k us) (sums_of k ts)
sums-append k us ts =
    sym (parts-sums k (us ++ ts))
    ∙ ap (held_on k) (parts-append us ts)
    ∙ held-append k (parts_in us) (parts_in ts)
    ∙ ap₂ plus (parts-sums k us) (parts-sums k ts)

pub lines-in-append : (us ts : List FedTransfer) → lines_in (us ++ ts) ≡ lines_in us ++ lines_in ts
unfolding lines_in
lines-in-append [] ts = refl
lines-in-append (u ∷ us) ts = ap (λ (l : List Line). touched u ++ l) (lines-in-append us ts) ∙ sym (append_assoc (touched u) (lines_in us) (lines_in ts))

-- the order of the transfers does not matter to a sum
pub sums-perm : (k : Line) {us ts : List FedTransfer} → Permᴰ us ts → sums_of k us ≡ sums_of k ts
sums-perm k Permᴰ.nil = refl
sums-perm k (Permᴰ.cons {a = u} {b = t} {l₁ = us} {l₂ = ts} e p) = sums-cons k u us ∙ ap₂ plus (ap (brings k) e) (sums-perm k p) ∙ sym (sums-cons k t ts)
sums-perm k (Permᴰ.swap {a = a} {b = b} {a' = c} {b' = d} {l = l} e f) =
    rw (e, f)
    (sums-cons k d (c ∷ l)
    ∙ ap (plus (brings k d)) (sums-cons k c l)
    ∙ plus-swap (brings k d) (brings k c) (sums_of k l)
    ∙ sym (ap (plus (brings k c)) (sums-cons k d l))
    ∙ sym (sums-cons k c (d ∷ l)))
sums-perm k (Permᴰ.trans p q) = sums-perm k p ∙ sums-perm k q

-- a line is touched exactly when some transfer touches it
pub lines-mem : {k : Line} (ts : List FedTransfer) → Memᴰ k (lines_in ts) → (t : FedTransfer) × Memᴰ t ts × Memᴰ k (touched t)
unfolding lines_in
lines-mem [] i = absurd (Memᴰ.not-nil i)
lines-mem {k} (t ∷ ts) i = go (Memᴰ.append_cases (touched t) i) (λ j. lines-mem ts j)
  where
    go : Memᴰ k (touched t) ⊎ Memᴰ k (lines_in ts) → (Memᴰ k (lines_in ts) → (u : FedTransfer) × Memᴰ u ts × Memᴰ k (touched u)) → (u : FedTransfer) × Memᴰ u (t ∷ ts) × Memᴰ k (touched u)
    go (inl j) below = (t, Memᴰ.head refl, j)
    go (inr j) below = let u = below j in (u.0, Memᴰ.tail u.1, u.2)

pub mem-lines : {k : Line} {t : FedTransfer} {ts : List FedTransfer} → Memᴰ t ts → Memᴰ k (touched t) → Memᴰ k (lines_in ts)
unfolding lines_in
mem-lines (Memᴰ.head {xs = ts} e) i = Memᴰ.append_left (lines_in ts) (rw e at i)
mem-lines (Memᴰ.tail {x = u} j) i = Memᴰ.append_right (touched u) (mem-lines j i)
