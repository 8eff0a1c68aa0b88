-- Sums add in any order, and so does what a report has on a line. Assumes nothing.
use Rattle.std.proofs.Common.{◌≡◌, cond, [], ◌∷◌, ◌++◌, sym, refl, ap, ◌∙◌, arith}
use mathlib.Core.List.{Memᴰ}
use Rattle.wire.specs.Same.{same}
use Rattle.wire.proofs.Same.{same-ne}
use Rattle.month.specs.Transfers.{Line}
use Rattle.month.specs.Sums.{Sums, nothing, plus}
use Rattle.month.specs.Report.{ReportRow, Report, lines_of, held_on}

-- sums are told by their four numbers
pub sums-eq : {a b : Sums} → a.debits ≡ b.debits → a.credits ≡ b.credits → a.fees ≡ b.fees → a.apart ≡ b.apart → a ≡ b
sums-eq p q r s = λ i. record { debits = p i; credits = q i; fees = r i; apart = s i }

pub plus_comm : (a b : Sums) → plus a b ≡ plus b a
unfolding plus
plus_comm a b = sums-eq (omega arith) (omega arith) (omega arith) (omega arith)

pub plus_assoc : (a b c : Sums) → plus (plus a b) c ≡ plus a (plus b c)
unfolding plus
plus_assoc a b c = sums-eq (omega arith) (omega arith) (omega arith) (omega arith)

pub plus-nothing : (a : Sums) → plus a nothing ≡ a
unfolding plus nothing
plus-nothing a = sums-eq (omega arith) (omega arith) (omega arith) (omega arith)

pub nothing-plus : (a : Sums) → plus nothing a ≡ a
nothing-plus a = plus_comm nothing a ∙ plus-nothing a

-- the second and the third of three change places
pub plus-swap : (a b c : Sums) → plus a (plus b c) ≡ plus b (plus a c)
plus-swap a b c = sym (plus_assoc a b c) ∙ ap (λ (x : Sums). plus x c) (plus_comm a b) ∙ plus_assoc b a c

-- what a row brings to a line
abbrev pub share : Line → ReportRow → Sums
share k x = cond (same k x.0) x.1 nothing

pub held-append : (k : Line) (r s : Report) → held_on k (r ++ s) ≡ plus (held_on k r) (held_on k s)
unfolding held_on
held-append k [] s = sym (nothing-plus (held_on k s))
held-append k (x ∷ r) s = rw (held-append k r s) (sym (plus_assoc (share k x) (held_on k r) (held_on k s)))

-- a report has nothing on a line that it lacks
pub held_out : (k : Line) (r : Report) → ¬ Memᴰ k (lines_of r) → held_on k r ≡ nothing
unfolding held_on
held_out k [] n = refl
held_out k (x ∷ r) n = rw (same-ne (λ e. n (Memᴰ.head e)), held_out k r (λ i. n (Memᴰ.tail i))) (plus-nothing nothing)
