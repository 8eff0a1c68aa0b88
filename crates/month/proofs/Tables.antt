-- A report is told by its lines and by what it has on each. Assumes nothing.
use Rattle.std.proofs.Common.{◌≡◌, ◌≢◌, ◌⊎◌, List, [], ◌∷◌, map, sym, refl, ap, ◌∙◌, subst, ap₂, inl, inr}
use mathlib.Core.Path.{Σ_path}
use mathlib.Core.Logic.{by_cases}
use mathlib.Core.List.Memᴰ
use mathlib.Core.List.{Memᴰ}
use Rattle.wire.proofs.Same.{same-eq, same-ne}
use Rattle.wire.specs.Order.{Below}
use Rattle.wire.specs.Ascending.{Ascending, asc_nil, asc_cons}
use Rattle.month.specs.Transfers.{Line}
use Rattle.month.specs.Sums.{Sums, nothing}
use Rattle.month.specs.Report.{ReportRow, Report, lines_of, Sorted, held_on}
use Rattle.wire.proofs.Order.{key?, below-differ}
use Rattle.wire.specs.Members.{SameMembers}
use Rattle.wire.proofs.Ascending.{ascending-unique, ascending-map}
use Rattle.month.proofs.Adds.{plus-nothing, nothing-plus, held_out}

-- lines, each with what f says of it
abbrev pub rows_of : (Line → Sums) → List Line → Report
rows_of f l = map (λ k. (k, f k)) l

pub rows_alike : {f g : Line → Sums} (l : List Line) → ((k : Line) → Memᴰ k l → f k ≡ g k) → rows_of f l ≡ rows_of g l
rows_alike [] h = refl
rows_alike (k ∷ l) h = ap₂ (λ (s : Sums) (t : Report). (k, s) ∷ t) (h k (Memᴰ.head refl)) (rows_alike l (λ x i. h x (Memᴰ.tail i)))

pub rows-lines : (f : Line → Sums) (l : List Line) → lines_of (rows_of f l) ≡ l
rows-lines f [] = refl
rows-lines f (k ∷ l) = ap (λ (m : List Line). k ∷ m) (rows-lines f l)

pub rows-sorted : (f : Line → Sums) {l : List Line} → Ascending (λ x. x) l → Sorted (rows_of f l)
rows-sorted f s = ascending-map (λ k. (k, f k)) (λ x. x.0) s

pub lines-ascend : {r : Report} → Sorted r → Ascending (λ x. x) (lines_of r)
lines-ascend s = ascending-map (λ x. x.0) (λ k. k) s

-- whether a line is in a list
pub mem? : (k : Line) (l : List Line) → Memᴰ k l ⊎ (¬ Memᴰ k l)
mem? k [] = inr (λ i. Memᴰ.not-nil i)
mem? k (x ∷ l) = by_cases (key? k x) (λ e. inl (Memᴰ.head e)) (λ n. go n (mem? k l))
  where
    off : k ≢ x → (¬ Memᴰ k l) → ¬ Memᴰ k (x ∷ l)
    off n m (Memᴰ.head e) = n e
    off n m (Memᴰ.tail i) = m i

    go : k ≢ x → Memᴰ k l ⊎ (¬ Memᴰ k l) → Memᴰ k (x ∷ l) ⊎ (¬ Memᴰ k (x ∷ l))
    go n (inl i) = inl (Memᴰ.tail i)
    go n (inr m) = inr (off n m)

not_after : {x : Line} {l : List Line} → ((y : Line) → Memᴰ y l → Below x y) → ¬ Memᴰ x l
not_after {x} f i = below-differ (f x i) refl

-- on each of its lines a report has what its row says
pub held_in : (f : Line → Sums) {k : Line} {l : List Line} → Ascending (λ x. x) l → Memᴰ k l → held_on k (rows_of f l) ≡ f k
unfolding held_on
held_in f {k = k} asc_nil h = elim h [ ]
held_in f {k} (asc_cons {r = x} {t = l} b s) (Memᴰ.head e) =
    rw (same-eq e, held_out k (rows_of f l) (λ i. not_after b (rw (rows-lines f l, e) at i)))
    (plus-nothing (f x) ∙ ap f (sym e))
held_in f {k} (asc_cons {r = x} {t = l} b s) (Memᴰ.tail i) =
    rw (same-ne {a = k} {b = x} (λ e. below-differ (b k i) (sym e)), held_in f s i) (nothing-plus (f k))

-- on any line, if f says nothing of the lines that are not there
pub held_rows : (f : Line → Sums) {l : List Line} → Ascending (λ x. x) l → (k : Line) → ((¬ Memᴰ k l) → f k ≡ nothing) → held_on k (rows_of f l) ≡ f k
held_rows f {l} s k h = go (mem? k l)
  where
    go : Memᴰ k l ⊎ (¬ Memᴰ k l) → held_on k (rows_of f l) ≡ f k
    go (inl i) = held_in f s i
    go (inr n) = held_out k (rows_of f l) (λ i. n (rw (rows-lines f l) at i)) ∙ sym (h n)

-- a sorted report again, from its lines and what it has on each
pub rows-again : {r : Report} → Sorted r → rows_of (λ k. held_on k r) (lines_of r) ≡ r
unfolding held_on
rows-again asc_nil = refl
rows-again (asc_cons {r = x} {t = r} b s) = ap₂ ◌∷◌ first (rows_alike (lines_of r) (λ k i. rest k (after k i)) ∙ rows-again s)
  where
    after : (k : Line) → Memᴰ k (lines_of r) → Below x.0 k
    after k i = let y = Memᴰ.of_map (λ (z : ReportRow). z.0) r i in subst (λ (l : Line). Below x.0 l) y.2 (b y.0 y.1)

    first : (x.0, held_on x.0 (x ∷ r)) ≡ x
    first = Σ_path refl (rw (same-eq {a = x.0} refl, held_out x.0 r (λ i. below-differ (after x.0 i) refl)) (plus-nothing x.1))

    rest : (k : Line) → Below x.0 k → held_on k (x ∷ r) ≡ held_on k r
    rest k h = rw (same-ne {a = k} {b = x.0} (λ e. below-differ h (sym e))) (nothing-plus (held_on k r))

-- sorted reports with the same lines, and the same on each line, are equal
pub report-unique : {r s : Report} → Sorted r → Sorted s → SameMembers (lines_of r) (lines_of s) → ((k : Line) → held_on k r ≡ held_on k s) → r ≡ s
report-unique {r} {s} a b m h =
    sym (rows-again a)
    ∙ rows_alike (lines_of r) (λ k i. h k)
    ∙ ap (rows_of (λ k. held_on k s)) (ascending-unique (lines-ascend a) (lines-ascend b) m)
    ∙ rows-again b
