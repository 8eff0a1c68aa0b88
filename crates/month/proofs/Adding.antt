-- Rows added one by one: what they do to lines and sums, that their order does not matter, and that feeding is adding parts. Assumes nothing.
use Rattle.std.proofs.Common.{◌≡◌, suc, ◌≤◌, Bool, true, false, cond, ◌⊎◌, List, [], ◌∷◌, ◌++◌, length, sym, refl, ap, ◌∙◌, subst, inl, inr, append-nil, arith}
use mathlib.Core.Logic.{⊎_map}
use mathlib.Core.List.Memᴰ
use mathlib.Core.List.{Memᴰ}
use Rattle.wire.specs.Same.{same}
use Rattle.wire.proofs.Same.{same-eq, same-ne}
use Rattle.wire.specs.Order.{Below, lt_key}
use Rattle.wire.specs.Ascending.{asc_nil, asc_cons}
use Rattle.month.specs.Transfers.{FedTransfer, Line}
use Rattle.month.specs.Sums.{Sums, nothing, plus}
use Rattle.month.specs.Report.{ReportRow, Report, lines_of, Sorted, held_on, fed_into}
use Rattle.month.specs.Adding.{add_row, add_rows, parts_in}
use Rattle.wire.proofs.Order.{below-differ, below-trans, Order, less, level, more, order, lt_key-below, lt_key-above, lt_key-level}
use Rattle.wire.specs.Members.{SameMembers}
use Rattle.month.proofs.Adds.{plus_comm, plus_assoc, plus-nothing, share}
use Rattle.month.proofs.Lines.{ascending-same}
use Rattle.month.proofs.Tables.{report-unique}
use Rattle.month.proofs.Parts.{parts-lines, parts-sums}
use Rattle.month.proofs.Reports.{fed-sorted, fed-lines, fed-held}

-- s is r with the row e put in its place, or added to the row of its line
pub data Added (e : ReportRow) : Report → Report → Type 0 where
  last : Added e [] (e ∷ [])
  before : {x : ReportRow} {r : Report} → Below e.0 x.0 → Added e (x ∷ r) (e ∷ x ∷ r)
  met : {x : ReportRow} {r : Report} → e.0 ≡ x.0 → Added e (x ∷ r) ((x.0, plus x.1 e.1) ∷ r)
  past : {x : ReportRow} {r s : Report} → Below x.0 e.0 → Added e r s → Added e (x ∷ r) (x ∷ s)

pub added : (r : Report) (e : ReportRow) → Added e r (add_row r e)
unfolding add_row
added [] e = last
added (x ∷ r) e = go (order e.0 x.0) (added r e)
  where
    go : Order e.0 x.0 → Added e r (add_row r e)
        → Added e (x ∷ r) (cond (lt_key e.0 x.0) (e ∷ x ∷ r) (cond (same e.0 x.0) ((x.0, plus x.1 e.1) ∷ r) (x ∷ add_row r e)))
    go (less h) i = rw (lt_key-below h) (before h)
    go (level q) i = rw (lt_key-level q, same-eq q) (met q)
    go (more h) i = rw (lt_key-above h, same-ne (λ q. below-differ h (sym q))) (past h i)

plus-met : (b : Bool) (u v h : Sums) → plus (cond b (plus u v) nothing) h ≡ plus (plus (cond b u nothing) h) (cond b v nothing)
plus-met true u v h = plus_assoc u v h ∙ ap (plus u) (plus_comm v h) ∙ sym (plus_assoc u h v)
plus-met false u v h = sym (plus-nothing (plus nothing h))

module _ {e : ReportRow} where
  added_new : {r s : Report} → Added e r s → Memᴰ e.0 (lines_of s)
  added_new last = Memᴰ.head refl
  added_new (before h) = Memᴰ.head refl
  added_new (met q) = Memᴰ.head q
  added_new (past h i) = Memᴰ.tail (added_new i)

  added-old : {k : Line} {r s : Report} → Added e r s → Memᴰ k (lines_of r) → Memᴰ k (lines_of s)
  added-old last j = Memᴰ.tail j
  added-old (before h) j = Memᴰ.tail j
  added-old (met q) j = j
  added-old (past h i) (Memᴰ.head q) = Memᴰ.head q
  added-old (past h i) (Memᴰ.tail j) = Memᴰ.tail (added-old i j)

  added-mem : {k : Line} {r s : Report} → Added e r s → Memᴰ k (lines_of s) → (k ≡ e.0) ⊎ Memᴰ k (lines_of r)
  added-mem last j = Memᴰ.cases_cons j
  added-mem (before h) j = Memᴰ.cases_cons j
  added-mem (met q) j = inr j
  added-mem (past h i) (Memᴰ.head q) = inr (Memᴰ.head q)
  added-mem (past h i) (Memᴰ.tail j) = ⊎_map (λ q. q) (λ n. Memᴰ.tail n) (added-mem i j)

  added-above : (k : Line) {r s : Report} → Below k e.0 → ((z : ReportRow) → Memᴰ z r → Below k z.0) → Added e r s → (y : ReportRow) → Memᴰ y s → Below k y.0
  added-above k {r} h f i y j = go (added-mem i (Memᴰ.map (λ (z : ReportRow). z.0) j))
    where
      go : (y.0 ≡ e.0) ⊎ Memᴰ y.0 (lines_of r) → Below k y.0
      go (inl q) = rw q h
      go (inr n) = let z = Memᴰ.of_map (λ (z : ReportRow). z.0) r n in subst (λ (l : Line). Below k l) z.2 (f z.0 z.1)

  added-sorted : {r s : Report} → Added e r s → Sorted r → Sorted s
  added-sorted last asc_nil = asc_cons (λ x i. absurd (Memᴰ.not-nil i)) asc_nil
  added-sorted (before {x} {r} h) (asc_cons f s) = asc_cons (λ y i. go y (Memᴰ.cases_cons i)) (asc_cons f s)
    where
      go : (y : ReportRow) → (y ≡ x) ⊎ Memᴰ y r → Below e.0 y.0
      go y (inl q) = rw q h
      go y (inr i) = below-trans h (f y i)
  added-sorted (met {x} q) (asc_cons f s) = asc_cons f s
  added-sorted (past {x} h i) (asc_cons f s) = asc_cons (added-above x.0 h f i) (added-sorted i s)

  added-held : (k : Line) {r s : Report} → Added e r s → held_on k s ≡ plus (held_on k r) (share k e)
  unfolding held_on
  added-held k last = plus_comm (share k e) nothing
  added-held k (before {x} {r} h) = plus_comm (share k e) (held_on k (x ∷ r))
  added-held k (met {x} {r} q) = rw q (plus-met (same k x.0) x.1 e.1 (held_on k r))
  added-held k (past {x} {r} h i) = ap (plus (share k x)) (added-held k i) ∙ sym (plus_assoc (share k x) (held_on k r) (share k e))

  added-length : {r s : Report} → Added e r s → (length r ≤ length s) × (length s ≤ suc (length r))
  added-length last = (omega arith, omega arith)
  added-length (before h) = (omega arith, omega arith)
  added-length (met q) = (omega arith, omega arith)
  added-length (past h i) = let n = added-length i in (omega (arith, n.0), omega (arith, n.1))

  -- a row more exactly where the line is new
  added-met : {r s : Report} → Sorted r → Added e r s → Memᴰ e.0 (lines_of r) → length s ≡ length r
  added-met a last m = absurd (Memᴰ.not-nil m)
  added-met (asc_cons f a) (before h) (Memᴰ.head q) = absurd (below-differ h q)
  added-met (asc_cons {r = x} {t = r} f a) (before h) (Memᴰ.tail m) =
      let z = Memᴰ.of_map (λ (z : ReportRow). z.0) r m in absurd (below-differ (below-trans h (f z.0 z.1)) (sym z.2))
  added-met a (met q) m = refl
  added-met (asc_cons f a) (past h i) (Memᴰ.head q) = absurd (below-differ h (sym q))
  added-met (asc_cons f a) (past h i) (Memᴰ.tail m) = ap suc (added-met a i m)

  added-fresh : {r s : Report} → Added e r s → (¬ Memᴰ e.0 (lines_of r)) → length s ≡ suc (length r)
  added-fresh last n = refl
  added-fresh (before h) n = refl
  added-fresh (met q) n = absurd (n (Memᴰ.head q))
  added-fresh (past h i) n = ap suc (added-fresh i (λ m. n (Memᴰ.tail m)))

-- a row added: the report stays sorted
pub add-sorted : {r : Report} (e : ReportRow) → Sorted r → Sorted (add_row r e)
add-sorted {r} e a = added-sorted (added r e) a

-- it has on each line what it had, and the row's sums on the row's line
pub add-held : (k : Line) (r : Report) (e : ReportRow) → held_on k (add_row r e) ≡ plus (held_on k r) (share k e)
add-held k r e = added-held k (added r e)

-- its lines are those it had, and the row's
pub add-lines : (r : Report) (e : ReportRow) → SameMembers (lines_of (add_row r e)) (e.0 ∷ lines_of r)
add-lines r e = record { to = λ i. to (added-mem (added r e) i); from = λ i. from i }
  where
    to : {k : Line} → (k ≡ e.0) ⊎ Memᴰ k (lines_of r) → Memᴰ k (e.0 ∷ lines_of r)
    to (inl q) = Memᴰ.head q
    to (inr i) = Memᴰ.tail i

    from : {k : Line} → Memᴰ k (e.0 ∷ lines_of r) → Memᴰ k (lines_of (add_row r e))
    from (Memᴰ.head q) = Memᴰ.cast q (added_new (added r e))
    from (Memᴰ.tail i) = added-old (added r e) i

-- the rows used: as many where the line stands there, one more where it is new
pub add-again : {r : Report} (e : ReportRow) → Sorted r → Memᴰ e.0 (lines_of r) → length (add_row r e) ≡ length r
add-again {r} e a m = added-met a (added r e) m

pub add-new : (r : Report) (e : ReportRow) → (¬ Memᴰ e.0 (lines_of r)) → length (add_row r e) ≡ suc (length r)
add-new r e n = added-fresh (added r e) n

pub add-grows : (r : Report) (e : ReportRow) → length r ≤ length (add_row r e)
add-grows r e = (added-length (added r e)).0

-- rows added one after the other
pub add-all-sorted : {r : Report} (es : List ReportRow) → Sorted r → Sorted (add_rows r es)
unfolding add_rows
add-all-sorted [] a = a
add-all-sorted {r = r} (e ∷ es) a = add-all-sorted {r = add_row r e} es (add-sorted e a)

pub add-all-held : (k : Line) (r : Report) (es : List ReportRow) → held_on k (add_rows r es) ≡ plus (held_on k r) (held_on k es)
unfolding add_rows held_on
add-all-held k r [] = sym (plus-nothing (held_on k r))
add-all-held k r (e ∷ es) =
    add-all-held k (add_row r e) es
    ∙ ap (λ (s : Sums). plus s (held_on k es)) (add-held k r e)
    ∙ plus_assoc (held_on k r) (share k e) (held_on k es)

pub add-all-lines : (r : Report) (es : List ReportRow) → SameMembers (lines_of (add_rows r es)) (lines_of r ++ lines_of es)
unfolding add_rows
add-all-lines r [] = rw (append-nil (lines_of r)) (record { to = λ i. i; from = λ i. i })
add-all-lines r (e ∷ es) = record { to = λ i. to (add-all-lines (add_row r e) es) i; from = λ i. from (add-all-lines (add_row r e) es) i }
  where
    right : {k : Line} → Memᴰ k (e.0 ∷ lines_of r) → Memᴰ k (lines_of r ++ lines_of (e ∷ es))
    right (Memᴰ.head q) = Memᴰ.append_right (lines_of r) (Memᴰ.head q)
    right (Memᴰ.tail i) = Memᴰ.append_left (lines_of (e ∷ es)) i

    later : {k : Line} → Memᴰ k (lines_of (add_row r e)) ⊎ Memᴰ k (lines_of es) → Memᴰ k (lines_of r ++ lines_of (e ∷ es))
    later (inl i) = right ((add-lines r e).to i)
    later (inr i) = Memᴰ.append_right (lines_of r) (Memᴰ.tail i)

    to : {k : Line} → SameMembers (lines_of (add_rows (add_row r e) es)) (lines_of (add_row r e) ++ lines_of es) → Memᴰ k (lines_of (add_rows (add_row r e) es)) → Memᴰ k (lines_of r ++ lines_of (e ∷ es))
    to s i = later (Memᴰ.append_cases (lines_of (add_row r e)) (s.to i))

    left : {k : Line} → Memᴰ k (lines_of r) ⊎ Memᴰ k (lines_of (e ∷ es)) → Memᴰ k (lines_of (add_row r e) ++ lines_of es)
    left (inl i) = Memᴰ.append_left (lines_of es) ((add-lines r e).from (Memᴰ.tail i))
    left (inr (Memᴰ.head q)) = Memᴰ.append_left (lines_of es) ((add-lines r e).from (Memᴰ.head q))
    left (inr (Memᴰ.tail i)) = Memᴰ.append_right (lines_of (add_row r e)) i

    from : {k : Line} → SameMembers (lines_of (add_rows (add_row r e) es)) (lines_of (add_row r e) ++ lines_of es) → Memᴰ k (lines_of r ++ lines_of (e ∷ es)) → Memᴰ k (lines_of (add_rows (add_row r e) es))
    from s i = s.from (left (Memᴰ.append_cases (lines_of r) i))

pub add-all-grows : (r : Report) (es : List ReportRow) → length r ≤ length (add_rows r es)
unfolding add_rows
add-all-grows r [] = omega arith
add-all-grows r (e ∷ es) = omega (arith, add-grows r e, add-all-grows (add_row r e) es)

pub add-all-append : (r : Report) (es fs : List ReportRow) → add_rows r (es ++ fs) ≡ add_rows (add_rows r es) fs
unfolding add_rows
add-all-append r [] fs = refl
add-all-append r (e ∷ es) fs = add-all-append (add_row r e) es fs

-- feeding transfers is adding their parts, one after the other
pub fed-adds : {r : Report} (ts : List FedTransfer) → Sorted r → add_rows r (parts_in ts) ≡ fed_into r ts
fed-adds {r} ts a =
    report-unique
    (add-all-sorted (parts_in ts) a)
    (fed-sorted r ts)
    same_lines
    (λ k. add-all-held k r (parts_in ts) ∙ ap (plus (held_on k r)) (parts-sums k ts) ∙ sym (fed-held k r ts))
  where
    same_lines : SameMembers (lines_of (add_rows r (parts_in ts))) (lines_of (fed_into r ts))
    same_lines = rw (fed-lines r ts, ← parts-lines ts)
        (record { to = λ i. (ascending-same (lines_of r ++ lines_of (parts_in ts))).from ((add-all-lines r (parts_in ts)).to i); from = λ i. (add-all-lines r (parts_in ts)).from ((ascending-same (lines_of r ++ lines_of (parts_in ts))).to i) })

-- the rows used never become fewer
pub fed-grows : {r : Report} (ts : List FedTransfer) → Sorted r → length r ≤ length (fed_into r ts)
fed-grows {r} ts a = omega (arith, ap (λ (s : Report). length s) (fed-adds ts a), add-all-grows r (parts_in ts))
