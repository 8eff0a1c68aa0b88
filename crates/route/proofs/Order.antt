-- Order does not matter: two packs with the same evidence, in any order, and what the call leaves of them in table 0. It leaves the rows of the pack's mint
-- table, and evidence in another order makes a table like it, but for mints that are in doubt.
-- Assumes nothing.
use mathlib.Core.Path.{◌≡◌, refl, sym, ap, ◌∙◌}
use mathlib.Core.Logic.{◌≢◌, ◌⊎◌, ◌↔◌, inl, inr, ⊎_elim}
use mathlib.Core.List.{List, [], ◌∷◌, map, Memᴰ}
use mathlib.Core.Option.{some}
use Prim.Native.Nat.{ℕ, ◌+◌, ◌*◌, ◌/◌, ◌≤◌, ◌<◌}
use native.Mathlib.Nat.{le_trans}
use native.Mathlib.Omega.{arith}
use lib.ListN.{length, length-map}
use Rattle.wire.specs.Ascending.{Ascending}
use Rattle.wire.proofs.Ascending.{ascending-once}
use Rattle.wire.proofs.Members.{same-sym}
use Rattle.ids.specs.Keys.{Key}
use Rattle.evidence.specs.Evidence.{Free, One}
use Rattle.evidence.specs.Chains.{Chain}
use Rattle.evidence.specs.Marks.{Doubt}
use Rattle.evidence.proofs.Marks.{same-doubt}
use Rattle.evidence.specs.Independence.{Apart, Unjoined, NoneInDoubt, DifferInDoubt}
use Rattle.evidence.proofs.Independence.{unjoined-apart}
use Rattle.evidence.specs.MintTable.{MintAnswer, row_accounts, row_marks}
use Rattle.evidence.proofs.Order.{row-right, row-reached, row-order, row_kept, row-recorded, row-filled, row-doubt, row_apart, row-marks, same_rows, Alike}
use Rattle.mints.specs.Bytes.{mint_row}
use Rattle.pack.specs.Items.{rows}
use Rattle.pack.specs.Invocation.{Position, Invocation}
use Rattle.pack.specs.View.{view_of}
use Rattle.pack.specs.Flatten.{flatten}
use Rattle.wire.specs.Tab.{tab}
use Rattle.subtrees.specs.Subtrees.{tests_of}
use Rattle.wire.proofs.Tab.{tab-length}
use Rattle.subtrees.proofs.Claims.{tests-none, tests-bound}
use Rattle.route.specs.Widths.{mint_width}
use Rattle.route.specs.Lay.{written}
use Rattle.route.specs.Tables.{positions_of, instructions_of, tables_with}
use Rattle.route.specs.Route.{Lent, Routed, refused, accepted, route}
use Rattle.route.specs.Order.{evidence_in, plains_in, mints_in, SameEvidence, mints_left, Succeeds, InputTaken, NoRoom, FilledWith, FilledByChains}
use Rattle.route.proofs.OrderTable.{mints-rows, mints-written}
use Rattle.route.proofs.OrderMints.{made, sized, rows-room, same-evidence, same-plains, tables-alike}
use Rattle.route.proofs.Refusals.{numbered}
use Rattle.route.proofs.Ways.{Ways, early, crowded, later, good, ways}

-- table 0 after a call that is not refused: the rows of the pack's mint table, and they are read back from the bytes
pub record Left (p : List ℕ) (l : Lent) (r : Routed) : Type 0 where
  pub table : MintAnswer
  pub is : mints_in p ≡ some table
  pub count : r.answer.mints ≡ length table.rows
  pub bytes : r.mints ≡ written mint_width (map mint_row table.rows) l.mints
  pub items : rows mint_width r.answer.mints r.mints ≡ map mint_row table.rows
  pub read : mints_left r ≡ table.rows

-- a call whose input is taken: there is a mint table, and want of room in table 0 is its alone
record Judged (p : List ℕ) (l : Lent) (r : Routed) : Type 0 where
  table : MintAnswer
  is : mints_in p ≡ some table
  short : NoRoom r.answer → l.mints / mint_width < table.room
  full : l.mints / mint_width < table.room → NoRoom r.answer

-- k tests for n invocations: none for none, else at most 2n - 2
abbrev pub FewTests : ℕ → ℕ → Type 0
FewTests n k = (n ≡ 0 → k ≡ 0) × (0 < n → k + 2 ≤ 2 * n)

-- the tests of positions are few
position-tests : (ps : List Position) → FewTests (length ps) (tests_of ps)
position-tests [] = (λ e. tests-none, λ h. absurd (omega arith))
position-tests (x ∷ ps) = (λ e. absurd (omega arith), λ h. tests-bound (x ∷ ps) h)

-- so they are beside a row for each invocation
invocation-tests : (f : ℕ → List ℕ) (vs : List Invocation) → FewTests (length (tab f 0 (length (instructions_of vs)))) (tests_of (positions_of vs))
invocation-tests f vs =
    let n : length (tab f 0 (length (instructions_of vs))) ≡ length (positions_of vs) = tab-length f 0 (length (instructions_of vs)) ∙ length-map vs (λ v. v.instruction) ∙ sym (length-map vs (λ v. v.position)) in
    rw n (position-tests (positions_of vs))

-- way by way
module _ {names p : List ℕ} {l : Lent} where
  left_by : {r : Routed} → Ways names p l r → Succeeds r → Left p l r
  unfolding refused accepted tables_with
  left_by (early n k i) e = absurd (numbered i.listed e)
  left_by (crowded x q h) e = absurd (omega arith)
  left_by (later x k q h f) e = absurd (omega arith)
  left_by (good x q s f) e =
      let w = sized p (made p q) in
      let room : length x.rows ≤ l.mints / mint_width = le_trans (rows-room (made p q)) f.mints in
      let k : length (map mint_row x.rows) ≡ length x.rows = length-map x.rows mint_row in
      record {
        table = x;
        is = q;
        count = k;
        bytes = refl;
        items = rw k (mints-rows x.rows l.mints w room);
        read = rw k (mints-written x.rows l.mints w room);
      }

  judged-by : {r : Routed} → Ways names p l r → InputTaken r.answer → Judged p l r
  unfolding refused accepted
  judged-by (early n k i) e = absurd (e n i.listed i.no_eight refl)
  judged-by (crowded x q h) e = record { table = x; is = q; short = λ s. h; full = λ s. (refl, refl) }
  judged-by (later x k q h f) e = record { table = x; is = q; short = λ s. absurd (omega (arith, s.1)); full = λ s. absurd (omega arith) }
  judged-by (good x q s f) e = record { table = x; is = q; short = λ s. absurd (omega (arith, s.0)); full = λ s. absurd (omega (arith, f.mints)) }

  taken-by : {r : Routed} → Ways names p l r → InputTaken r.answer ↔ ((r.answer.number ≡ 0) ⊎ (r.answer.number ≡ 8))
  unfolding refused accepted
  taken-by (early n k i) = (λ e. absurd (e n i.listed i.no_eight refl), λ s. absurd (⊎_elim (numbered i.listed) i.no_eight s))
  taken-by (crowded x q h) = (λ e. inr refl, λ s k m b e. b (sym e))
  taken-by (later x k q h f) = (λ e. inr refl, λ s k m b e. b (sym e))
  taken-by (good x q s f) = (λ e. inl refl, λ s k m b e. numbered m (sym e))

  seven-by : {r : Routed} → Ways names p l r → r.answer.number ≢ 7
  unfolding refused accepted
  seven-by (early n k i) e = i.no_seven e
  seven-by (crowded x q h) e = omega arith
  seven-by (later x k q h f) e = omega arith
  seven-by (good x q s f) e = omega arith

  passes-by : {r : Routed} → Ways names p l r → r.answer.passes ≤ 256
  unfolding refused accepted tables_with
  passes-by (early n k i) = omega arith
  passes-by (crowded x q h) = omega arith
  passes-by (later x k q h f) = omega arith
  passes-by (good x q s f) = s

  tests_by : {r : Routed} → Ways names p l r → FewTests r.answer.invocations r.answer.tests
  unfolding refused accepted tables_with
  tests_by (early n k i) = (λ e. refl, λ h. absurd (omega arith))
  tests_by (crowded x q h) = (λ e. refl, λ h. absurd (omega arith))
  tests_by (later x k q h f) = (λ e. refl, λ h. absurd (omega arith))
  tests_by (good x q s f) = invocation-tests _ (flatten (view_of p))

module _ (names p : List ℕ) (l : Lent) where
  -- with at most 256 keys the passes suffice: no call is refused with 7
  pub never-seven : (route names p l).answer.number ≢ 7
  never-seven = seven-by (ways names p l)

  -- and there are at most 256 of them
  pub few_passes : (route names p l).answer.passes ≤ 256
  few_passes = passes-by (ways names p l)

  -- the tests are 0 where table 1 has no row, and at most 2n - 2 where it has n
  pub few-tests : FewTests (route names p l).answer.invocations (route names p l).answer.tests
  few-tests = tests_by (ways names p l)

  -- for `route`, to meet none of the refusals but 8 is to be refused with 8 or not at all
  pub taken-number : InputTaken (route names p l).answer ↔ (((route names p l).answer.number ≡ 0) ⊎ ((route names p l).answer.number ≡ 8))
  taken-number = taken-by (ways names p l)

  -- what a call that is not refused leaves in table 0
  pub left : Succeeds (route names p l) → Left p l (route names p l)
  left e = left_by (ways names p l) e

  -- its rows ascend by account
  pub left-ascends : Succeeds (route names p l) → Ascending (λ r. r.0) (mints_left (route names p l))
  left-ascends e = let t = left e in rw t.read (row-order (made p t.is))

  -- so no account has two
  pub left-once : {a m k : Key} {n j : ℕ} → Succeeds (route names p l)
      → Memᴰ (a, m, n) (mints_left (route names p l)) → Memᴰ (a, k, j) (mints_left (route names p l)) → (m ≡ k) × (n ≡ j)
  left-once e i j = let q = ascending-once (left-ascends e) i j refl in (ap (λ r. r.1) q, ap (λ r. r.2) q)

  -- an account, recorded or not, has a row exactly when a chain reaches it; none reaches an ambiguous one
  pub left-reached : {a : Key} → Succeeds (route names p l)
      → ((m : Key) × (n : ℕ) × Memᴰ (a, m, n) (mints_left (route names p l))) ↔ ((m : Key) × Chain (evidence_in p) (plains_in p) m a)
  left-reached e = let t = left e in rw t.read (row-reached (made p t.is))

  -- and its mint is at the start of a chain that reaches it
  pub left-starts : {a m : Key} {n : ℕ} → Succeeds (route names p l)
      → Memᴰ (a, m, n) (mints_left (route names p l)) → Chain (evidence_in p) (plains_in p) m a
  left-starts e i = let t = left e in (row-right (made p t.is) (rw t.read at i)).0

  -- one recorded mint is kept, with mark 0
  pub left-kept : {a m : Key} → Succeeds (route names p l) → One (evidence_in p) a m → Memᴰ (a, m, 0) (mints_left (route names p l))
  left-kept e o = let t = left e in rw t.read (row_kept (made p t.is) o)

  -- a row has mark 0 exactly when its mint is the one recorded for its account
  pub left-mark : {a m : Key} {n : ℕ} → Succeeds (route names p l) → Memᴰ (a, m, n) (mints_left (route names p l)) → (n ≡ 0) ↔ One (evidence_in p) a m
  left-mark e i = let t = left e in row-recorded (made p t.is) (rw t.read at i)

  -- a mint that is filled in is marked: 1 or 2 exactly where nothing is recorded for the account
  pub left-filled : {a m : Key} {n : ℕ} → Succeeds (route names p l) → Memᴰ (a, m, n) (mints_left (route names p l))
      → ((n ≡ 1) ⊎ (n ≡ 2)) ↔ Free (evidence_in p) a
  left-filled e i = let t = left e in row-filled (made p t.is) (rw t.read at i)

  -- it is 2 exactly where chains with two different recorded mints reach the account
  pub left-doubt : {a m : Key} {n : ℕ} → Succeeds (route names p l) → Memᴰ (a, m, n) (mints_left (route names p l)) → (n ≡ 2) ↔ Doubt (evidence_in p) (plains_in p) a
  left-doubt e i = let t = left e in row-doubt (made p t.is) (rw t.read at i)

  -- and so in every pack with the same evidence
  pub doubt-everywhere : {q : List ℕ} {a m : Key} {n : ℕ} → SameEvidence p q → Succeeds (route names p l) → Memᴰ (a, m, n) (mints_left (route names p l))
      → (n ≡ 2) ↔ Doubt (evidence_in q) (plains_in q) a
  doubt-everywhere h e i =
      let d = left-doubt e i in
      (λ k. same-doubt (same-evidence h) (same-plains h) (d.0 k), λ k. d.1 (same-doubt (same-sym (same-evidence h)) (same-sym (same-plains h)) k))

  -- (ii) an account with no recorded mint is filled in exactly when a chain reaches it, with the mint at the start of one
  pub filled_in : {a : Key} → Succeeds (route names p l) → Free (evidence_in p) a → FilledByChains p (mints_left (route names p l)) a
  filled_in {a} e f = record { exactly = (λ x. (x.0, left-starts e x.1.row), λ c. filled ((left-reached e).1 c)); start = λ i. left-starts e i }
    where
      filled : ((m : Key) × (n : ℕ) × Memᴰ (a, m, n) (mints_left (route names p l))) → (m : Key) × FilledWith (mints_left (route names p l)) a m
      filled (m, n, i) = (m, record { mark = n; marked = (left-filled e i).1 f; row = i })

-- two packs with the same evidence, neither refused
module _ (names : List ℕ) (l : Lent) {p q : List ℕ} (h : SameEvidence p q) (a : Succeeds (route names p l)) (b : Succeeds (route names q l)) where
  alike-left : Alike (evidence_in p) (plains_in p) (left names p l a).table (left names q l b).table
  alike-left = tables-alike h (left names p l a).is (left names q l b).is

  -- (i) the same accounts get a mint: the first 32 bytes of each row are the same
  pub same-accounts : row_accounts (mints_left (route names p l)) ≡ row_accounts (mints_left (route names q l))
  same-accounts = rw ((left names p l a).read, (left names q l b).read) alike-left.accounts

  pub same_count : (route names p l).answer.mints ≡ (route names q l).answer.mints
  same_count = (left names p l a).count ∙ alike-left.count ∙ sym (left names q l b).count

  -- and one recorded mint is kept in both, with mark 0
  pub same-recorded : {c m : Key} → One (evidence_in p) c m
      → Memᴰ (c, m, 0) (mints_left (route names p l)) × Memᴰ (c, m, 0) (mints_left (route names q l))
  same-recorded o = rw ((left names p l a).read, (left names q l b).read) (alike-left.kept o)

  -- row by row the tables differ at most in the mint of an account with mark 2
  pub differs-only-in-doubt : DifferInDoubt (mints_left (route names p l)) (mints_left (route names q l))
  differs-only-in-doubt = rw ((left names p l a).read, (left names q l b).read) alike-left.doubt

  -- so each account has the same mark in both, whatever the chains join
  pub same-marks : row_marks (mints_left (route names p l)) ≡ row_marks (mints_left (route names q l))
  same-marks = row-marks differs-only-in-doubt

  -- and table 0 is equal byte for byte where the one has no mark 2
  pub same-where-sure : NoneInDoubt (mints_left (route names p l)) → (route names p l).mints ≡ (route names q l).mints
  same-where-sure d = rw ((left names p l a).bytes, (left names q l b).bytes, same_rows alike-left.doubt (rw (left names p l a).read at d))

  -- (iii) as it has none where no account is reached by chains from two different recorded mints
  pub same_bytes : Apart (evidence_in p) (plains_in p) → (route names p l).mints ≡ (route names q l).mints
  same_bytes d = let t = left names p l a in same-where-sure (rw t.read (row_apart (made p t.is) d))

  -- so it is where no chain joins two accounts recorded with different mints
  pub same-bytes-unjoined : Unjoined (evidence_in p) (plains_in p) → (route names p l).mints ≡ (route names q l).mints
  same-bytes-unjoined d = same_bytes (unjoined-apart d)

-- (iv) two packs with the same evidence, neither meeting any refusal but 8: want of room in table 0 is refused alike
pub same-room : (names : List ℕ) (l : Lent) {p q : List ℕ} → SameEvidence p q → InputTaken (route names p l).answer → InputTaken (route names q l).answer
    → NoRoom (route names p l).answer ↔ NoRoom (route names q l).answer
same-room names l {p} {q} h a b =
    let x = judged-by (ways names p l) a in
    let y = judged-by (ways names q l) b in
    let e : x.table.room ≡ y.table.room = (tables-alike h x.is y.is).room in
    (λ s. y.full (rw e at (x.short s)), λ s. x.full (rw (← e) at (y.short s)))
