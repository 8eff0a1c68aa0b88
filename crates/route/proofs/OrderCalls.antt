-- Order does not matter, over calls: of the answers and the bytes that the contract `Leaves` promises, for a pack and for two with the same evidence. The
-- contract equates them with those of `route`, for which it is shown.
-- Assumes nothing.
use mathlib.Core.Path.{◌≡◌, sym, subst, ◌∙◌}
use mathlib.Core.Logic.{◌↔◌}
use mathlib.Core.List.{List, Memᴰ}
use Prim.Native.Nat.{ℕ}
use Rattle.wire.proofs.Members.{same-sym}
use Rattle.ids.specs.Keys.{Key}
use Rattle.evidence.specs.Evidence.{Free, One}
use Rattle.evidence.proofs.Evidence.{free-map}
use Rattle.evidence.specs.Chains.{Chain}
use Rattle.evidence.specs.Marks.{Doubt}
use Rattle.evidence.specs.Independence.{Apart, Unjoined, NoneInDoubt, DifferInDoubt}
use Rattle.evidence.proofs.Independence.{same-agree, same-chain, unjoined-apart}
use Rattle.evidence.specs.MintTable.{row_accounts, row_marks}
use Rattle.evidence.proofs.Order.{row-marks}
use Rattle.route.specs.declared.Answer.{Answer}
use Rattle.route.specs.Route.{Lent, lent, route, Leaves}
use Rattle.route.specs.Order.{evidence_in, plains_in, SameEvidence, mints_read, InputTaken, NoRoom, FilledByChains}
use Rattle.route.proofs.OrderMints.{same-evidence, same-plains}
use Rattle.route.proofs.Order.{filled_in, left-doubt, doubt-everywhere, same-accounts, same_count, same-recorded, same-where-sure, same_bytes, same-room}
use Rattle.route.proofs.Order as order

-- one call, not refused
module _ {names p t0 t1 t2 t3 t4 : List ℕ} {r : Answer} {o0 o1 o2 o3 o4 : List ℕ} (x : Leaves names p t0 t1 t2 t3 t4 r o0 o1 o2 o3 o4) (e : r.number ≡ 0) where
  -- (ii) an account with no recorded mint is filled in exactly when a chain reaches it, with the mint at the start of one
  pub table-filled-in : {a : Key} → Free (evidence_in p) a → FilledByChains p (mints_read r.mints o0) a
  table-filled-in f = rw (x.answer, x.mints) (filled_in names p (lent t0 t1 t2 t3 t4) (rw x.answer at e) f)

  -- a mark is 2 exactly where chains with two different recorded mints reach the account
  pub table-doubt : {a m : Key} {n : ℕ} → Memᴰ (a, m, n) (mints_read r.mints o0) → (n ≡ 2) ↔ Doubt (evidence_in p) (plains_in p) a
  table-doubt i = left-doubt names p (lent t0 t1 t2 t3 t4) (rw x.answer at e) (rw (x.answer, x.mints) at i)

  -- and so in every pack with the same evidence
  pub table-doubt-everywhere : {q : List ℕ} {a m : Key} {n : ℕ} → SameEvidence p q → Memᴰ (a, m, n) (mints_read r.mints o0) → (n ≡ 2) ↔ Doubt (evidence_in q) (plains_in q) a
  table-doubt-everywhere h i = doubt-everywhere names p (lent t0 t1 t2 t3 t4) h (rw x.answer at e) (rw (x.answer, x.mints) at i)

-- two calls with the same names, tables of the same five lengths, and packs with the same evidence
module _ {names p q t0 t1 t2 t3 t4 u0 u1 u2 u3 u4 : List ℕ} {r r' : Answer} {o0 o1 o2 o3 o4 o0' o1' o2' o3' o4' : List ℕ} (x : Leaves names p t0 t1 t2 t3 t4 r o0 o1 o2 o3 o4) (y : Leaves names q u0 u1 u2 u3 u4 r' o0' o1' o2' o3' o4') (k : lent t0 t1 t2 t3 t4 ≡ lent u0 u1 u2 u3 u4) (h : SameEvidence p q) where
  abbrev here : Lent
  here = lent t0 t1 t2 t3 t4

  answer-right : r' ≡ (route names q here).answer
  answer-right = subst (λ (l : Lent). r' ≡ (route names q l).answer) (sym k) y.answer

  mints-right : o0' ≡ (route names q here).mints
  mints-right = subst (λ (l : Lent). o0' ≡ (route names q l).mints) (sym k) y.mints

  -- neither of them refused
  module _ (a : r.number ≡ 0) (b : r'.number ≡ 0) where
    first : (route names p here).answer.number ≡ 0
    first = rw x.answer at a

    second : (route names q here).answer.number ≡ 0
    second = rw answer-right at b

    -- (i) the same accounts, in the same rows
    pub same-table-count : r.mints ≡ r'.mints
    same-table-count = rw (x.answer, answer-right) (same_count names here h first second)

    pub same-table-accounts : row_accounts (mints_read r.mints o0) ≡ row_accounts (mints_read r'.mints o0')
    same-table-accounts = rw (x.answer, x.mints, answer-right, mints-right) (same-accounts names here h first second)

    -- one recorded mint is in both, with mark 0
    pub same-table-recorded : {c m : Key} → One (evidence_in p) c m → Memᴰ (c, m, 0) (mints_read r.mints o0) × Memᴰ (c, m, 0) (mints_read r'.mints o0')
    same-table-recorded o = rw (x.answer, x.mints, answer-right, mints-right) (same-recorded names here h first second o)

    -- (ii) in both tables an account with no recorded mint is filled in exactly when a chain of the first pack reaches it, with the mint at the start of one
    pub same-table-filled-in : {c : Key} → Free (evidence_in p) c → FilledByChains p (mints_read r.mints o0) c × FilledByChains p (mints_read r'.mints o0') c
    same-table-filled-in {c} f =
        let k = table-filled-in y b (free-map (same-agree (same-evidence h) c) f) in
        (table-filled-in x a f, record { exactly = (λ s. (s.0, over (k.start s.1.row)), λ s. k.exactly.1 (s.0, under s.1)); start = λ i. over (k.start i) })
      where
        over : {c m : Key} → Chain (evidence_in q) (plains_in q) m c → Chain (evidence_in p) (plains_in p) m c
        over t = same-chain (same-sym (same-evidence h)) (same-sym (same-plains h)) t

        under : {c m : Key} → Chain (evidence_in p) (plains_in p) m c → Chain (evidence_in q) (plains_in q) m c
        under t = same-chain (same-evidence h) (same-plains h) t

    -- row by row the two tables differ at most in the mint of an account with mark 2
    pub differs-only-in-doubt : DifferInDoubt (mints_read r.mints o0) (mints_read r'.mints o0')
    differs-only-in-doubt = rw (x.answer, x.mints, answer-right, mints-right) (order.differs-only-in-doubt names here h first second)

    -- so each account has the same mark in both
    pub same-table-marks : row_marks (mints_read r.mints o0) ≡ row_marks (mints_read r'.mints o0')
    same-table-marks = row-marks differs-only-in-doubt

    -- and where the one has no mark 2 the two tables are equal, byte for byte
    pub same-table-sure : NoneInDoubt (mints_read r.mints o0) → o0 ≡ o0'
    same-table-sure d = x.mints ∙ same-where-sure names here h first second (rw (x.answer, x.mints) at d) ∙ sym mints-right

    -- (iii) as they are where no account is reached from two different recorded mints
    pub same-table : Apart (evidence_in p) (plains_in p) → o0 ≡ o0'
    same-table d = x.mints ∙ same_bytes names here h first second d ∙ sym mints-right

    -- so they are where no chain joins two accounts recorded with different mints
    pub same-table-unjoined : Unjoined (evidence_in p) (plains_in p) → o0 ≡ o0'
    same-table-unjoined d = same-table (unjoined-apart d)

  -- (iv) neither meeting any refusal but 8: for want of room in table 0 both are refused, or neither
  pub same-table-room : InputTaken r → InputTaken r' → NoRoom r ↔ NoRoom r'
  same-table-room a b = rw (x.answer, answer-right) (same-room names here h (rw x.answer at a) (rw answer-right at b))
