-- The table of all evidence and all plain transfers has what is recorded, grew by transfers, and grows no more, because the run ends with a pass that adds
-- nothing. Assumes nothing.
use mathlib.Core.Path.{◌≡◌, refl}
use mathlib.Core.Logic.{◌↔◌}
use mathlib.Core.Option.{Option, none, some}
use mathlib.Core.List.Memᴰ
use mathlib.Core.List.{[], ◌∷◌}
use Prim.Native.Nat.{ℕ, ◌≤◌, ◌<◌}
use native.Mathlib.Nat.{lt_irrefl}
use native.Mathlib.Omega.{arith}
use lib.ListN.{length}
use Rattle.ids.specs.Keys.{Key}
use Rattle.evidence.specs.Table.{Row, Table, add}
use Rattle.evidence.specs.Evidence.{Evidence, recorded}
use Rattle.evidence.proofs.Distinct.{Distinct, distinct-add, distinct-recorded}
use Rattle.evidence.specs.Passes.{Transfers, pass, Joined, joined}
use Rattle.evidence.proofs.Passes.{Hands, Stuck, SteppedTo, handed, still, step-view, Grown, grown, grown-trans, grown-length, Closed, grow, pass-grown, length-add}
use Rattle.evidence.specs.Run.{TableAfter}
use Rattle.evidence.proofs.Run.{Passed, at_end, one_more, RanTo, RunEnds, gave, spent, run_ends, ran-passed, ran-still, ran-length, ran-positive}
use Rattle.evidence.specs.Infer.{infer, pass_over, run_from}

-- a pass that adds no row finds no mint to hand on, and leaves the table as it is
pub pass-still : (t : Table) (ps : Transfers) → length (pass t ps) ≡ length t → Closed ps t × (pass t ps ≡ t)
unfolding pass
pass-still t [] h = (record { closed = λ j i. nothing j }, refl)
  where
    nothing : {a b : Key} → ¬ Joined [] a b
    nothing (joined x i) = elim i [ ]
pass-still t (p ∷ ps) h = go (step-view t p) (λ u. pass-still u ps) h
  where
    more : {a b m : Key} → Stuck t p → Closed ps t → Joined (p ∷ ps) a b → ¬ Hands a b m t
    more s c (joined x (Memᴰ.head e)) i = s.stuck (rw e at x) i
    more s c (joined x (Memᴰ.tail k)) i = c.closed (joined x k) i

    go : {u : Table} → SteppedTo t p u → ((u : Table) → length (pass u ps) ≡ length u → Closed ps u × (pass u ps ≡ u)) → length (pass u ps) ≡ length t → Closed (p ∷ ps) t × (pass u ps ≡ t)
    go (handed {b} {m} x i) below h = absurd (omega (arith, grown-length (pass-grown {ps = ps} (add t b m)), length-add t b m))
    go (still s) below h = (record { closed = λ j i. more s (below t h).0 j i }, (below t h).1)

pub passed-grown : {ps : Transfers} {u t : Table} → Passed (pass_over ps) u t → Grown ps u t
passed-grown at_end = grown
passed-grown (one_more {t} p) = grown-trans (pass-grown t) (passed-grown p)

-- a table to which all evidence is recorded and no mint is left to hand on
pub record Settled (e : Evidence) (ps : Transfers) (t : Table) : Type 0 where
  pub grows : Grown ps t (recorded e)
  pub done : Closed ps t

-- what an inference answers: nothing recorded and no pass, or the passes that were made, or a table with more rows than fuel
pub data Inferred (e : Evidence) (ps : Transfers) (f : ℕ) : Option TableAfter → Type 0 where
  nothing : recorded e ≡ [] → Inferred e ps f (some ([], 0))
  ran : {t : Table} {n : ℕ} → 0 < length (recorded e) → RanTo (pass_over ps) t (recorded e) n → Inferred e ps f (some (t, n))
  short : {t : Table} → Grown ps t (recorded e) → f < length t → Inferred e ps f none

pub infer-view : (f : ℕ) (e : Evidence) (ps : Transfers) → Inferred e ps f (infer f e ps)
unfolding infer run_from
infer-view f e ps = go (recorded e) refl
  where
    runs : {t : Table} {r : Row} {o : Option TableAfter} → recorded e ≡ r ∷ t → RunEnds (pass_over ps) (r ∷ t) f o → Inferred e ps f o
    runs q (gave {u} {n} k) = ran {t = u} {n = n} (rw q (omega arith)) (rw q k)
    runs q (spent {u} g l) = short {t = u} (rw q (passed-grown g)) (omega arith)

    go : (t : Table) → recorded e ≡ t → Inferred e ps f (run_from f t ps)
    go [] q = nothing q
    go (r ∷ t) q = runs q (run_ends (λ u. grown-length (pass-grown {ps = ps} u)) f (r ∷ t))

-- passes until one adds nothing leave no mint to hand on
ran_settled : {e : Evidence} {ps : Transfers} {t : Table} {n : ℕ} → RanTo (pass_over ps) t (recorded e) n → Settled e ps t
ran_settled {ps} {t} k = record { grows = passed-grown (ran-passed k); done = (pass-still t ps (ran-still k)).0 }

-- where nothing is recorded, nothing is handed on
empty-settled : {e : Evidence} {ps : Transfers} → recorded e ≡ [] → Settled e ps []
empty-settled q = record { grows = rw q grown; done = record { closed = λ j i. none_left i } }
  where
    none_left : {a b m : Key} → ¬ Hands a b m []
    none_left i = elim i.from [ ]

module _ (f : ℕ) (e : Evidence) (ps : Transfers) {t : Table} {n : ℕ} (h : infer f e ps ≡ some (t, n)) where
  pub infer-settled : Settled e ps t
  infer-settled = go (rw h at (infer-view f e ps))
    where
      go : {u : Table} {k : ℕ} → Inferred e ps f (some (u, k)) → Settled e ps u
      go (nothing q) = empty-settled q
      go (ran l k) = ran_settled k

  -- the passes are no more than the rows
  pub infer-passes : n ≤ length t
  infer-passes = go (rw h at (infer-view f e ps))
    where
      go : {u : Table} {k : ℕ} → Inferred e ps f (some (u, k)) → k ≤ length u
      go (nothing q) = omega arith
      go (ran l k) = omega (arith, ran-length k)

  -- there is no pass exactly when nothing is recorded
  pub infer-none : (n ≡ 0) ↔ (recorded e ≡ [])
  infer-none = go (rw h at (infer-view f e ps))
    where
      go : {u : Table} {k : ℕ} → Inferred e ps f (some (u, k)) → (k ≡ 0) ↔ (recorded e ≡ [])
      go (nothing q) = (λ _. q, λ _. refl)
      go (ran l k) = (λ z. absurd (omega (arith, ran-positive k)), λ q. absurd (lt_irrefl 0 (rw q at l)))

-- T2. Handing mints on keeps the accounts distinct.
pub grown-distinct : {ps : Transfers} {u t : Table} → Grown ps u t → Distinct t → Distinct u
grown-distinct grown d = d
grown-distinct (grow {m} j i g) d = grown-distinct g (distinct-add m i.fresh d)

pub settled-distinct : {e : Evidence} {ps : Transfers} {t : Table} → Settled e ps t → Distinct t
settled-distinct {e} s = grown-distinct s.grows (distinct-recorded e)
