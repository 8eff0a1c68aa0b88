-- For the loops of a program: the state after some items more, and passes counted one by one, because each definition goes item by item. Assumes nothing.
use mathlib.Core.Path.{◌≡◌, refl, sym, ◌∙◌, ap}
use mathlib.Core.Logic.{◌≢◌}
use mathlib.Core.Option.{Option, none, some}
use mathlib.Core.List.{List, [], ◌∷◌, ◌++◌, append_assoc, append-nil}
use Prim.Native.Nat.{ℕ, suc, ◌+◌, ◌-◌, ◌<◌}
use native.Mathlib.Omega.{arith}
use lib.ListN.{length, take, get_or}
use lib.Seq.{take-suc}
use borrow.Author.Tests.{eq-eqb, ne_eqb}
use Rattle.evidence.specs.Table.{Row, Table}
use Rattle.evidence.specs.Evidence.{Evidence, note, note_all, recorded}
use Rattle.evidence.specs.Passes.{Transfers, step, pass}
use Rattle.evidence.specs.Run.{TableAfter, once_more, run}
use Rattle.evidence.specs.Infer.{pass_over, run_from, infer}
use Rattle.evidence.specs.Gather.{gather}
use Rattle.evidence.specs.MintTable.{mint_table, finish, mints}

-- the items of two lists, one after the other
pub gather_append : {A : Type 0} (f : A → List Row) (l k : List A) → gather f (l ++ k) ≡ gather f l ++ gather f k
unfolding gather
gather_append f [] k = refl
gather_append f (x ∷ l) k = ap (λ (r : List Row). f x ++ r) (gather_append f l k) ∙ sym (append_assoc (f x) (gather f l) (gather f k))

-- one item more
pub gather-take : {A : Type 0} (f : A → List Row) (l : List A) (i : ℕ) (d : A) → i < length l → gather f (take (suc i) l) ≡ gather f (take i l) ++ f (get_or l i d)
unfolding gather
gather-take f l i d h = rw (take-suc l i d h, gather_append) (ap (λ (r : List Row). gather f (take i l) ++ r) (append-nil (f (get_or l i d))))

-- evidence after evidence, transfers after transfers
pub note_all-append : (t : Table) (d e : Evidence) → note_all t (d ++ e) ≡ note_all (note_all t d) e
unfolding note_all
note_all-append t [] e = refl
note_all-append t (x ∷ d) e = note_all-append (note t x) d e

pub pass-append : (t : Table) (ps qs : Transfers) → pass t (ps ++ qs) ≡ pass (pass t ps) qs
unfolding pass
pass-append t [] qs = refl
pass-append t (p ∷ ps) qs = pass-append (step t p) ps qs

-- k passes more
unfoldable pub plus : ℕ → Option TableAfter → Option TableAfter
plus k none = none
plus k (some r) = some (r.0, k + r.1)

plus-counted : (k : ℕ) (o : Option TableAfter) → plus k (once_more o) ≡ plus (suc k) o
unfolding plus once_more
plus-counted k none = refl
plus-counted k (some r) = ap (λ (n : ℕ). some (r.0, n)) (omega arith)

plus-zero : (o : Option TableAfter) → plus 0 o ≡ o
unfolding plus
plus-zero none = refl
plus-zero (some r) = ap (λ (n : ℕ). some (r.0, n)) (omega arith)

-- The run of f passes that is left after k of them is `plus k (run (f - k) g t)`, t the table so far: at the start, after a pass that
-- added rows, after one that added none, and when the passes are used up.
module _ (f : ℕ) (g : Table → Table) where
  pub run-start : (t : Table) → plus 0 (run (f - 0) g t) ≡ run f g t
  run-start t = let s : f - 0 ≡ f = omega arith in rw s (plus-zero (run f g t))

  pub run-next : (k : ℕ) (t : Table) → k < f → length (g t) ≢ length t → plus k (run (f - k) g t) ≡ plus (suc k) (run (f - suc k) g (g t))
  unfolding run
  run-next k t h n =
      let s : f - k ≡ suc (f - suc k) = omega arith in
      rw (s, ne_eqb _ _ n, run) (plus-counted k (run (f - suc k) g (g t)))

  pub run-last : (k : ℕ) (t : Table) → k < f → length (g t) ≡ length t → plus k (run (f - k) g t) ≡ some (t, suc k)
  unfolding run plus
  run-last k t h e =
      let s : f - k ≡ suc (f - suc k) = omega arith in
      rw (s, eq-eqb _ _ e, run) (ap (λ (n : ℕ). some (t, n)) (omega arith))

  pub run-over : (t : Table) → plus f (run (f - f) g t) ≡ none
  unfolding run plus
  run-over t = let s : f - f ≡ 0 = omega arith in rw s

-- no pass where nothing is recorded, else passes over what is recorded
pub infer-empty : (f : ℕ) (e : Evidence) (ps : Transfers) → length (recorded e) ≡ 0 → infer f e ps ≡ some ([], 0)
unfolding infer run_from
infer-empty f e ps q = go (recorded e) q
  where
    go : (t : Table) → length t ≡ 0 → run_from f t ps ≡ some ([], 0)
    go [] h = refl
    go (r ∷ t) h = absurd (omega arith)

pub infer-run : (f : ℕ) (e : Evidence) (ps : Transfers) → 0 < length (recorded e) → infer f e ps ≡ run f (pass_over ps) (recorded e)
unfolding infer run_from
infer-run f e ps q = go (recorded e) q
  where
    go : (t : Table) → 0 < length t → run_from f t ps ≡ run f (pass_over ps) t
    go [] h = absurd (omega arith)
    go (r ∷ t) h = refl

-- the answer of what the passes come to
pub mints-some : (f : ℕ) (e : Evidence) (ps : Transfers) {t : Table} {n : ℕ} → infer f e ps ≡ some (t, n) → mints f e ps ≡ some (record { rows = mint_table e ps t; room = length t; passes = n })
unfolding mints finish
mints-some f e ps q = rw q

pub mints-none : (f : ℕ) (e : Evidence) (ps : Transfers) → infer f e ps ≡ none → mints f e ps ≡ none
unfolding mints finish
mints-none f e ps q = rw q
