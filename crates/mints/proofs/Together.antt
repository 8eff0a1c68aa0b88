-- Labels under which filled-in rows are in doubt together, and that another name for a label keeps them so: a transfer between filled-in accounts carries doubt
-- both ways.
-- Assumes nothing.
use mathlib.Core.Path.{◌≡◌, sym, ◌∙◌}
use mathlib.Core.Logic.{◌≢◌, by_cases}
use mathlib.Core.List.{List}
use Prim.Native.Nat.{ℕ}
use native.Mathlib.Decide.{ℕ_discrete}
use native.Mathlib.Omega.{arith}
use lib.ListN.{length, get_or}
use Rattle.ids.specs.Keys.{Key}
use Rattle.evidence.specs.Table.{Table}
use Rattle.evidence.specs.Evidence.{Evidence, recorded}
use Rattle.evidence.specs.Passes.{Transfers, Joined}
use Rattle.evidence.proofs.Infer.{Settled}
use Rattle.evidence.proofs.Independence.{joined-flip}
use Rattle.evidence.proofs.Doubts.{Doubtful, spreads}
use Rattle.mints.specs.declared.row.Row.{Row}
use Rattle.mints.specs.Doubt.{renamed, relabelled}
use Rattle.mints.proofs.Labelling.{renamed-here, renamed-other, relabelled-length, relabelled-at}
use Rattle.mints.proofs.Holding.{RowsApart}
use Rattle.mints.proofs.Stepped.{Held}
use Rattle.mints.proofs.Filled.{FilledIn, free, account}

module _ {n : ℕ} {α : ℕ → Key} {e : Evidence} {ps : Transfers} {t : Table} (p : RowsApart n α) (s : Settled e ps t) {w : List Row} (h : Held n α (recorded e) w t) where
  -- rows under one label are in doubt together, those under label 0 in any case
  pub record Together (l : List ℕ) : Type 0 where
    pub size : length l ≡ n
    pub doubt : (r : ℕ) → FilledIn n w r → get_or l r 0 ≡ 0 → Doubtful e ps t (α r)
    pub alike : (r q : ℕ) → FilledIn n w r → FilledIn n w q → get_or l r 0 ≡ get_or l q 0 → Doubtful e ps t (α r) → Doubtful e ps t (α q)

  -- a row's label when y is put in the place of x
  module _ {l : List ℕ} (o : Together l) (x y : ℕ) {r : ℕ} (f : FilledIn n w r) where
    pub label_at : get_or (relabelled x y l) r 0 ≡ renamed x y (get_or l r 0)
    label_at = relabelled-at x y l r (omega (arith, o.size, f.row))

    pub moved : get_or l r 0 ≡ x → get_or (relabelled x y l) r 0 ≡ y
    moved q = label_at ∙ renamed-here x y (get_or l r 0) q

    pub stayed : get_or l r 0 ≢ x → get_or (relabelled x y l) r 0 ≡ get_or l r 0
    stayed q = label_at ∙ renamed-other x y (get_or l r 0) q

  -- two rows that a transfer joins can have one label
  pub joined-together : {l : List ℕ} → Together l → (a b : ℕ) → FilledIn n w a → FilledIn n w b → Joined ps (α a) (α b) → Together (relabelled (get_or l a 0) (get_or l b 0) l)
  joined-together {l} o a b f g j =
      record { size = relabelled-length (get_or l a 0) (get_or l b 0) l ∙ o.size; doubt = λ r k q. doubt r k q; alike = λ r q i k m d. alike r q i k m d }
    where
      went : {r : ℕ} → FilledIn n w r → get_or l r 0 ≡ get_or l a 0 → get_or (relabelled (get_or l a 0) (get_or l b 0) l) r 0 ≡ get_or l b 0
      went k q = moved o (get_or l a 0) (get_or l b 0) k q

      kept : {r : ℕ} → FilledIn n w r → get_or l r 0 ≢ get_or l a 0 → get_or (relabelled (get_or l a 0) (get_or l b 0) l) r 0 ≡ get_or l r 0
      kept k q = stayed o (get_or l a 0) (get_or l b 0) k q

      to-b : Doubtful e ps t (α a) → Doubtful e ps t (α b)
      to-b d = spreads d j (free p s h g) (account p s h g)

      to-a : Doubtful e ps t (α b) → Doubtful e ps t (α a)
      to-a d = spreads d (joined-flip j) (free p s h f) (account p s h f)

      doubt : (r : ℕ) → FilledIn n w r → get_or (relabelled (get_or l a 0) (get_or l b 0) l) r 0 ≡ 0 → Doubtful e ps t (α r)
      doubt r k q =
          by_cases
          (ℕ_discrete (get_or l r 0) (get_or l a 0))
          (λ m. o.alike a r f k (sym m) (to-a (o.doubt b g (sym (went k m) ∙ q))))
          (λ m. o.doubt r k (sym (kept k m) ∙ q))

      alike : (r q : ℕ) → FilledIn n w r → FilledIn n w q → get_or (relabelled (get_or l a 0) (get_or l b 0) l) r 0 ≡ get_or (relabelled (get_or l a 0) (get_or l b 0) l) q 0
          → Doubtful e ps t (α r) → Doubtful e ps t (α q)
      alike r q i k m d =
          by_cases
          (ℕ_discrete (get_or l r 0) (get_or l a 0))
          (λ u.
          by_cases
          (ℕ_discrete (get_or l q 0) (get_or l a 0))
          (λ v. o.alike r q i k (u ∙ sym v) d)
          (λ v. o.alike b q g k (sym (went i u) ∙ m ∙ kept k v) (to-b (o.alike r a i f u d))))
          (λ u.
          by_cases
          (ℕ_discrete (get_or l q 0) (get_or l a 0))
          (λ v. o.alike a q f k (sym v) (to-a (o.alike r b i g (sym (kept i u) ∙ m ∙ went k v) d)))
          (λ v. o.alike r q i k (sym (kept i u) ∙ m ∙ kept k v) d))

  -- all rows under the label of one in doubt can have label 0
  pub suspected-together : {l : List ℕ} → Together l → (a : ℕ) → FilledIn n w a → Doubtful e ps t (α a) → Together (relabelled (get_or l a 0) 0 l)
  suspected-together {l} o a f d₀ =
      record { size = relabelled-length (get_or l a 0) 0 l ∙ o.size; doubt = λ r k q. doubt r k q; alike = λ r q i k m d. alike r q i k m d }
    where
      kept : {r : ℕ} → FilledIn n w r → get_or l r 0 ≢ get_or l a 0 → get_or (relabelled (get_or l a 0) 0 l) r 0 ≡ get_or l r 0
      kept k q = stayed o (get_or l a 0) 0 k q

      doubt : (r : ℕ) → FilledIn n w r → get_or (relabelled (get_or l a 0) 0 l) r 0 ≡ 0 → Doubtful e ps t (α r)
      doubt r k q =
          by_cases
          (ℕ_discrete (get_or l r 0) (get_or l a 0))
          (λ m. o.alike a r f k (sym m) d₀)
          (λ m. o.doubt r k (sym (kept k m) ∙ q))

      alike : (r q : ℕ) → FilledIn n w r → FilledIn n w q → get_or (relabelled (get_or l a 0) 0 l) r 0 ≡ get_or (relabelled (get_or l a 0) 0 l) q 0
          → Doubtful e ps t (α r) → Doubtful e ps t (α q)
      alike r q i k m d =
          by_cases
          (ℕ_discrete (get_or l r 0) (get_or l a 0))
          (λ u. doubt q k (sym m ∙ moved o (get_or l a 0) 0 i u))
          (λ u.
          by_cases
          (ℕ_discrete (get_or l q 0) (get_or l a 0))
          (λ v. o.alike a q f k (sym v) d₀)
          (λ v. o.alike r q i k (sym (kept i u) ∙ m ∙ kept k v) d))
