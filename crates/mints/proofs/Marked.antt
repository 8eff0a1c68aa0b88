-- When the labels are set: the rows under label 0 are marked, those that are filled in, and nothing else changes, since a mark is the state of one row.
-- Assumes nothing.
use mathlib.Core.Path.{◌≡◌, refl, sym, ◌∙◌}
use mathlib.Core.Logic.{◌↔◌, by_cases}
use mathlib.Core.Bool.{Bool, true, false, cond}
use mathlib.Core.List.{List}
use Prim.Native.Nat.{ℕ, zero, suc, ◌≤◌, ◌<◌}
use native.Mathlib.Decide.{ℕ_discrete}
use native.Mathlib.Omega.{arith}
use lib.Dec.{eqb, ltb}
use lib.ListN.{length, get_or}
use Rattle.ids.specs.Keys.{Key}
use Rattle.evidence.specs.Table.{Table}
use Rattle.evidence.specs.Evidence.{Evidence, recorded}
use Rattle.evidence.specs.Passes.{Transfers}
use Rattle.evidence.proofs.Infer.{Settled}
use Rattle.evidence.proofs.Doubts.{Doubtful}
use Rattle.mints.specs.declared.row.Row.{Row}
use Rattle.mints.specs.Cells.{account_at, mint_at, state_at}
use Rattle.mints.specs.declared.pass.Transfer.{Transfer}
use Rattle.mints.specs.Pass.{from_at, to_at}
use Rattle.mints.specs.Doubt.{doubt_at, marks_to, own_labels, labels_to, doubts_of}
use Rattle.mints.proofs.States.{marked, marked-mint, marked-still, doubt-here, doubt-other, doubt-account, doubt-mint, doubt-length}
use Rattle.mints.proofs.Holding.{RowsApart}
use Rattle.mints.proofs.Stepped.{Held, pairs_to}
use Rattle.mints.proofs.Labels.{labels-tell}

-- v is w with the first i rows marked by the labels l
record MarkedTo (w : List Row) (l : List ℕ) (i : ℕ) (v : List Row) : Type 0 where
  length : length v ≡ length w
  account : (r : ℕ) → account_at v r ≡ account_at w r
  mint : (r : ℕ) → mint_at v r ≡ mint_at w r
  done : (r : ℕ) → r < i → state_at v r ≡ marked (state_at w r) (eqb (get_or l r 0) 0)
  left : (r : ℕ) → i ≤ r → state_at v r ≡ state_at w r

marks : (w : List Row) (l : List ℕ) (i : ℕ) → i ≤ length w → MarkedTo w l i (marks_to w l i)
unfolding marks_to
marks w l zero h = record { length = refl; account = λ r. refl; mint = λ r. refl; done = λ r k. absurd (omega arith); left = λ r k. refl }
marks w l (suc i) h = go (eqb (get_or l i 0) 0) refl (marks w l i (omega arith))
  where
    go : (b : Bool) → eqb (get_or l i 0) 0 ≡ b → MarkedTo w l i (marks_to w l i) → MarkedTo w l (suc i) (cond b (doubt_at (marks_to w l i) i) (marks_to w l i))
    go true q m =
        let u = marks_to w l i in
        record {
          length = doubt-length u i ∙ m.length;
          account = λ r. doubt-account u i r ∙ m.account r;
          mint = λ r. doubt-mint u i r ∙ m.mint r;
          done = λ r k. by_cases (ℕ_discrete r i) (λ z. rw (z, doubt-here u i (rw m.length (omega arith)), m.left i (omega arith), q)) (λ z. doubt-other u i r z ∙ m.done r (omega arith));
          left = λ r k. doubt-other u i r (λ z. absurd (omega arith)) ∙ m.left r (omega arith);
        }
    go false q m =
        record {
          length = m.length;
          account = λ r. m.account r;
          mint = λ r. m.mint r;
          done = λ r k. by_cases (ℕ_discrete r i) (λ z. rw (z, q) (m.left i (omega arith) ∙ sym (marked-still (state_at w i)))) (λ z. m.done r (omega arith));
          left = λ r k. m.left r (omega arith);
        }

-- v is w with its filled-in rows marked where they are in doubt
pub record Marked (n : ℕ) (α : ℕ → Key) (e : Evidence) (ps : Transfers) (t : Table) (w v : List Row) : Type 0 where
  pub length : length v ≡ length w
  pub account : (r : ℕ) → account_at v r ≡ account_at w r
  pub mint : (r : ℕ) → mint_at v r ≡ mint_at w r
  pub label : List ℕ
  pub state : (r : ℕ) → r < n → state_at v r ≡ marked (state_at w r) (eqb (get_or label r 0) 0)
  pub tells : (r : ℕ) → r < n → state_at w r ≡ 3 → (get_or label r 0 ≡ 0) ↔ Doubtful e ps t (α r)

module _ {n : ℕ} {α : ℕ → Key} {e : Evidence} {ps : Transfers} {t : Table} where
  -- a mark says nothing of whether there is a mint
  pub has-mint : {w v : List Row} (m : Marked n α e ps t w v) (r : ℕ) → r < n → ltb 1 (state_at v r) ≡ ltb 1 (state_at w r)
  has-mint {w} m r k = rw (m.state r k) (marked-mint (state_at w r) (eqb (get_or m.label r 0) 0))

  -- what the walk over the transfers comes to
  pub doubts-marked : {w : List Row} → RowsApart n α → Settled e ps t → Held n α (recorded e) w t → (ts : List Transfer) → pairs_to α ts (length ts) ≡ ps
      → ((i : ℕ) → from_at ts i < n) → ((i : ℕ) → to_at ts i < n) → Marked n α e ps t w (doubts_of ts w n)
  doubts-marked {w} p s h ts all x y =
      let l = labels_to ts w (own_labels n) (length ts) in
      let m = marks w l n h.now.long in
      record {
        length = m.length;
        account = λ r. m.account r;
        mint = λ r. m.mint r;
        label = l;
        state = λ r k. m.done r k;
        tells = λ r k q. labels-tell p s h ts (length ts) all x y r k q;
      }
