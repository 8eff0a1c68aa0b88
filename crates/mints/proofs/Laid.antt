-- The rows of the keys: one for each distinct key, the zero key's first, and each key index has its row; the search finds a key that has one, so no key gets
-- two.
-- Assumes nothing.
use mathlib.Core.Path.{◌≡◌, refl, sym, ap, ◌∙◌}
use mathlib.Core.Logic.{◌≢◌, by_cases}
use mathlib.Core.Bool.{Bool, true, false, cond, false≢true}
use mathlib.Core.List.{List}
use Prim.Native.Nat.{ℕ, zero, suc, ◌+◌, ◌≤◌, ◌<◌}
use native.Mathlib.Decide.{ℕ_discrete}
use native.Mathlib.Omega.{arith}
use lib.ListN.{length, get_or}
use lib.Seq.{get_or-set_same, get_or-set_other}
use borrow.Author.Tests.{eq-eqb, ne_eqb}
use Rattle.wire.specs.Same.{same}
use Rattle.wire.proofs.Same.{same_true, same-eq}
use Rattle.ids.specs.Keys.{Key, zero_key}
use Rattle.mints.specs.declared.row.Row.{Row}
use Rattle.mints.specs.Cells.{account_at, state_at, first_row_from, with_account}
use Rattle.mints.specs.Lay.{KeyRows, lay_at, lay_key}
use Rattle.mints.proofs.Fields.{account-other, account-here, state-account, length-account}

-- a search finds a row with the key, or comes to the end because no row has it
pub data Found (t : List Row) (k : Key) (i f : ℕ) (r : ℕ) : Type 0 where
  there : r < i + f → account_at t r ≡ k → Found t k i f r
  nowhere : r ≡ i + f → ((q : ℕ) → i ≤ q → q < i + f → account_at t q ≢ k) → Found t k i f r

found : (t : List Row) (k : Key) (f i : ℕ) → Found t k i f (first_row_from t k f i)
unfolding first_row_from
found t k zero i = nowhere (omega arith) (λ q a b. absurd (omega arith))
found t k (suc f) i = go (same (account_at t i) k) refl (found t k f (suc i))
  where
    later : {r : ℕ} → account_at t i ≢ k → Found t k (suc i) f r → Found t k i (suc f) r
    later n (there h e) = there (omega arith) e
    later n (nowhere e g) = nowhere (omega arith) (λ q a b. by_cases (ℕ_discrete q i) (λ z. rw z n) (λ z. g q (omega arith) (omega arith)))

    go : (b : Bool) → same (account_at t i) k ≡ b → Found t k (suc i) f (first_row_from t k f (suc i)) → Found t k i (suc f) (cond b i (first_row_from t k f (suc i)))
    go true e g = there (omega arith) (same_true (account_at t i) k e)
    go false e g = later (λ z. absurd (false≢true (sym e ∙ same-eq z))) g

-- the first i keys have their rows
pub record Rows (κ : ℕ → Key) (size i : ℕ) (s : KeyRows) : Type 0 where
  pub whole : length s.table ≡ size
  pub few : s.rows ≤ suc i
  pub some_row : 0 < s.rows
  pub zero_row : account_at s.table 0 ≡ zero_key
  pub apart : (r q : ℕ) → r < s.rows → q < s.rows → account_at s.table r ≡ account_at s.table q → r ≡ q
  pub first : state_at s.table 0 ≡ 1
  pub none : (r : ℕ) → 0 < r → state_at s.table r ≡ 0
  pub row : (j : ℕ) → j < i → (get_or s.row j 0 < s.rows) × (account_at s.table (get_or s.row j 0) ≡ κ j)
  pub rest : (j : ℕ) → i ≤ j → get_or s.row j 0 ≡ 0

module _ (κ : ℕ → Key) (size i : ℕ) (s : KeyRows) (h : Rows κ size i s) (k : i < length s.row) (room : suc (suc i) ≤ size) where
  -- a key that has a row
  old : (r : ℕ) → r < s.rows → account_at s.table r ≡ κ i → Rows κ size (suc i) (lay_at s i (κ i) r)
  unfolding lay_at
  old r l e =
      rw (ne_eqb r s.rows (λ z. absurd (omega arith)))
      (record {
        whole = h.whole;
        few = omega (arith, h.few);
        some_row = h.some_row;
        zero_row = h.zero_row;
        apart = h.apart;
        first = h.first;
        none = h.none;
        row = λ j m. by_cases (ℕ_discrete j i) (λ z. rw (z, get_or-set_same s.row i r 0 k) (l, e)) (λ z. rw (get_or-set_other s.row i j r 0 z) (h.row j (omega arith)));
        rest = λ j m. get_or-set_other s.row i j r 0 (omega arith) ∙ h.rest j (omega arith);
      })

  -- a key that has none
  module _ (d : (q : ℕ) → q < s.rows → account_at s.table q ≢ κ i) where
    added : List Row
    added = with_account s.table s.rows (κ i)

    account-old : (q : ℕ) → q < s.rows → account_at added q ≡ account_at s.table q
    unfolding added
    account-old q l = account-other s.table s.rows (κ i) q (omega arith)

    account-new : account_at added s.rows ≡ κ i
    unfolding added
    account-new = account-here s.table s.rows (κ i) (omega (arith, h.few, h.whole))

    state-same : (q : ℕ) → state_at added q ≡ state_at s.table q
    unfolding added
    state-same q = state-account s.table s.rows (κ i) q

    -- the rows stay apart
    apart : (r q : ℕ) → r < suc s.rows → q < suc s.rows → account_at added r ≡ account_at added q → r ≡ q
    apart r q a b e =
        by_cases
        (ℕ_discrete r s.rows)
        (λ y.
        by_cases
        (ℕ_discrete q s.rows)
        (λ z. y ∙ sym z)
        (λ z. absurd (d q (omega arith) (sym (account-old q (omega arith)) ∙ sym e ∙ ap (account_at added) y ∙ account-new))))
        (λ y.
        by_cases
        (ℕ_discrete q s.rows)
        (λ z. absurd (d r (omega arith) (sym (account-old r (omega arith)) ∙ e ∙ ap (account_at added) z ∙ account-new)))
        (λ z. h.apart r q (omega arith) (omega arith) (sym (account-old r (omega arith)) ∙ e ∙ account-old q (omega arith))))

    new : (r : ℕ) → r ≡ s.rows → Rows κ size (suc i) (lay_at s i (κ i) r)
    unfolding lay_at added
    new r z =
        rw (eq-eqb r s.rows z, z)
        (record {
          whole = length-account s.table s.rows (κ i) ∙ h.whole;
          few = omega (arith, h.few);
          some_row = omega arith;
          zero_row = account-old 0 h.some_row ∙ h.zero_row;
          apart = λ r q a b e. apart r q a b e;
          first = state-same 0 ∙ h.first;
          none = λ r l. state-same r ∙ h.none r l;
          row = λ j m.
              by_cases
              (ℕ_discrete j i)
              (λ y. rw (y, get_or-set_same s.row i s.rows 0 k) (omega arith, account-new))
              (λ y. let g = h.row j (omega arith) in rw (get_or-set_other s.row i j s.rows 0 y) (omega (arith, g.0), account-old (get_or s.row j 0) g.0 ∙ g.1));
          rest = λ j m. get_or-set_other s.row i j s.rows 0 (omega arith) ∙ h.rest j (omega arith);
        })

  pub laid_next : Rows κ size (suc i) (lay_key s i (κ i))
  unfolding lay_key
  laid_next = go (found s.table (κ i) s.rows 0)
    where
      go : {r : ℕ} → Found s.table (κ i) 0 s.rows r → Rows κ size (suc i) (lay_at s i (κ i) r)
      go {r} (there l e) = old r (omega arith) e
      go {r} (nowhere e g) = new (λ q l. g q (omega arith) (omega arith)) r (omega arith)
