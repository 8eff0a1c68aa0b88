-- Evidence: a note in a row is a piece of evidence for the row's account, in each of the states that the row can have.
-- Assumes nothing.
use mathlib.Core.Path.{◌≡◌, refl, ap, ◌∙◌}
use mathlib.Core.Logic.{◌≢◌, by_cases}
use mathlib.Core.Option.{none, some}
use mathlib.Core.List.{List}
use Prim.Native.Nat.{ℕ, zero, suc, ◌+◌, ◌≤◌, ◌<◌}
use native.Mathlib.Decide.{ℕ_discrete}
use native.Mathlib.Omega.{arith}
use lib.ListN.{length}
use Rattle.wire.proofs.Same.{same-eq, same-ne}
use Rattle.wire.proofs.Order.{key?}
use Rattle.ids.specs.Keys.{Key, zero_key}
use Rattle.evidence.specs.Table.{Table, lookup}
use Rattle.evidence.specs.Evidence.{note}
use Rattle.evidence.proofs.Recording.{note-account, note-mint}
use Rattle.evidence.proofs.Lookups.{merge, note-here, note-other, note-first, note-again}
use Rattle.mints.specs.declared.row.Row.{Row}
use Rattle.mints.specs.declared.row.State.TheVariants.{Ambiguous, Recorded}
use Rattle.mints.specs.Cells.{number_of, mint_at, state_at, state_says, with_mint, with_state}
use Rattle.mints.specs.Note.{record_at, new_at}
use Rattle.mints.proofs.Noting as noting
use Rattle.mints.proofs.Fields.{mint-here, states-here, state-here}
use Rattle.mints.proofs.Holding.{RowsApart, not-zero, HoldsRows, unchanged, changed-state, changed-mint, update}

module _ {n : ℕ} {α : ℕ → Key} (p : RowsApart n α) (w : List Row) (t : Table) (h : HoldsRows 2 n α w t) (r : ℕ) (l : r < n) (m : Key) where
  -- what is to be shown, of the table and of the count
  NotedRow : List Row → ℕ → Type 0
  NotedRow v k = HoldsRows 2 n α v (note t (α r, m)) × (length (note t (α r, m)) ≡ length t + k)

  idle : note t (α r, m) ≡ t → NotedRow w 0
  unfolding NotedRow
  idle q = rw q (h, omega arith)

  module _ (z : 0 < r) (v : m ≢ zero_key) where
    whole : r < length w
    whole = omega (arith, h.long)

    others : (a : Key) → a ≢ α r → lookup (note t (α r, m)) a ≡ lookup t a
    others a d = note-other t (α r, m) d

    here : lookup (note t (α r, m)) (α r) ≡ some (merge (lookup t (α r)) m)
    here = note-here t (α r, m) (not-zero p r z l) v

    first : state_at w r ≡ 0 → NotedRow (with_mint w r m Recorded) 1
    unfolding NotedRow state_says merge number_of
    first q =
        let g : lookup t (α r) ≡ none = h.said r z l ∙ rw q in
        let s = states-here w r m Recorded whole in
        let k = mint-here w r m Recorded whole in (
          update p h r z l (changed-mint w r m Recorded) others (here ∙ rw (g, s, k)) (λ _. rw k v) (omega (arith, s)),
          note-first t (α r, m) (not-zero p r z l) v g ∙ omega arith,
        )

    ambiguous : state_at w r ≡ 1 → NotedRow w 0
    unfolding NotedRow state_says merge
    ambiguous q =
        let g : lookup t (α r) ≡ some zero_key = h.said r z l ∙ rw q in (
          update p h r z l (unchanged w r) others (here ∙ rw (g, q, same-ne v)) (λ o. absurd (omega arith)) (h.low r l),
          note-again t (α r, m) g ∙ omega arith,
        )

    module _ (q : state_at w r ≡ 2) where
      has : lookup t (α r) ≡ some (mint_at w r)
      unfolding state_says
      has = h.said r z l ∙ rw q

      again : m ≡ mint_at w r → NotedRow w 0
      unfolding NotedRow state_says merge
      again f = (
        update p h r z l (unchanged w r) others (here ∙ rw (has, q, same-eq f)) (λ o. h.mint r l o) (h.low r l),
        note-again t (α r, m) has ∙ omega arith,
      )

      other : m ≢ mint_at w r → NotedRow (with_state w r Ambiguous) 0
      unfolding NotedRow state_says merge number_of
      other d =
          let s = state-here w r Ambiguous whole in (
            update p h r z l (changed-state w r Ambiguous) others (here ∙ rw (has, s, same-ne d)) (λ o. absurd (omega (arith, s))) (omega (arith, s)),
            note-again t (α r, m) has ∙ omega arith,
          )

    noted-row : (s : ℕ) → state_at w r ≡ s → s ≤ 2 → NotedRow (record_at w r m) (new_at w r m)
    unfolding NotedRow
    noted-row zero q k = let x = noting.note-first w r m (same-ne v) q in rw (← x.0, ← x.1) (first q)
    noted-row (suc zero) q k = let x = noting.note-ambiguous w r m (λ f. omega arith) (λ f. omega arith) in rw (← x.0, ← x.1) (ambiguous q)
    noted-row (suc (suc zero)) q k =
        by_cases
        (key? m (mint_at w r))
        (λ f. let x = noting.note-again w r m q (same-eq f) in rw (← x.0, ← x.1) (again q f))
        (λ d. let x = noting.note-other w r m (same-ne v) q (same-ne d) in rw (← x.0, ← x.1) (other q d))
    noted-row (suc (suc (suc s))) q k = absurd (omega arith)

  -- the table after a note holds what the evidence says, and the count is right
  pub noted : HoldsRows 2 n α (record_at w r m) (note t (α r, m)) × (length (note t (α r, m)) ≡ length t + new_at w r m)
  unfolding NotedRow
  noted =
      by_cases
      (key? m zero_key)
      (λ z. let x = noting.note-zero w r m (same-eq z) in rw (← x.0, ← x.1) (idle (note-mint (α r, m) t z)))
      (λ v.
      by_cases
      (ℕ_discrete r 0)
      (λ z.
      let x = noting.note-ambiguous w r m (λ f. omega (arith, row_zero z)) (λ f. omega (arith, row_zero z)) in
      rw (← x.0, ← x.1) (idle (note-account (α r, m) t (ap α z ∙ p.zero_row))))
      (λ z. noted-row (omega arith) v (state_at w r) refl (h.low r l)))
    where
      row_zero : r ≡ 0 → state_at w r ≡ 1
      row_zero z = ap (λ (k : ℕ). state_at w k) z ∙ h.first
