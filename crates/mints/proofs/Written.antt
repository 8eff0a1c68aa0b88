-- The rows that are written are those of the mint table, and the mints by key index are theirs: rows that ascend and are the right ones are the table,
-- whoever sorted them.
-- Assumes nothing.
use mathlib.Core.Path.{◌≡◌, refl, sym, ap, ◌∙◌, subst}
use mathlib.Core.Logic.{◌≢◌, by_cases}
use mathlib.Core.Bool.{Bool, true, false, cond, false≢true}
use mathlib.Core.Option.{none, some, none-ne-some, some-injective}
use mathlib.Core.List.Memᴰ
use mathlib.Core.List.{List, [], ◌∷◌, map, Memᴰ}
use Prim.Native.Nat.{ℕ, zero, suc, ◌-◌, ◌≤◌, ◌<◌}
use native.Mathlib.Decide.{ℕ_discrete}
use native.Mathlib.Omega.{arith}
use lib.Dec.{eqb, ltb}
use lib.ListN.{get_or}
use borrow.Author.Tests.{eq-eqb, eqb-true, lt-ltb, ltb-true}
use Rattle.wire.specs.Order.{Below}
use Rattle.wire.proofs.Order.{lt_key-true, lt_key-false}
use Rattle.wire.specs.Ascending.{Ascending, asc_nil}
use Rattle.wire.proofs.Ascending.{ascending-put, ascending-map}
use Rattle.ids.specs.Keys.{Key, zero_key}
use Rattle.evidence.specs.Table.{Table, lookup, Has}
use Rattle.evidence.proofs.Table.{lookup-has, lookup-lacks}
use Rattle.evidence.specs.Evidence.{Evidence, recorded}
use Rattle.evidence.proofs.Recording.{has-one-recorded, lacks-free}
use Rattle.evidence.specs.Passes.{Transfers}
use Rattle.evidence.proofs.Infer.{Settled, settled-distinct}
use Rattle.evidence.proofs.Chains.{settled-sound}
use Rattle.evidence.specs.Marks.{mark_of, Mark, mark_recorded}
use Rattle.evidence.proofs.Marks.{mark-unique, mark-right as theory-right}
use Rattle.evidence.proofs.Doubts.{doubtful-mark, sure-mark}
use Rattle.evidence.specs.MintTable.{MintRow, mint_table, mint_in}
use Rattle.evidence.proofs.MintTable.{table-mint}
use Rattle.evidence.proofs.Written as theory
use Rattle.mints.specs.declared.row.Row.{Row}
use Rattle.mints.specs.Cells.{account_at, mint_at, state_at, state_says}
use Rattle.mints.specs.Order.{spot_in, put_in, sort_to, row_bytes, rows_bytes, shown_mint, mints_to}
use Rattle.mints.specs.Bytes.{table_bytes, or_zero, mints_of}
use Rattle.mints.proofs.Sorting.{spot-bound, spot-before, spot-at, sorted-mem, mem-sorted, get_or-mem}
use Rattle.mints.proofs.Holding.{RowsApart, was}
use Rattle.mints.proofs.Stepped.{Held}
use Rattle.mints.proofs.States.{marked-filled, marked_other}
use Rattle.mints.proofs.Filled.{final-row}
use Rattle.mints.proofs.Marked.{Marked, has-mint}

-- rows with different accounts are put in order
pub ascends : (t : List Row) (n : ℕ) → ((r q : ℕ) → r < n → q < n → account_at t r ≡ account_at t q → r ≡ q) → Ascending (account_at t) (sort_to t n)
unfolding sort_to
ascends t zero apart = asc_nil
ascends t (suc n) apart = go (ltb 1 (state_at t n)) (ascends t n (λ r q h k. apart r q (omega arith) (omega arith)))
  where
    l : List ℕ
    l = sort_to t n

    below : (i : ℕ) → i < spot_in t n (sort_to t n) → Below (account_at t (get_or (sort_to t n) i 0)) (account_at t n)
    below i h =
        let m = sorted-mem t n (get_or-mem (sort_to t n) i (omega (arith, spot-bound t n (sort_to t n)))) in
        lt_key-false (account_at t n) (account_at t (get_or (sort_to t n) i 0)) (spot-before t n (sort_to t n) i h) (λ e. absurd (omega (arith, m.0, apart n (get_or (sort_to t n) i 0) (omega arith) (omega (arith, m.0)) e)))

    go : (b : Bool) → Ascending (account_at t) (sort_to t n) → Ascending (account_at t) (cond b (put_in (sort_to t n) (spot_in t n (sort_to t n)) n) (sort_to t n))
    go false a = a
    go true a = ascending-put n 0 (spot_in t n (sort_to t n)) a (spot-bound t n (sort_to t n)) (λ i h. below i h) (λ h. lt_key-true (account_at t n) (account_at t (get_or (sort_to t n) (spot_in t n (sort_to t n)) 0)) (spot-at t n (sort_to t n) h))

-- a row of the working table as a row of the mint table
pub cell : List Row → ℕ → MintRow
cell t r = (account_at t r, mint_at t r, state_at t r - 2)

row-eq : {a b m k : Key} {i j : ℕ} → a ≡ b → m ≡ k → i ≡ j → ◌≡◌ {A = MintRow} (a, m, i) (b, k, j)
row-eq e f g = rw (e, f, g)

-- and as bytes
pub cells-bytes : (t : List Row) (l : List ℕ) → rows_bytes t l ≡ table_bytes (map (cell t) l)
unfolding rows_bytes row_bytes table_bytes cell
cells-bytes t [] = refl
cells-bytes t (r ∷ l) = rw (cells-bytes t l) refl

module _ {n : ℕ} {α : ℕ → Key} {e : Evidence} {ps : Transfers} {t : Table} (p : RowsApart n α) (s : Settled e ps t) {w v : List Row} (h : Held n α (recorded e) w t) (m : Marked n α e ps t w v) where
  account-is : (r : ℕ) → r < n → account_at v r ≡ α r
  account-is r k = m.account r ∙ h.now.account r k

  positive : (r : ℕ) → 1 < state_at w r → 0 < r
  positive r o = by_cases (ℕ_discrete r 0) (λ z. absurd (omega (arith, ap (λ (q : ℕ). state_at w q) z ∙ h.now.first))) (λ z. omega arith)

  said : (r x : ℕ) → 0 < r → r < n → state_at w r ≡ suc (suc x) → lookup t (α r) ≡ some (mint_at w r)
  unfolding state_says
  said r x z k q = h.now.said r z k ∙ rw q

  -- the mark of a row, by its state before the marks
  mark-right : (r : ℕ) → 0 < r → r < n → (x : ℕ) → state_at w r ≡ suc (suc x) → x ≤ 1 → state_at v r - 2 ≡ mark_of e ps (α r)
  unfolding was
  mark-right r z k x q l = mark-unique (by_state x q l) (theory-right e ps (α r) ((settled-sound s).chain has (h.now.mint r k (omega arith))))
    where
      has : Has (α r) (mint_at w r) t
      has = lookup-has t (said r x z k q)

      by-doubt : lookup (recorded e) (α r) ≡ none → state_at w r ≡ 3 → (b : Bool) → eqb (get_or m.label r 0) 0 ≡ b → Mark e ps (α r) (cond b 4 3 - 2)
      by-doubt o y true d = doubtful-mark s (lacks-free (lookup-lacks (recorded e) o)) ((m.tells r k y).0 (eqb-true _ _ d))
      by-doubt o y false d = sure-mark s (lacks-free (lookup-lacks (recorded e) o)) has (λ u. false≢true (sym d ∙ eq-eqb _ _ ((m.tells r k y).1 u)))

      by_state : (x : ℕ) → state_at w r ≡ suc (suc x) → x ≤ 1 → Mark e ps (α r) (state_at v r - 2)
      by_state zero q l =
          rw (m.state r k, q, marked_other 2 (eqb (get_or m.label r 0) 0) (λ f. omega arith))
          (mark_recorded (has-one-recorded (lookup-has (recorded e) (h.then.wrote r z k ∙ rw q)) (h.now.mint r k (omega arith))))
      by_state (suc zero) q l =
          rw (m.state r k, q, marked-filled (eqb (get_or m.label r 0) 0))
          (by-doubt (h.then.wrote r z k ∙ rw q) q (eqb (get_or m.label r 0) 0) refl)
      by_state (suc (suc x)) q l = absurd (omega arith)

  row-right : (r : ℕ) → r < n → 1 < state_at v r → (lookup t (account_at v r) ≡ some (mint_at v r)) × (mint_at v r ≢ zero_key) × (state_at v r - 2 ≡ mark_of e ps (account_at v r))
  row-right r k o = go (state_at w r) refl (ltb-true 1 (state_at w r) (sym (has-mint m r k) ∙ lt-ltb 1 (state_at v r) o))
    where
      go : (x : ℕ) → state_at w r ≡ x → 1 < state_at w r → (lookup t (account_at v r) ≡ some (mint_at v r)) × (mint_at v r ≢ zero_key) × (state_at v r - 2 ≡ mark_of e ps (account_at v r))
      go zero q i = absurd (omega arith)
      go (suc zero) q i = absurd (omega arith)
      go (suc (suc x)) q i =
          rw (account-is r k, m.mint r) (
            said r x (positive r i) k q,
            h.now.mint r k i,
            mark-right r (positive r i) k x q (omega (arith, h.now.low r k)),
          )

  -- an account with a mint has a row
  row-there : (a k : Key) → lookup t a ≡ some k → k ≢ zero_key → (r : ℕ) × (r < n) × (1 < state_at v r) × (account_at v r ≡ a) × (mint_at v r ≡ k)
  unfolding state_says
  row-there a k q z = go (h.now.cover a k q)
    where
      state : (r : ℕ) → 0 < r → r < n → α r ≡ a → (x : ℕ) → state_at w r ≡ x → (r : ℕ) × (r < n) × (1 < state_at v r) × (account_at v r ≡ a) × (mint_at v r ≡ k)
      state r y l f zero g = absurd (none-ne-some k (sym (h.now.said r y l ∙ rw g) ∙ rw f q))
      state r y l f (suc zero) g = absurd (z (sym (some-injective _ _ (sym (h.now.said r y l ∙ rw g) ∙ rw f q))))
      state r y l f (suc (suc x)) g = (
        r,
        l,
        ltb-true 1 (state_at v r) (has-mint m r l ∙ lt-ltb 1 (state_at w r) (omega arith)),
        account-is r l ∙ f,
        m.mint r ∙ some-injective _ _ (sym (said r x y l g) ∙ rw f q),
      )

      go : (r : ℕ) × (0 < r) × (r < n) × (α r ≡ a) → (r : ℕ) × (r < n) × (1 < state_at v r) × (account_at v r ≡ a) × (mint_at v r ≡ k)
      go (r, y, l, f) = state r y l f (state_at w r) refl

  -- the ordered rows are the mint table
  pub table-right : map (cell v) (sort_to v n) ≡ mint_table e ps t
  unfolding cell
  table-right =
      theory.written
      (settled-distinct s)
      (ascending-map (cell v) (λ x. x.0) (ascends v n (λ r q k l f. p.apart r q k l (sym (account-is r k) ∙ f ∙ account-is q l))))
      (record { right = λ i. right i; all = λ a k q z. all a k q z })
    where
      right : {a k : Key} {j : ℕ} → Memᴰ (a, k, j) (map (cell v) (sort_to v n)) → (lookup t a ≡ some k) × (k ≢ zero_key) × (j ≡ mark_of e ps a)
      right i =
          let y = Memᴰ.of_map (cell v) (sort_to v n) i in
          let f = sorted-mem v n y.1 in
          subst (λ (x : MintRow). (lookup t x.0 ≡ some x.1) × (x.1 ≢ zero_key) × (x.2 ≡ mark_of e ps x.0)) y.2 (row-right y.0 f.0 f.1)

      all : (a k : Key) → lookup t a ≡ some k → k ≢ zero_key → Memᴰ (a, k, mark_of e ps a) (map (cell v) (sort_to v n))
      all a k q z =
          let y = row-there a k q z in
          let f = row-right y.0 y.1 y.2 in
          Memᴰ.cast (sym (row-eq y.3 y.4 (f.2 ∙ ap (λ (c : Key). mark_of e ps c) y.3))) (Memᴰ.map (cell v) (mem-sorted v n y.1 y.2))

  -- the mint of a row is that of its account
  pub mint-right : (r : ℕ) → r < n → shown_mint v r ≡ or_zero (mint_in (mint_table e ps t) (α r))
  unfolding shown_mint or_zero
  mint-right r k = rw (table-mint e ps t (α r), final-row p s h.now r k, has-mint m r k, m.mint r) (go (ltb 1 (state_at w r)))
    where
      go : (b : Bool) → cond b (mint_at w r) zero_key ≡ or_zero (cond b (some (mint_at w r)) none)
      go true = refl
      go false = refl

  -- the mints by key index
  pub mints-right : (row : List ℕ) (κ : ℕ → Key) (c : ℕ) → ((i : ℕ) → i < c → (get_or row i 0 < n) × (α (get_or row i 0) ≡ κ i)) → mints_to v row c ≡ mints_of (mint_table e ps t) κ c
  unfolding mints_to mints_of
  mints-right row κ zero f = refl
  mints-right row κ (suc c) f =
      let g = f c (omega arith) in
      rw (mints-right row κ c (λ i l. f i (omega arith)), mint-right (get_or row c 0) g.0, g.1)
