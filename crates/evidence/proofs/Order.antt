-- The theorem of order: the mint tables of the same evidence and the same plain transfers, in any order, differ at most in mints that are in doubt, because all
-- of it is said by members and chains. Assumes nothing.
use mathlib.Core.Path.{◌≡◌, refl, sym, ◌∙◌, ap, ap₂}
use mathlib.Core.Logic.{◌↔◌, ◌⊎◌, inl, inr, ⊎_elim, by_cases}
use mathlib.Core.Option.{Option, none, some, none-ne-some, some-injective}
use mathlib.Core.List.Memᴰ
use mathlib.Core.List.{List, [], ◌∷◌, Memᴰ, nil≢cons, cons≢nil, head-eq_of_cons-eq, tail-eq_of_cons-eq}
use Prim.Native.Nat.{ℕ, ◌≤◌}
use native.Mathlib.Omega.{arith}
use lib.ListN.{length, length-map}
use Rattle.wire.specs.Members.{SameMembers}
use Rattle.wire.proofs.Members.{same-sym}
use Rattle.wire.proofs.Order.{key?}
use Rattle.wire.specs.Ascending.{Ascending}
use Rattle.wire.proofs.Ascending.{ascending-once}
use Rattle.ids.specs.Keys.{Key}
use Rattle.evidence.specs.Table.{Table}
use Rattle.evidence.specs.Evidence.{Evidence, recorded, One, Free}
use Rattle.evidence.proofs.Evidence.{one_map}
use Rattle.evidence.specs.Passes.{Transfers}
use Rattle.evidence.specs.Run.{TableAfter}
use Rattle.evidence.specs.Infer.{infer}
use Rattle.evidence.proofs.Infer.{Settled, infer-settled, infer-passes, infer-none, settled-distinct}
use Rattle.evidence.specs.Chains.{Chain}
use Rattle.evidence.specs.Independence.{Apart, SameButDoubt, NoneInDoubt, DifferInDoubt, no_row, row}
use Rattle.evidence.proofs.Independence.{same-agree, same-chain, same-room}
use Rattle.evidence.proofs.Bound.{Among, rows_bound, enough}
use Rattle.evidence.specs.Marks.{Doubt, Mark}
use Rattle.evidence.proofs.Marks.{mark-unique, mark-zero, mark-filled, mark-two, same-mark}
use Rattle.evidence.specs.MintTable.{MintRow, MintAnswer, mint_table, row_accounts, row_marks, finish, mints}
use Rattle.evidence.proofs.MintTable.{table-ascending, same-table-accounts, table-right, table-there, table_kept}

-- how an answer is made: from a table with all evidence, to which no transfer hands on another mint
pub record Made (e : Evidence) (ps : Transfers) (x : MintAnswer) : Type 0 where
  pub table : Table
  pub settled : Settled e ps table
  pub rows : x.rows ≡ mint_table e ps table
  pub room : x.room ≡ length table
  pub passes : x.passes ≤ x.room
  pub no_pass : (x.passes ≡ 0) ↔ (recorded e ≡ [])

pub mints-made : (f : ℕ) (e : Evidence) (ps : Transfers) {x : MintAnswer} → mints f e ps ≡ some x → Made e ps x
unfolding mints finish
mints-made f e ps {x} q = go (infer f e ps) refl q
  where
    go : (o : Option TableAfter) → infer f e ps ≡ o → finish e ps o ≡ some x → Made e ps x
    go none p k = absurd (none-ne-some x k)
    go (some t) p k =
        rw
        (← (some-injective _ x k))
        (record {
          table = t.0;
          settled = infer-settled f e ps p;
          rows = refl;
          room = refl;
          passes = infer-passes f e ps p;
          no_pass = infer-none f e ps p;
        })

-- T6. With as much fuel as keys there is an answer, after no more passes than rows, which are no more than the keys.
pub answered : {l : List Key} {e : Evidence} {ps : Transfers} → Among l e ps → (f : ℕ) → length l ≤ f → (x : MintAnswer) × (mints f e ps ≡ some x) × (x.room ≤ length l)
unfolding mints finish
answered {l} {e} {ps} h f b = go (enough h f b)
  where
    go : (t : Table) × (n : ℕ) × (infer f e ps ≡ some (t, n)) × Settled e ps t × (n ≤ length l) → (x : MintAnswer) × (mints f e ps ≡ some x) × (x.room ≤ length l)
    go (t, n, q, s, k) = (record { rows = mint_table e ps t; room = length t; passes = n }, rw q, rows_bound h s.grows)

-- 256 keys: an answer always, after at most 256 passes
pub answered-256 : {l : List Key} {e : Evidence} {ps : Transfers} → Among l e ps → length l ≤ 256 → (x : MintAnswer) × (mints 512 e ps ≡ some x) × (x.room ≤ 256) × (x.passes ≤ 256)
answered-256 {e} {ps} h b =
    let x = answered h 512 (omega arith) in
    (x.0, x.1, omega arith, omega (arith, (mints-made 512 e ps x.1).passes))

module _ {e : Evidence} {ps : Transfers} {x : MintAnswer} (y : Made e ps x) where
  -- a row has a mint at the start of a chain (of no transfer, for a recorded account), and its account's mark
  pub row-right : {a m : Key} {n : ℕ} → Memᴰ (a, m, n) x.rows → Chain e ps m a × Mark e ps a n
  row-right i = table-right y.settled (rw y.rows at i)

  -- an account has a row exactly when a chain reaches it
  pub row-reached : {a : Key} → ((m : Key) × (n : ℕ) × Memᴰ (a, m, n) x.rows) ↔ ((m : Key) × Chain e ps m a)
  row-reached = (λ r. (r.0, (row-right r.2).0), λ c. let k = table-there y.settled c.1 in (k.0, _, rw (← y.rows) at k.1))

  -- T2. The rows ascend by account, with no account twice.
  pub row-order : Ascending (λ r. r.0) x.rows
  row-order = rw y.rows (table-ascending e ps (settled-distinct y.settled))

  -- one recorded mint is kept
  pub row_kept : {a m : Key} → One e a m → Memᴰ (a, m, 0) x.rows
  row_kept o = rw y.rows (table_kept y.settled o)

  -- a row has mark 0 exactly when its mint is the one recorded for its account
  pub row-recorded : {a m : Key} {n : ℕ} → Memᴰ (a, m, n) x.rows → (n ≡ 0) ↔ One e a m
  row-recorded {a} {m} {n} i = (λ q. same (mark-zero (row-right i).1 q), λ o. ap (λ r. r.2) (ascending-once row-order i (row_kept o) refl))
    where
      same : (k : Key) × One e a k → One e a m
      same (k, o) = rw (ap (λ r. r.1) (ascending-once row-order i (row_kept o) refl)) o

  -- and mark 1 or 2 exactly when nothing is recorded for it
  pub row-filled : {a m : Key} {n : ℕ} → Memᴰ (a, m, n) x.rows → ((n ≡ 1) ⊎ (n ≡ 2)) ↔ Free e a
  row-filled i = mark-filled (row-right i).1

  -- mark 2 exactly when chains with two different recorded mints reach it
  pub row-doubt : {a m : Key} {n : ℕ} → Memᴰ (a, m, n) x.rows → (n ≡ 2) ↔ Doubt e ps a
  row-doubt i = mark-two (row-right i).1

  -- so there is none where no account is reached from two mints
  pub row_apart : Apart e ps → NoneInDoubt x.rows
  row_apart h = record { sure = λ i q. let d = (row-doubt i).0 q in d.differ (h.apart ((row-filled i).0 (inr q)) d.chain d.other) }

-- two lists of rows with the same accounts, of which each two rows of one account are the same but for doubt
row-by-row : (l k : List MintRow) → row_accounts l ≡ row_accounts k → ((r s : MintRow) → Memᴰ r l → Memᴰ s k → r.0 ≡ s.0 → SameButDoubt r s) → DifferInDoubt l k
row-by-row [] [] q h = no_row
row-by-row [] (s ∷ k) q h = absurd (nil≢cons q)
row-by-row (r ∷ l) [] q h = absurd (cons≢nil q)
row-by-row (r ∷ l) (s ∷ k) q h =
    row
    (h r s (Memᴰ.head refl) (Memᴰ.head refl) (head-eq_of_cons-eq q))
    (row-by-row l k (tail-eq_of_cons-eq q) (λ x y i j. h x y (Memᴰ.tail i) (Memᴰ.tail j)))

-- such lists have the same marks
pub row-marks : {l k : List MintRow} → DifferInDoubt l k → row_marks l ≡ row_marks k
row-marks no_row = refl
row-marks (row {r} {s} h d) = ap₂ ◌∷◌ (rw (h.account, h.mark)) (row-marks d)

-- and are the same where the one has no mark 2
pub same_rows : {l k : List MintRow} → DifferInDoubt l k → NoneInDoubt l → l ≡ k
same_rows no_row n = refl
same_rows (row {r} {s} h d) n =
    ap₂ ◌∷◌
    (rw (h.account, ⊎_elim (λ q. q) (λ q. absurd (n.sure (Memᴰ.head refl) q)) h.mint, h.mark))
    (same_rows d (record { sure = λ i. n.sure (Memᴰ.tail i) }))

-- two answers: the same accounts with a mint, as much room; each recorded mint in both; and rows that differ at most in mints that are in doubt
pub record Alike (e : Evidence) (ps : Transfers) (x y : MintAnswer) : Type 0 where
  pub accounts : row_accounts x.rows ≡ row_accounts y.rows
  pub count : length x.rows ≡ length y.rows
  pub room : x.room ≡ y.room
  pub kept : {a m : Key} → One e a m → Memᴰ (a, m, 0) x.rows × Memᴰ (a, m, 0) y.rows
  pub doubt : DifferInDoubt x.rows y.rows

-- T5. Two answers over the same members are alike.
pub alike : {e e' : Evidence} {ps ps' : Transfers} {x y : MintAnswer} → SameMembers e e' → SameMembers ps ps' → Made e ps x → Made e' ps' y → Alike e ps x y
alike {e} {e'} {ps} {ps'} {x} {y} se sp m n =
    record {
      accounts = same;
      count = sym (length-map x.rows (λ r. r.0)) ∙ ap length same ∙ length-map y.rows (λ r. r.0);
      room = rw (m.room, n.room) (same-room se sp m.settled n.settled);
      kept = λ {a} o. (row_kept m o, row_kept n (one_map (same-agree se a) o));
      doubt = row-by-row x.rows y.rows same (λ r s i j q. but-doubt i (Memᴰ.cast (ap (λ (a : Key). (a, s.1, s.2)) q) j) q);
    }
  where
    same : row_accounts x.rows ≡ row_accounts y.rows
    same = rw (m.rows, n.rows) (same-table-accounts se sp m.settled n.settled)

    -- two mints of one account are the starts of two chains of the one input
    but-doubt : {r s : MintRow} → Memᴰ r x.rows → Memᴰ (r.0, s.1, s.2) y.rows → r.0 ≡ s.0 → SameButDoubt r s
    but-doubt {r} {s} i j q =
        let f = row-right m i in
        let g = row-right n j in
        record {
          account = q;
          mark = mark-unique (same-mark se sp f.1) g.1;
          mint =
              by_cases
              (key? r.1 s.1)
              (λ k. inl k)
              (λ d. inr ((mark-two f.1).1 (record { m = r.1; k = s.1; chain = f.0; other = same-chain (same-sym se) (same-sym sp) g.0; differ = d })));
        }
