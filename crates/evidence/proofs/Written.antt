-- For a program that writes the mint table: rows that ascend, and are the right ones, are the table, however they were sorted. Assumes nothing.
use mathlib.Core.Path.{◌≡◌, sym, ap}
use mathlib.Core.Logic.{◌≢◌}
use mathlib.Core.Option.{some}
use mathlib.Core.List.Memᴰ
use mathlib.Core.List.{List, Memᴰ}
use Prim.Native.Nat.{ℕ}
use Rattle.wire.specs.Ascending.{Ascending}
use Rattle.wire.proofs.Ascending.{ascending-unique}
use Rattle.ids.specs.Keys.{Key, zero_key}
use Rattle.evidence.specs.Table.{Table, lookup}
use Rattle.evidence.proofs.Table.{has-lookup, lookup-has}
use Rattle.evidence.proofs.Distinct.{Distinct}
use Rattle.evidence.specs.Evidence.{Evidence}
use Rattle.evidence.specs.Passes.{Transfers}
use Rattle.evidence.specs.Final.{final}
use Rattle.evidence.proofs.Final.{final-has, has-final}
use Rattle.evidence.specs.Marks.{mark_of}
use Rattle.evidence.specs.MintTable.{MintRow, with_mark, mint_table}
use Rattle.evidence.proofs.MintTable.{table-ascending}

-- l has a marked row for each mint that t gives, and no other, t the table when the passes are over
pub record Written (e : Evidence) (ps : Transfers) (t : Table) (l : List MintRow) : Type 0 where
  pub right : {a m : Key} {n : ℕ} → Memᴰ (a, m, n) l → (lookup t a ≡ some m) × (m ≢ zero_key) × (n ≡ mark_of e ps a)
  pub all : (a m : Key) → lookup t a ≡ some m → m ≢ zero_key → Memᴰ (a, m, mark_of e ps a) l

-- such rows, ascending by account, are the mint table
pub written : {e : Evidence} {ps : Transfers} {t : Table} {l : List MintRow} → Distinct t → Ascending (λ x. x.0) l → Written e ps t l → l ≡ mint_table e ps t
unfolding mint_table
written {e} {ps} {t} {l} d s w = ascending-unique s (table-ascending e ps d) (record { to = λ i. to i; from = λ i. from i })
  where
    to : {x : MintRow} → Memᴰ x l → Memᴰ x (mint_table e ps t)
    to {x} i =
        let k = w.right i in
        Memᴰ.cast (ap (λ (n : ℕ). (x.0, x.1, n)) k.2) (Memᴰ.map (with_mark e ps) (has-final d (lookup-has t k.0) k.1))

    from : {x : MintRow} → Memᴰ x (mint_table e ps t) → Memᴰ x l
    from i =
        let y = Memᴰ.of_map (with_mark e ps) (final t) i in
        let k = final-has d y.1 in
        Memᴰ.cast (sym y.2) (w.all y.0.0 y.0.1 (has-lookup k.0) k.1)
