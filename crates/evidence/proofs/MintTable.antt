-- The rows that are written: the final rows with their marks. Assumes nothing.
use mathlib.Core.Path.{◌≡◌, refl, sym, ◌∙◌, ap, subst}
use mathlib.Core.List.Memᴰ
use mathlib.Core.List.{List, [], ◌∷◌, map, Memᴰ}
use Prim.Native.Nat.{ℕ}
use Rattle.wire.specs.Members.{SameMembers}
use Rattle.wire.specs.Ascending.{Ascending}
use Rattle.wire.proofs.Ascending.{ascending-map}
use Rattle.ids.specs.Keys.{Key}
use Rattle.evidence.specs.Table.{Table, accounts, lookup}
use Rattle.evidence.proofs.Table.{row-of-has}
use Rattle.evidence.specs.Evidence.{Evidence, One}
use Rattle.evidence.proofs.Recording.{one_has, one_not_zero}
use Rattle.evidence.proofs.Distinct.{Distinct}
use Rattle.evidence.specs.Passes.{Transfers}
use Rattle.evidence.proofs.Infer.{Settled, settled-distinct}
use Rattle.evidence.specs.Chains.{Chain, start}
use Rattle.evidence.proofs.Chains.{settled-sound, complete}
use Rattle.evidence.specs.Final.{final}
use Rattle.evidence.proofs.Final.{final-sorted, final-has, gives-final}
use Rattle.evidence.proofs.Independence.{same-final-accounts}
use Rattle.evidence.specs.Marks.{mark_of, Mark, mark_recorded}
use Rattle.evidence.proofs.Marks.{mark-unique, mark-right}
use Rattle.evidence.specs.MintTable.{MintRow, mint_in, mint_table, row_accounts, with_mark}

-- the rows ascend by account
pub table-ascending : (e : Evidence) (ps : Transfers) {t : Table} → Distinct t → Ascending (λ x. x.0) (mint_table e ps t)
unfolding mint_table
table-ascending e ps d = ascending-map (with_mark e ps) (λ x. x.0) (final-sorted d)

-- the accounts of the written rows are those of the final table
mapped-accounts : (e : Evidence) (ps : Transfers) (t : Table) → row_accounts (map (with_mark e ps) t) ≡ accounts t
mapped-accounts e ps [] = refl
mapped-accounts e ps (x ∷ t) = ap (λ (l : List Key). x.0 ∷ l) (mapped-accounts e ps t)

pub table-accounts : (e : Evidence) (ps : Transfers) (t : Table) → row_accounts (mint_table e ps t) ≡ accounts (final t)
unfolding mint_table
table-accounts e ps t = mapped-accounts e ps (final t)

-- a search of the written rows is a search of the final table
mapped-mint : (e : Evidence) (ps : Transfers) (t : Table) (a : Key) → mint_in (map (with_mark e ps) t) a ≡ lookup t a
unfolding mint_in lookup
mapped-mint e ps [] a = refl
mapped-mint e ps (x ∷ t) a = rw (mapped-mint e ps t a)

pub table-mint : (e : Evidence) (ps : Transfers) (t : Table) (a : Key) → mint_in (mint_table e ps t) a ≡ lookup (final t) a
unfolding mint_table
table-mint e ps t a = mapped-mint e ps (final t) a

-- the rows of one table
module _ {e : Evidence} {ps : Transfers} {t : Table} (s : Settled e ps t) where
  -- a row's mint is at the start of a chain, and its mark is the account's
  pub table-right : {a m : Key} {n : ℕ} → Memᴰ (a, m, n) (mint_table e ps t) → Chain e ps m a × Mark e ps a n
  unfolding mint_table
  table-right {a} {m} {n} i =
      let y = Memᴰ.of_map (with_mark e ps) (final t) i in
      let g = final-has (settled-distinct s) y.1 in
      let c = (settled-sound s).chain g.0 g.1 in
      subst (λ (x : MintRow). Chain e ps x.1 x.0 × Mark e ps x.0 x.2) y.2 (c, mark-right e ps y.0.0 c)

  -- an account that a chain reaches has a row
  pub table-there : {a m : Key} → Chain e ps m a → (k : Key) × Memᴰ (a, k, mark_of e ps a) (mint_table e ps t)
  unfolding mint_table
  table-there {a} c =
      let k = complete s c in
      (k.0, Memᴰ.map (with_mark e ps) (row-of-has (gives-final (settled-distinct s) k.1 k.2)))

  -- one recorded mint is kept, with mark 0
  pub table_kept : {a m : Key} → One e a m → Memᴰ (a, m, 0) (mint_table e ps t)
  unfolding mint_table
  table_kept {a} {m} o =
      let h = gives-final (settled-distinct s) ((settled-sound s).kept (one_has o)) (one_not_zero o) in
      let i = Memᴰ.map (with_mark e ps) (row-of-has h) in
      Memᴰ.cast (ap (λ (n : ℕ). (a, m, n)) (mark-unique (mark_recorded o) (mark-right e ps a (start o)))) i

-- T5 for the written rows: the same members in any order have the same accounts
pub same-table-accounts : {e e' : Evidence} {ps ps' : Transfers} {t t' : Table} → SameMembers e e' → SameMembers ps ps' → Settled e ps t → Settled e' ps' t'
    → row_accounts (mint_table e ps t) ≡ row_accounts (mint_table e' ps' t')
same-table-accounts {e} {e'} {ps} {ps'} {t} {t'} se sp s s' = table-accounts e ps t ∙ same-final-accounts se sp s s' ∙ sym (table-accounts e' ps' t')
