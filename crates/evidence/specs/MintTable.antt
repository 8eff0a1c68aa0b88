-- The mint table as it is written: final rows with their marks, the room for them, and the passes. Assumes nothing.
use Rattle.std.specs.Prelude.{cond, List, [], ◌∷◌, map, ℕ, length}
use Rattle.std.proofs.Math.Option.{Option, none, some}
use Rattle.wire.specs.Same.{same}
use Rattle.ids.specs.Keys.{Key}
use Rattle.evidence.specs.Table.{Row, Table}
use Rattle.evidence.specs.Evidence.{Evidence}
use Rattle.evidence.specs.Passes.{Transfers}
use Rattle.evidence.specs.Run.{TableAfter}
use Rattle.evidence.specs.Infer.{infer}
use Rattle.evidence.specs.Final.{final}
use Rattle.evidence.specs.Marks.{mark_of}

-- account, mint, mark
abbrev pub MintRow : Type 0
MintRow = Key × Key × ℕ

-- a row of the final table with its mark
abbrev pub with_mark : Evidence → Transfers → Row → MintRow
with_mark e ps x = (x.0, x.1, mark_of e ps x.0)

-- the rows that are written, t the table when the passes are over
unfoldable pub mint_table : Evidence → Transfers → Table → List MintRow
mint_table e ps t = map (with_mark e ps) (final t)

-- the rows, the accounts that need room (ambiguous ones count), and the passes
pub record MintAnswer : Type 0 where
  pub rows : List MintRow
  pub room : ℕ
  pub passes : ℕ

-- the answer when the passes are over
unfoldable pub finish : Evidence → Transfers → Option TableAfter → Option MintAnswer
finish e ps none = none
finish e ps (some t) = some (record { rows = mint_table e ps t.0; room = length t.0; passes = t.1 })

-- the mint table of all evidence and all plain transfers; none where the fuel, the passes that are allowed, does not suffice
unfoldable pub mints : ℕ → Evidence → Transfers → Option MintAnswer
mints f e ps = finish e ps (infer f e ps)

-- the mint that the table gives an account: its first row with that account decides
unfoldable pub mint_in : List MintRow → Key → Option Key
mint_in [] a = none
mint_in (r ∷ l) a = cond (same a r.0) (some r.1) (mint_in l a)

-- the accounts of the rows
abbrev pub row_accounts : List MintRow → List Key
row_accounts l = map (λ r. r.0) l

-- the accounts of the rows, each with its mark
abbrev pub row_marks : List MintRow → List (Key × ℕ)
row_marks l = map (λ r. (r.0, r.2)) l
