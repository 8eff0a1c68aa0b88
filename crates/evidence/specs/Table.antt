-- The mint table: rows in the order of their making, and the search for a row. Assumes nothing.
use Rattle.std.specs.Prelude.{◌≡◌, ◌≢◌, cond, List, [], ◌∷◌, ◌++◌, map}
use Rattle.std.proofs.Math.Option.{Option, none, some}
use Rattle.wire.specs.Same.{same}
use Rattle.ids.specs.Keys.{Key}

-- an account and its mint; the zero mint marks an ambiguous account
abbrev pub Row : Type 0
Row = Key × Key

abbrev pub Table : Type 0
Table = List Row

-- the accounts of the rows
abbrev pub accounts : Table → List Key
accounts t = map (λ r. r.0) t

-- the mint in the first row with that account
unfoldable pub lookup : Table → Key → Option Key
lookup [] a = none
lookup (r ∷ t) a = cond (same a r.0) (some r.1) (lookup t a)

-- a table with one more row at its end
abbrev pub add : Table → Key → Key → Table
add t a m = t ++ ((a, m) ∷ [])

-- the first row with account a has mint m
pub data Has (a m : Key) : Table → Type 0 where
  has_here : {r : Row} {t : Table} → a ≡ r.0 → m ≡ r.1 → Has a m (r ∷ t)
  has_there : {r : Row} {t : Table} → a ≢ r.0 → Has a m t → Has a m (r ∷ t)

-- no row has account a
pub data Lacks (a : Key) : Table → Type 0 where
  lacks_nil : Lacks a []
  lacks_cons : {r : Row} {t : Table} → a ≢ r.0 → Lacks a t → Lacks a (r ∷ t)
