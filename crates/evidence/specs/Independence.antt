-- What the order of evidence and of plain transfers can change, and when it changes nothing. Assumes nothing.
use Rattle.std.specs.Prelude.{◌≡◌, ◌≢◌, ◌⊎◌}
use mathlib.Core.List.{List, [], ◌∷◌, Memᴰ}
use Rattle.ids.specs.Keys.{Key}
use Rattle.evidence.specs.Evidence.{Evidence, Free, One}
use Rattle.evidence.specs.Passes.{Transfers, Joined}
use Rattle.evidence.specs.Chains.{Chain}
use Rattle.evidence.specs.MintTable.{MintRow}

-- no account without a recorded mint is reached by chains from two different mints
pub record Apart (e : Evidence) (ps : Transfers) : Type 0 where
  pub apart : {a m k : Key} → Free e a → Chain e ps m a → Chain e ps k a → m ≡ k

-- no chain joins two accounts recorded with different mints; a transfer straight from one to the other is no matter, so this is the weakest reading
pub record Unjoined (e : Evidence) (ps : Transfers) : Type 0 where
  pub unjoined : {a b m k : Key} → Chain e ps m a → Free e a → Joined ps a b → One e b k → m ≡ k

-- no row has mark 2
pub record NoneInDoubt (l : List MintRow) : Type 0 where
  pub sure : {r : MintRow} → Memᴰ r l → r.2 ≢ 2

-- two rows with one account and one mark, and with one mint unless the mark is 2
pub record SameButDoubt (r s : MintRow) : Type 0 where
  pub account : r.0 ≡ s.0
  pub mark : r.2 ≡ s.2
  pub mint : (r.1 ≡ s.1) ⊎ (r.2 ≡ 2)

-- two tables that are so row by row: they differ at most in mints that are in doubt
pub data DifferInDoubt : List MintRow → List MintRow → Type 0 where
  no_row : DifferInDoubt [] []
  row : {r s : MintRow} {l k : List MintRow} → SameButDoubt r s → DifferInDoubt l k → DifferInDoubt (r ∷ l) (s ∷ k)
