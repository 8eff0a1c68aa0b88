-- Recording evidence, and what evidence says of an account. Assumes nothing.
use Rattle.std.specs.Prelude.{◌≡◌, ◌≢◌, cond, ◌||◌}
use mathlib.Core.List.{List, [], ◌∷◌, Memᴰ}
use Rattle.wire.specs.Same.{same}
use Rattle.ids.specs.Keys.{Key, zero_key, is_zero}
use Rattle.evidence.specs.Table.{Row, Table}

-- pieces of evidence (account, mint), in order
abbrev pub Evidence : Type 0
Evidence = List Row

-- a mint for an account: a new row, or the row as it is, or an ambiguous row if the mints differ
unfoldable pub put : Table → Key → Key → Table
put [] a m = (a, m) ∷ []
put (r ∷ t) a m = cond (same a r.0) ((r.0, cond (same m r.1) r.1 zero_key) ∷ t) (r ∷ put t a m)

-- one piece of evidence; with a zero account or a zero mint it records nothing
unfoldable pub note : Table → Row → Table
note t x = cond (is_zero x.0 || is_zero x.1) t (put t x.0 x.1)

-- all evidence, in order
unfoldable pub note_all : Table → Evidence → Table
note_all t [] = t
note_all t (x ∷ e) = note_all (note t x) e

-- the table that the passes start from
unfoldable pub recorded : Evidence → Table
recorded e = note_all [] e

-- valid evidence that account a has mint m
pub record Says (e : Evidence) (a m : Key) : Type 0 where
  pub piece : Memᴰ (a, m) e
  pub account : a ≢ zero_key
  pub mint : m ≢ zero_key

-- no valid evidence for a
pub record Free (e : Evidence) (a : Key) : Type 0 where
  pub silent : {m : Key} → ¬ Says e a m

-- one recorded mint: some evidence for a, and all of it says m
pub record One (e : Evidence) (a m : Key) : Type 0 where
  pub says : Says e a m
  pub only : {k : Key} → Says e a k → k ≡ m

-- two pieces of evidence for a differ
pub record Clash (e : Evidence) (a : Key) : Type 0 where
  pub m : Key
  pub k : Key
  pub says : Says e a m
  pub other : Says e a k
  pub differ : m ≢ k
