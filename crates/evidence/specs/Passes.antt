-- Plain transfers: one step, one pass, and which accounts a transfer joins. Assumes nothing.
use Rattle.std.specs.Prelude.{◌≡◌, cond, ◌||◌}
use Rattle.std.proofs.Math.Option.{Option, none, some}
use mathlib.Core.List.{List, [], ◌∷◌, Memᴰ}
use Rattle.ids.specs.Keys.{Key, is_zero}
use Rattle.evidence.specs.Table.{Row, Table, add, lookup}

-- plain transfers (source, destination), in order
abbrev pub Transfers : Type 0
Transfers = List Row

-- a row for an account that has none; an ambiguous mint is not handed on
unfoldable pub fill : Table → Key → Key → Table
fill t a m = cond (is_zero m) t (add t a m)

-- what a transfer does, by what is known of its source and of its destination
unfoldable pub spread : Table → Row → Option Key → Option Key → Table
spread t p none none = t
spread t p none (some k) = fill t p.0 k
spread t p (some m) none = fill t p.1 m
spread t p (some m) (some k) = t

-- one plain transfer; a zero key is passed over
unfoldable pub step : Table → Row → Table
step t p = cond (is_zero p.0 || is_zero p.1) t (spread t p (lookup t p.0) (lookup t p.1))

-- one pass over all plain transfers
unfoldable pub pass : Table → Transfers → Table
pass t [] = t
pass t (p ∷ ps) = pass (step t p) ps

-- a and b are the two ends of a transfer
pub data Ends (a b : Key) : Row → Type 0 where
  forth : {p : Row} → (a, b) ≡ p → Ends a b p
  back : {p : Row} → (b, a) ≡ p → Ends a b p

-- a transfer joins a and b, either way
pub data Joined (ps : Transfers) (a b : Key) : Type 0 where
  joined : {p : Row} → Ends a b p → Memᴰ p ps → Joined ps a b
