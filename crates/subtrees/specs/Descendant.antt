-- Which invocation holds which: the Rust's `descendant`, on positions.
-- Assumes nothing.
use Rattle.std.specs.Prelude.{ℕ, Bool, true, false, ◌&&◌, ltb, eqb}
use Rattle.std.proofs.Math.Option.{Option, none, some}
use Rattle.pack.specs.Invocation.{Position}

-- both heights are known, and the child's is greater
unfoldable pub higher : Option ℕ → Option ℕ → Bool
higher none none = false
higher none (some b) = false
higher (some a) none = false
higher (some a) (some b) = ltb a b

-- the Rust's match on the two inner indexes, `up` being its match on the heights: an outer holds every inner, an inner a later and higher one
unfoldable pub inners : Option ℕ → Option ℕ → Bool → Bool
inners none none up = false
inners none (some b) up = true
inners (some a) none up = false
inners (some a) (some b) up = ltb a b && up

-- the Rust's `descendant`
unfoldable pub descendant : Position → Position → Bool
descendant parent child = eqb parent.outer child.outer && inners parent.inner child.inner (higher parent.height child.height)
