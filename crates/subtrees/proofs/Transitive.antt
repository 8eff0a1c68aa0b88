-- `descendant` is transitive for all positions: a child is always an inner, inner indexes and known heights rise along a chain, and an outer holds every inner.
-- Assumes nothing.
use mathlib.Core.Path.{◌≡◌, refl, ◌∙◌}
use mathlib.Core.Bool.{Bool, true, ◌&&◌}
use mathlib.Core.Option.{Option, none, some}
use Prim.Native.Nat.{ℕ}
use native.Mathlib.Omega.{arith}
use borrow.Author.Tests.{lt-ltb, ltb-true, eq-eqb, eqb-true}
use lib.Dec.{ltb, eqb}
use Rattle.wire.proofs.Below.{and_left, and_right}
use Rattle.pack.specs.Invocation.{Position}
use Rattle.subtrees.specs.Descendant.{higher, inners, descendant}
use Rattle.subtrees.specs.Subtrees.{position_in, within}
use mathlib.Core.List.{List}

ltb-trans : (a b c : ℕ) → ltb a b ≡ true → ltb b c ≡ true → ltb a c ≡ true
ltb-trans a b c p q =
    let x = ltb-true a b p in
    let y = ltb-true b c q in
    lt-ltb a c (omega arith)

and-true : (a b : Bool) → a ≡ true → b ≡ true → (a && b) ≡ true
and-true a b p q = rw (p, q)

pub higher-trans : (a b c : Option ℕ) → higher a b ≡ true → higher b c ≡ true → higher a c ≡ true
unfolding higher
higher-trans none none c p q = cc
higher-trans none (some b) c p q = cc
higher-trans (some a) none c p q = cc
higher-trans (some a) (some b) none p q = cc
higher-trans (some a) (some b) (some c) p q = ltb-trans a b c p q

pub inners-trans : (a b c : Option ℕ) (u v w : Bool) → (u ≡ true → v ≡ true → w ≡ true) → inners a b u ≡ true → inners b c v ≡ true → inners a c w ≡ true
unfolding inners
inners-trans none none c u v w f p q = cc
inners-trans none (some b) none u v w f p q = cc
inners-trans none (some b) (some c) u v w f p q = refl
inners-trans (some a) none c u v w f p q = cc
inners-trans (some a) (some b) none u v w f p q = cc
inners-trans (some a) (some b) (some c) u v w f p q =
    and-true (ltb a c) w (ltb-trans a b c (and_left (ltb a b) u p) (and_left (ltb b c) v q)) (f (and_right (ltb a b) u p) (and_right (ltb b c) v q))

pub descendant-trans : (a b c : Position) → descendant a b ≡ true → descendant b c ≡ true → descendant a c ≡ true
unfolding descendant
descendant-trans a b c p q =
    let ab = inners a.inner b.inner (higher a.height b.height) in
    let bc = inners b.inner c.inner (higher b.height c.height) in
    let same = eqb-true a.outer b.outer (and_left _ ab p) ∙ eqb-true b.outer c.outer (and_left _ bc q) in
    let up = higher-trans a.height b.height c.height in
    let rest = inners-trans a.inner b.inner c.inner _ _ _ up (and_right (eqb a.outer b.outer) ab p) (and_right (eqb b.outer c.outer) bc q) in
    rw (eq-eqb a.outer c.outer same, rest)

-- so it is for the invocations of a list
pub within-trans : (ps : List Position) (i e x : ℕ) → within ps i e ≡ true → within ps e x ≡ true → within ps i x ≡ true
unfolding within
within-trans ps i e x = descendant-trans (position_in ps i) (position_in ps e) (position_in ps x)
