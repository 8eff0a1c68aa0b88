-- `descendant` and the bits on the numbers that the arrays hold: these are one higher, with 0 for none, which keeps their order.
-- Assumes nothing.
use mathlib.Core.Path.{◌≡◌, refl, ap₂, ◌∙◌}
use mathlib.Core.Bool.{Bool, true, false, cond, ◌&&◌, ◌||◌}
use Prim.Native.Nat.{ℕ, zero, suc, ◌*◌, ◌/◌, ◌%◌, ◌≤◌}
use native.Mathlib.Omega.{arith}
use Rattle.std.proofs.lemmas.Bool.Decides.{nat_tests}
use borrow.Author.Tests.{eqb-true, eqb-false}
use lib.Dec.{ltb, eqb}
use lib.Bits.{bit_and, bit_or}
use Rattle.std.proofs.lemmas.Nat.{and_mask, or_mod, or_shr}
use Rattle.pack.specs.declared.position.Place.{Place}
use Rattle.pack.specs.Invocation.{lowered, position_of}
use Rattle.subtrees.specs.Descendant.{higher, inners, descendant}
use Rattle.subtrees.specs.Subtrees.{odd, joined}

-- known heights are not 0
higher-raised : (a b : ℕ) → higher (lowered a) (lowered b) ≡ (ltb 0 a && ltb a b)
unfolding higher lowered
higher-raised zero zero = refl
higher-raised zero (suc b) = refl
higher-raised (suc a) zero = grind (arith, nat_tests)
higher-raised (suc a) (suc b) = grind (arith, nat_tests)

-- an outer's inner index is 0
inners-raised : (a b : ℕ) (up : Bool) → inners (lowered a) (lowered b) up ≡ (ltb a b && (eqb a 0 || up))
unfolding inners lowered
inners-raised zero zero up = refl
inners-raised zero (suc b) up = grind (arith, nat_tests)
inners-raised (suc a) zero up = grind (arith, nat_tests)
inners-raised (suc a) (suc b) up = grind (arith, nat_tests)

-- the definition in the order of the code's tests
pub descendant-raised : (p c : Place)
    → descendant (position_of p) (position_of c)
    ≡ (eqb p.outer c.outer && (ltb p.inner c.inner && (eqb p.inner 0 || (ltb 0 p.height && ltb p.height c.height))))
unfolding descendant position_of
descendant-raised p c = rw (inners-raised p.inner c.inner (higher (lowered p.height) (lowered c.height)), higher-raised p.height c.height)

-- the last bit as a number
pub last_bit : (b : ℕ) → b % 2 ≡ cond (odd b) 1 0
last_bit b = go (odd b) refl
  where
    go : (t : Bool) → odd b ≡ t → b % 2 ≡ cond t 1 0
    go true e = eqb-true (b % 2) 1 e
    go false e =
        let no = eqb-false (b % 2) 1 e in
        omega arith

-- the last bit of two numbers or-ed
or-odd : (a b : ℕ) → bit_or a b % 2 ≡ cond (odd a || odd b) 1 0
or-odd a b = or_mod a b 1 ∙ ap₂ bit_or (last_bit a) (last_bit b) ∙ both (odd a) (odd b)
  where
    both : (s t : Bool) → bit_or (cond s 1 0) (cond t 1 0) ≡ cond (s || t) 1 0
    both true true = refl
    both true false = refl
    both false true = refl
    both false false = refl

twice : (t : Bool) → cond t 1 0 * 2 ≡ cond t 2 0
twice true = refl
twice false = refl

-- the two low bits of two bytes or-ed
pub or-joined : (a b : ℕ) → bit_and (bit_or a b) 3 ≡ joined a b
unfolding joined
or-joined a b =
    let low : bit_and (bit_or a b) 3 ≡ bit_or a b % 4 = and_mask (bit_or a b) 2 in
    let last = or-odd a b in
    let second = rw (← or_shr a b 1) at (or-odd (a / 2) (b / 2)) in
    rw (← twice (odd (a / 2) || odd (b / 2))) (omega arith)

pub pick-le : (t : Bool) → cond t 1 0 ≤ 1
pick-le true = omega arith
pick-le false = omega arith
