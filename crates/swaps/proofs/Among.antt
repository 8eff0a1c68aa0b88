-- A leg whose places are all among the accounts: the shapes that the protocols' definitions share.
-- Assumes nothing.
use mathlib.Core.Path.{◌≡◌, refl}
use mathlib.Core.Bool.{Bool, true, false, cond}
use Prim.Native.Nat.{ℕ, ◌<◌}
use native.Mathlib.Omega.{arith}
use Rattle.std.specs.Prelude.{Option, Some, None}
use Rattle.swaps.specs.declared.Pair.{Pair}
use Rattle.swaps.specs.declared.Swap.{Swap}
use Rattle.swaps.specs.Data.{when}
use Rattle.swaps.specs.Draft.{bare_swap, stated, pair_by}

-- the places of a pair, where there is one, are below n
abbrev pub PairWithin : ℕ → Option Pair → Type 0
PairWithin n None = Unit {0}
PairWithin n (Some p) = (p.input < n) × (p.output < n)

-- so are all places of a leg
pub record Within (n : ℕ) (s : Swap) : Type 0 where
  pub pool : s.pool < n
  pub trader : s.trader < n
  pub input : s.input < n
  pub output : s.output < n
  pub pair : PairWithin n s.pair

-- where there is a leg
abbrev pub Among : ℕ → Option Swap → Type 0
Among n None = Unit {0}
Among n (Some s) = Within n s

module _ (n : ℕ) where
  -- under tests
  pub two : (t u : Bool) (s : Swap) → (t ≡ true → Within n s) → Among n (when t (when u (Some s)))
  two false u s h = tt
  two true false s h = tt
  two true true s h = h refl

  pub three : (t u v : Bool) (s : Swap) → (t ≡ true → Within n s) → Among n (when t (when u (when v (Some s))))
  three false u v s h = tt
  three true u v s h = two u v s (λ e. h refl)

  -- input and output, and the pair, each in either order
  pub crossed : (t b exact : Bool) (protocol pool trader i o p q x y : ℕ) → (pool < n) × (trader < n) × (i < n) × (o < n) × (p < n) × (q < n)
      → Within n (pair_by t p q (bare_swap protocol pool trader (cond b i o) (cond b o i) exact x y))
  crossed true true exact protocol pool trader i o p q x y h = omega arith
  crossed true false exact protocol pool trader i o p q x y h = omega arith
  crossed false true exact protocol pool trader i o p q x y h = omega arith
  crossed false false exact protocol pool trader i o p q x y h = omega arith

  -- one of two forms, exact-in or exact-out
  pub forms : (t p q : Bool) (f : Bool → Option Swap) → (t ≡ true → (exact : Bool) → Among n (f exact))
      → Among n (when t (cond p (f true) (when q (f false))))
  forms false p q f h = tt
  forms true true q f h = h refl true
  forms true false true f h = h refl false
  forms true false false f h = tt

  -- a leg that names no direction
  pub straight : (u exact : Bool) (protocol pool trader i o x y : ℕ) → (pool < n) × (trader < n) × (i < n) × (o < n)
      → Among n (when u (Some (stated protocol pool trader i o exact x y)))
  straight true exact protocol pool trader i o x y h = omega arith
  straight false exact protocol pool trader i o x y h = tt
