-- A leg in numbers is the original's leg: an index byte stands for the key that `account` gives at its place, since no place passes the accounts.
-- Assumes nothing.
use mathlib.Core.Path.{◌≡◌, refl, sym, ap, ◌∙◌}
use mathlib.Core.Bool.{false}
use mathlib.Core.List.{List}
use mathlib.Core.Option.{Option, none, some}
use Prim.Native.Nat.{ℕ}
use borrow.Author.Tests.{lt-ltb}
use lib.ListN.{length}
use Rattle.ids.specs.Keys.{Key, account}
use Rattle.ids.specs.Mints.{mint_of}
use Rattle.ids.specs.declared.Id.{Id}
use Rattle.ids.specs.declared.Id.TheVariants.{SplToken, Token2022, WrappedSol, ComputeBudget, AssociatedToken, Memo, PumpFun, LaunchLab, PumpSwap, Clmm, Cpmm, AmmV4, Orca, Dlmm, System, Other, Unresolved}
use Rattle.std.specs.Prelude.{Option as Answer, Some, None, option_map}
use Rattle.swaps.specs.declared.Pair.{Pair}
use Rattle.swaps.specs.declared.Swap.{Swap}
use Rattle.swaps.specs.Leg.{explicit, leg_with, valued}
use Rattle.swaps.specs.Swap.{trades, by_program, swap, indexed_pair, indexed, leg_in_numbers}
use Rattle.swaps.proofs.Among.{PairWithin, Among}
use Rattle.swaps.proofs.Places.{among}

explicit-input : (κ : ℕ → Key) (accounts : List ℕ) (o : Answer Pair) → PairWithin (length accounts) o
    → explicit κ (option_map (λ (p : Pair). p.input) (indexed_pair accounts o)) ≡ explicit (account κ accounts) (option_map (λ (p : Pair). p.input) o)
explicit-input κ accounts None w = refl
explicit-input κ accounts (Some p) w = simp (lt-ltb _ _ w.0)

explicit-output : (κ : ℕ → Key) (accounts : List ℕ) (o : Answer Pair) → PairWithin (length accounts) o
    → explicit κ (option_map (λ (p : Pair). p.output) (indexed_pair accounts o)) ≡ explicit (account κ accounts) (option_map (λ (p : Pair). p.output) o)
explicit-output κ accounts None w = refl
explicit-output κ accounts (Some p) w = simp (lt-ltb _ _ w.1)

viewed : (κ : ℕ → Key) (μ : Key → Option Key) (pools : List Key) (accounts : List ℕ) (f : Answer Swap) → Among (length accounts) f
    → valued κ μ pools (indexed accounts f) ≡ valued (account κ accounts) μ pools f
unfolding valued
viewed κ μ pools accounts None w = refl
viewed κ μ pools accounts (Some s) w =
    simp (lt-ltb _ _ w.pool, lt-ltb _ _ w.trader, lt-ltb _ _ w.input, lt-ltb _ _ w.output, explicit-input κ accounts s.pair w.pair, explicit-output κ accounts s.pair w.pair)

-- another program's instruction is no leg
other : (names : List ℕ) (a : ℕ → Key) (id : Id) (n : ℕ) (d : List ℕ) → trades id ≡ false → by_program names a id n d ≡ None
unfolding trades by_program
other names a Clmm n d e = cc
other names a Orca n d e = cc
other names a Cpmm n d e = cc
other names a Dlmm n d e = cc
other names a LaunchLab n d e = cc
other names a PumpFun n d e = cc
other names a PumpSwap n d e = cc
other names a AmmV4 n d e = cc
other names a SplToken n d e = refl
other names a Token2022 n d e = refl
other names a WrappedSol n d e = refl
other names a ComputeBudget n d e = refl
other names a AssociatedToken n d e = refl
other names a Memo n d e = refl
other names a System n d e = refl
other names a Other n d e = refl
other names a Unresolved n d e = refl

-- so `leg` answers nothing
pub no-trade : (names : List ℕ) (κ : ℕ → Key) (id : Id) (accounts bytes : List ℕ) → trades id ≡ false → leg_in_numbers names κ id accounts bytes ≡ None
no-trade names κ id accounts bytes e = ap (indexed accounts) (other names (account κ accounts) id (length accounts) bytes e)

module _ (names : List ℕ) (κ : ℕ → Key) (id : Id) (accounts bytes : List ℕ) (μ : Key → Option Key) (pools : List Key) where
  -- what `leg` answers is `swap`
  pub leg-is-swap : valued κ μ pools (leg_in_numbers names κ id accounts bytes) ≡ swap names κ id accounts bytes μ pools
  unfolding swap
  leg-is-swap =
      viewed κ μ pools accounts (by_program names (account κ accounts) id (length accounts) bytes) (among (length accounts) names (account κ accounts) id bytes)

  -- no leg
  pub no_leg : leg_in_numbers names κ id accounts bytes ≡ None → swap names κ id accounts bytes μ pools ≡ none
  unfolding valued
  no_leg e = sym leg-is-swap ∙ ap (valued κ μ pools) e

  -- a leg, with the mints that are known of its input and output account handed in as bytes: `put_leg` writes the row of this very leg
  pub a-leg : (s : Swap) (spent bought : List ℕ) → leg_in_numbers names κ id accounts bytes ≡ Some s → mint_of spent ≡ μ (κ s.input) → mint_of bought ≡ μ (κ s.output)
      → swap names κ id accounts bytes μ pools ≡ some (leg_with κ (mint_of spent) (mint_of bought) pools s)
  unfolding valued
  a-leg s spent bought e f g = sym leg-is-swap ∙ ap (valued κ μ pools) e ∙ rw (f, g)
