-- What is written of a leg that is known by its index bytes.
-- Assumes nothing.
use mathlib.Core.Path.{◌≡◌, refl, ◌∙◌}
use mathlib.Core.Bool.{false, cond}
use mathlib.Core.List.{List}
use mathlib.Core.Option.{Option, none}
use Prim.Native.Nat.{ℕ}
use Rattle.ids.specs.Keys.{Key, key_of}
use Rattle.ids.specs.declared.Id.{Id}
use Rattle.ids.specs.declared.Id.TheVariants.{SplToken, Token2022, WrappedSol, ComputeBudget, AssociatedToken, Memo, PumpFun, LaunchLab, PumpSwap, Clmm, Cpmm, AmmV4, Orca, Dlmm, System, Other, Unresolved}
use Rattle.pack.specs.Invocation.{Instruction}
use Rattle.swaps.specs.Leg.{valued}
use Rattle.swaps.specs.Swap.{trades, by_program, swap}
use Rattle.swaps.proofs.View.{no-trade, no_leg}
use Rattle.evidence.specs.MintTable.{MintRow, mint_in}
use Rattle.route.specs.Legs.{leg_of}
use Rattle.route.specs.Program.{program_of, skips}

-- a program that routes pass over has no leg anyway
skipped : (names : List ℕ) (κ : ℕ → Key) (id : Id) (accounts bytes : List ℕ) (μ : Key → Option Key) (pools : List Key)
    → cond (skips id) none (swap names κ id accounts bytes μ pools) ≡ swap names κ id accounts bytes μ pools
unfolding swap by_program valued
skipped names κ SplToken accounts bytes μ pools = refl
skipped names κ Token2022 accounts bytes μ pools = refl
skipped names κ WrappedSol accounts bytes μ pools = refl
skipped names κ ComputeBudget accounts bytes μ pools = refl
skipped names κ AssociatedToken accounts bytes μ pools = refl
skipped names κ Memo accounts bytes μ pools = refl
skipped names κ PumpFun accounts bytes μ pools = refl
skipped names κ LaunchLab accounts bytes μ pools = refl
skipped names κ PumpSwap accounts bytes μ pools = refl
skipped names κ Clmm accounts bytes μ pools = refl
skipped names κ Cpmm accounts bytes μ pools = refl
skipped names κ AmmV4 accounts bytes μ pools = refl
skipped names κ Orca accounts bytes μ pools = refl
skipped names κ Dlmm accounts bytes μ pools = refl
skipped names κ System accounts bytes μ pools = refl
skipped names κ Other accounts bytes μ pools = refl
skipped names κ Unresolved accounts bytes μ pools = refl

-- so an instruction's leg is its swap
pub leg-swap : (names ks : List ℕ) (pools : List Key) (table : List MintRow) (x : Instruction)
    → leg_of names ks pools table x ≡ swap names (key_of ks) (program_of ks x) x.accounts x.bytes (mint_in table) pools
unfolding leg_of
leg-swap names ks pools table x = skipped names (key_of ks) (program_of ks x) x.accounts x.bytes (mint_in table) pools

-- and one of a program that does not trade has none
pub passed_over : (names ks : List ℕ) (pools : List Key) (table : List MintRow) (x : Instruction) → trades (program_of ks x) ≡ false → leg_of names ks pools table x ≡ none
passed_over names ks pools table x e =
    leg-swap names ks pools table x
    ∙ no_leg names (key_of ks) (program_of ks x) x.accounts x.bytes (mint_in table) pools (no-trade names (key_of ks) (program_of ks x) x.accounts x.bytes e)
