-- The original's `swap` as a function on values.
-- An `Option` of the original is one here; the code's own is called `Answer`.
-- Assumes nothing.
use Rattle.std.specs.Prelude.{ℕ, Bool, true, false, List, length, get_or, Option as Answer, None, option_map}
use Rattle.std.proofs.Math.Option.{Option}
use Rattle.ids.specs.Keys.{Key, account}
use Rattle.ids.specs.declared.Id.{Id}
use Rattle.ids.specs.declared.Id.TheVariants.{SplToken, Token2022, WrappedSol, ComputeBudget, AssociatedToken, Memo, PumpFun, LaunchLab, PumpSwap, Clmm, Cpmm, AmmV4, Orca, Dlmm, System, Other, Unresolved}
use Rattle.swaps.specs.declared.Pair.{Pair}
use Rattle.swaps.specs.declared.Swap.{Swap}
use Rattle.swaps.specs.Clmm.{clmm}
use Rattle.swaps.specs.Orca.{orca}
use Rattle.swaps.specs.Cpmm.{cpmm}
use Rattle.swaps.specs.Dlmm.{dlmm}
use Rattle.swaps.specs.LaunchLab.{launch_lab}
use Rattle.swaps.specs.PumpFun.{pump_fun}
use Rattle.swaps.specs.PumpSwap.{pump_swap}
use Rattle.swaps.specs.AmmV4.{amm_v4}
use Rattle.swaps.specs.Leg.{RouteLeg, valued}

-- the eight protocols' programs: the only ones that `swap` compares with
unfoldable pub trades : Id → Bool
trades Clmm = true
trades Orca = true
trades Cpmm = true
trades Dlmm = true
trades LaunchLab = true
trades PumpFun = true
trades PumpSwap = true
trades AmmV4 = true
trades SplToken = false
trades Token2022 = false
trades WrappedSol = false
trades ComputeBudget = false
trades AssociatedToken = false
trades Memo = false
trades System = false
trades Other = false
trades Unresolved = false

-- the branch of `swap` for a program, each a definition of its own: names, the accounts as keys, the program, how many accounts, the data
unfoldable pub by_program : List ℕ → (ℕ → Key) → Id → ℕ → List ℕ → Answer Swap
by_program names a Clmm n d = clmm n d
by_program names a Orca n d = orca a n d
by_program names a Cpmm n d = cpmm names n d
by_program names a Dlmm n d = dlmm n d
by_program names a LaunchLab n d = launch_lab names a n d
by_program names a PumpFun n d = pump_fun a n d
by_program names a PumpSwap n d = pump_swap names a n d
by_program names a AmmV4 n d = amm_v4 n d
by_program names a SplToken n d = None
by_program names a Token2022 n d = None
by_program names a WrappedSol n d = None
by_program names a ComputeBudget n d = None
by_program names a AssociatedToken n d = None
by_program names a Memo n d = None
by_program names a System n d = None
by_program names a Other n d = None
by_program names a Unresolved n d = None

-- `swap`: κ gives the key of an index, μ the mint of an account; the bytes are the instruction's data
unfoldable pub swap : List ℕ → (ℕ → Key) → Id → List ℕ → List ℕ → (Key → Option Key) → List Key → Option RouteLeg
swap names κ id accounts bytes μ pools = valued (account κ accounts) μ pools (by_program names (account κ accounts) id (length accounts) bytes)

-- places become the index bytes that stand there: `ix.accounts.get(index)`
abbrev pub indexed_pair : List ℕ → Answer Pair → Answer Pair
indexed_pair accounts o = option_map (λ (p : Pair). record { input = get_or accounts p.input 0; output = get_or accounts p.output 0 }) o

-- so do those of a leg
abbrev pub indexes : List ℕ → Swap → Swap
indexes accounts s =
    record s {
      pool = get_or accounts s.pool 0;
      trader = get_or accounts s.trader 0;
      input = get_or accounts s.input 0;
      output = get_or accounts s.output 0;
      pair = indexed_pair accounts s.pair;
    }

-- of a leg, if there is one
abbrev pub indexed : List ℕ → Answer Swap → Answer Swap
indexed accounts found = option_map (indexes accounts) found

-- a leg in numbers, its accounts as index bytes
abbrev pub leg_in_numbers : List ℕ → (ℕ → Key) → Id → List ℕ → List ℕ → Answer Swap
leg_in_numbers names κ id accounts bytes = indexed accounts (by_program names (account κ accounts) id (length accounts) bytes)
