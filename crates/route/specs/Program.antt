-- What an invocation's program tells of it.
-- Assumes nothing.
use Rattle.std.specs.Prelude.{ℕ, ◌+◌, ◌<◌, ◌≡◌, Bool, true, false, cond, List, get_or}
use Rattle.ids.specs.declared.Id.{Id}
use Rattle.ids.specs.declared.Id.TheVariants.{SplToken, Token2022, WrappedSol, ComputeBudget, AssociatedToken, Memo, PumpFun, LaunchLab, PumpSwap, Clmm, Cpmm, AmmV4, Orca, Dlmm, System, Other, Unresolved}
use Rattle.ids.specs.Which.{program_at}
use Rattle.pack.specs.Invocation.{Instruction}

-- the program of an instruction; ks is the key section
abbrev pub program_of : List ℕ → Instruction → Id
program_of ks x = program_at ks x.program

-- an array holds each program of the first n instructions x
abbrev pub Programs : List ℕ → (ℕ → Instruction) → ℕ → List Id → Type 0
Programs ks x n programs = (i : ℕ) → i < n → get_or programs i SplToken ≡ program_of ks (x i)

-- the Rust's `skip_route`: the token programs, System, Compute Budget, Associated Token and Memo
abbrev pub skips : Id → Bool
skips SplToken = true
skips Token2022 = true
skips WrappedSol = false
skips ComputeBudget = true
skips AssociatedToken = true
skips Memo = true
skips PumpFun = false
skips LaunchLab = false
skips PumpSwap = false
skips Clmm = false
skips Cpmm = false
skips AmmV4 = false
skips Orca = false
skips Dlmm = false
skips System = true
skips Other = false
skips Unresolved = false

-- the Rust's `program_resolved`
abbrev pub resolved : Id → Bool
resolved SplToken = true
resolved Token2022 = true
resolved WrappedSol = true
resolved ComputeBudget = true
resolved AssociatedToken = true
resolved Memo = true
resolved PumpFun = true
resolved LaunchLab = true
resolved PumpSwap = true
resolved Clmm = true
resolved Cpmm = true
resolved AmmV4 = true
resolved Orca = true
resolved Dlmm = true
resolved System = true
resolved Other = true
resolved Unresolved = false

-- bits 4 and 8 of its row of table 1
unfoldable pub program_bits : Id → ℕ
program_bits id = cond (skips id) 4 0 + cond (resolved id) 8 0
