-- The rows of table 3.
-- Assumes nothing.
use Rattle.std.specs.Prelude.{ℕ, cond, List}
use Rattle.std.proofs.Math.Option.{Option, none}
use Rattle.ids.specs.Keys.{Key, key_of}
use Rattle.pack.specs.Invocation.{Instruction}
use Rattle.pack.specs.Sections.{section_of}
use Rattle.swaps.specs.Leg.{RouteLeg}
use Rattle.swaps.specs.Swap.{swap}
use Rattle.pack.specs.View.{pools_in}
use Rattle.swaps.specs.Row.{leg_row}
use Rattle.evidence.specs.MintTable.{MintRow, mint_in}
use Rattle.route.specs.Known.{row_if}
use Rattle.route.specs.Program.{program_of, skips}

-- the leg that an instruction is, by the final mints of table 0's rows; none is looked for where a route passes over the program
unfoldable pub leg_of : List ℕ → List ℕ → List Key → List MintRow → Instruction → Option RouteLeg
leg_of names ks pools table x =
    cond (skips (program_of ks x)) none (swap names (key_of ks) (program_of ks x) x.accounts x.bytes (mint_in table) pools)

-- its row; i is the number of its invocation
unfoldable pub leg_rows : List ℕ → List ℕ → List Key → List MintRow → ℕ → Instruction → List (List ℕ)
leg_rows names ks pools table i x = row_if (leg_row i (key_of ks x.program)) (leg_of names ks pools table x)

-- the same by a pack's keys and pools
abbrev pub leg_rows_in : List ℕ → List ℕ → List MintRow → ℕ → Instruction → List (List ℕ)
leg_rows_in names p = leg_rows names (section_of p 0) (pools_in (section_of p 4))
