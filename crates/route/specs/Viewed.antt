-- What the tables look up in the bytes of section 0, said of the pack's View: the original's functions are given the View's keys.
-- Assumes nothing.
use Rattle.std.specs.Prelude.{ℕ, ◌≡◌, cond, List, length}
use Rattle.std.proofs.Math.Option.{none}
use Rattle.ids.specs.Keys.{Key, key_of}
use Rattle.ids.specs.Which.{program_at}
use Rattle.ids.specs.declared.Id.{Id}
use Rattle.pack.specs.Invocation.{Instruction}
use Rattle.pack.specs.Sections.{section_of}
use Rattle.pack.specs.View.{view_of, key_in, program_in}
use Rattle.token.specs.Transfers.{transfer}
use Rattle.token.specs.Reasons.{reason}
use Rattle.natives.specs.Natives.{native_action}
use Rattle.swaps.specs.Swap.{swap}
use Rattle.evidence.specs.MintTable.{MintRow, mint_in}
use Rattle.mints.specs.Inference.{inferred}
use Rattle.route.specs.Program.{skips}
use Rattle.route.specs.Transfers.{transfer_of, reason_in}
use Rattle.route.specs.Legs.{leg_of}
use Rattle.route.specs.Actions.{action_of}
use Rattle.route.specs.Order.{instructions_in, mints_in}

-- the key and the program of an index, in a pack's View
abbrev pub key_by : List ℕ → ℕ → Key
key_by p = key_in (view_of p).keys

abbrev pub program_by : List ℕ → ℕ → Id
program_by p = program_in (view_of p).keys

-- the mint table; then transfer, reason, leg and action of an instruction, and the key of its program; table is the rows of table 0
pub record ReadsView (names p : List ℕ) : Type 0 where
  pub mints : mints_in p ≡ inferred (key_by p) (program_by p) (view_of p).balances (instructions_in p)
  pub transfers : (x : Instruction) → transfer_of (section_of p 0) x ≡ transfer (key_by p) (program_by p x.program) x.accounts x.bytes
  pub reasons : (x : Instruction) → reason_in (section_of p 0) x ≡ reason (key_by p) (program_by p x.program) x.accounts x.bytes
  pub legs : (table : List MintRow) (x : Instruction)
      → leg_of names (section_of p 0) (view_of p).pools table x
      ≡ cond (skips (program_by p x.program)) none
      (swap names (key_by p) (program_by p x.program) x.accounts x.bytes (mint_in table) (view_of p).pools)
  pub natives : (table : List MintRow) (x : Instruction)
      → action_of (section_of p 0) table x
      ≡ native_action (key_by p) (length (view_of p).keys) (program_by p x.program) x.accounts x.bytes (mint_in table)
  pub keys : (i : ℕ) → key_of (section_of p 0) i ≡ key_by p i
  pub programs : (i : ℕ) → program_at (section_of p 0) i ≡ program_by p i
