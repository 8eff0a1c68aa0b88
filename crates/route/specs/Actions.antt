-- The rows of table 4.
-- Assumes nothing.
use Rattle.std.specs.Prelude.{ℕ, List}
use Rattle.std.proofs.Math.Option.{Option}
use Rattle.ids.specs.Keys.{key_of, key_count}
use Rattle.pack.specs.Invocation.{Instruction}
use Rattle.natives.specs.Natives.{NativeAction, native_action}
use Rattle.natives.specs.Rows.{action_row_by}
use Rattle.evidence.specs.MintTable.{MintRow, mint_in}
use Rattle.route.specs.Known.{row_if}
use Rattle.route.specs.Program.{program_of}

-- the action that an instruction is, by the final mints of table 0's rows; ks is the key section
unfoldable pub action_of : List ℕ → List MintRow → Instruction → Option NativeAction
action_of ks table x = native_action (key_of ks) (key_count ks) (program_of ks x) x.accounts x.bytes (mint_in table)

-- its row; i is the number of its invocation
unfoldable pub action_rows : List ℕ → List MintRow → ℕ → Instruction → List (List ℕ)
action_rows ks table i x = row_if (λ a. action_row_by i a.held a.action) (action_of ks table x)
