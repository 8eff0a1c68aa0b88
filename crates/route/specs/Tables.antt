-- The five tables of a transaction, as rows of bytes: the Rust's `invocation_analysis`, with what is added to it.
-- Assumes nothing.
use Rattle.std.specs.Prelude.{ℕ, suc, ◌+◌, cond, List, [], map, length, get_or, take}
use Rattle.std.proofs.Math.Option.{Option, none, some}
use Rattle.ids.specs.Keys.{Key, key_of}
use Rattle.ids.specs.Which.{program_at}
use Rattle.pack.specs.Invocation.{Instruction, Position, Invocation}
use Rattle.evidence.specs.MintTable.{MintRow, MintAnswer}
use Rattle.mints.specs.Bytes.{mint_row}
use Rattle.mints.specs.Inference.{inferred}
use Rattle.wire.specs.Tab.{tab}
use Rattle.subtrees.specs.Subtrees.{position_in, bits, end_of, inside_of, parent_of, tests_of}
use Rattle.route.specs.Known.{present}
use Rattle.route.specs.Lay.{rows_of}
use Rattle.route.specs.Program.{program_of, program_bits}
use Rattle.route.specs.Row.{invocation_row}
use Rattle.route.specs.Transfers.{transfer_of, transfer_rows, reason_in}
use Rattle.route.specs.Legs.{leg_of, leg_rows}
use Rattle.route.specs.Actions.{action_rows}

-- everything that is found in a transaction
pub record Tables : Type 0 where
  pub mints : List (List ℕ)
  pub room : ℕ
  pub invocations : List (List ℕ)
  pub transfers : List (List ℕ)
  pub legs : List (List ℕ)
  pub natives : List (List ℕ)
  pub passes : ℕ
  pub tests : ℕ

-- instruction i of a list; past its end nothing is asked of it
unfoldable pub item : List Instruction → ℕ → Instruction
item xs i = get_or xs i (record { program = 0; accounts = []; bytes = [] })

-- names, the key section, the pools; and the rows of table 0, for the final mints
module _ (names ks : List ℕ) (pools : List Key) (table : List MintRow) where
  -- what an instruction has itself, for those around it: 1 a transfer, 2 a leg
  unfoldable pub own_of : Instruction → ℕ
  own_of x = bits (present (transfer_of ks x)) (present (leg_of names ks pools table x))

  -- bits 4 to 32 of its row of table 1: passed over, resolved, a leg of its own, a transfer of its own
  unfoldable pub flags_of : Instruction → ℕ
  flags_of x = program_bits (program_of ks x) + (cond (present (leg_of names ks pools table x)) 16 0 + cond (present (transfer_of ks x)) 32 0)

  -- the number of invocation i's leg among the instructions xs: 0 where it has none, else 1 plus its row in table 3
  unfoldable pub leg_number : List Instruction → ℕ → ℕ
  leg_number xs i = cond (present (leg_of names ks pools table (item xs i))) (suc (length (rows_of (leg_rows names ks pools table) 0 (take i xs)))) 0

  -- row i of table 1: ps are the positions of the instructions xs
  unfoldable pub invocation_at : List Position → List Instruction → ℕ → List ℕ
  invocation_at ps xs i = invocation_row (position_in ps i) (end_of ps i) (inside_of ps (map own_of xs) i + flags_of (item xs i)) (leg_number xs i) (parent_of ps i) (reason_in ks (item xs i))

-- all tables, once the mints are known
unfoldable pub tables_with : List ℕ → List ℕ → List Key → List Position → List Instruction → MintAnswer → Tables
tables_with names ks pools ps xs a =
    record {
      mints = map mint_row a.rows;
      room = a.room;
      invocations = tab (invocation_at names ks pools a.rows ps xs) 0 (length xs);
      transfers = rows_of (transfer_rows ks a.rows) 0 xs;
      legs = rows_of (leg_rows names ks pools a.rows) 0 xs;
      natives = rows_of (action_rows ks a.rows) 0 xs;
      passes = a.passes;
      tests = tests_of ps;
    }

unfoldable pub tables_if : List ℕ → List ℕ → List Key → List Position → List Instruction → Option MintAnswer → Option Tables
tables_if names ks pools ps xs none = none
tables_if names ks pools ps xs (some a) = some (tables_with names ks pools ps xs a)

-- the positions and the instructions of invocations
abbrev pub positions_of : List Invocation → List Position
positions_of vs = map (λ v. v.position) vs

abbrev pub instructions_of : List Invocation → List Instruction
instructions_of vs = map (λ v. v.instruction) vs

-- the tables of a transaction, by keys, balances, invocations and pools: none where 512 passes do not suffice
unfoldable pub tables : List ℕ → List ℕ → List (ℕ × Key) → List Invocation → List Key → Option Tables
tables names ks balances vs pools = tables_if names ks pools (positions_of vs) (instructions_of vs) (inferred (key_of ks) (program_at ks) balances (instructions_of vs))
