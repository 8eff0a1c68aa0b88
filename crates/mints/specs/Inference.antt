-- The mint table of balance rows and instructions: κ gives the key of an index, ι the program.
-- Assumes nothing.
use Rattle.std.specs.Prelude.{ℕ, List, [], ◌∷◌, ◌++◌, map, length, take, Result, Ok, Err}
use Rattle.std.proofs.Math.Option.{Option, none, some}
use Rattle.ids.specs.declared.Id.{Id}
use Rattle.ids.specs.Keys.{Key, key_of, key_count}
use Rattle.ids.specs.Which.{program_at}
use Rattle.pack.specs.Invocation.{Instruction, instruction_at}
use Rattle.pack.specs.View.{balances_in}
use Rattle.token.specs.Records.{records, plain}
use Rattle.evidence.specs.Table.{Row}
use Rattle.evidence.specs.Evidence.{Evidence}
use Rattle.evidence.specs.Passes.{Transfers}
use Rattle.evidence.specs.Gather.{gather}
use Rattle.evidence.specs.MintTable.{MintAnswer, mints}
use Rattle.mints.specs.Bytes.{table_bytes, mints_of}
use Rattle.mints.specs.declared.Made.{Made}
use Rattle.mints.specs.declared.TooManyPasses.{TooManyPasses}

-- what a balance row says
unfoldable pub balance_says : (ℕ → Key) → (ℕ × Key) → List Row
balance_says κ b = (κ b.0, b.1) ∷ []

-- what an instruction records
unfoldable pub says : (ℕ → Key) → (ℕ → Id) → Instruction → List Row
says κ ι i = records κ (ι i.program) i.accounts i.bytes

-- the plain transfer that an instruction is, if it is one
unfoldable pub moves : (ℕ → Key) → (ℕ → Id) → Instruction → List Row
moves κ ι i = plain κ (ι i.program) i.accounts i.bytes

-- balance rows first, then the instructions in their order
unfoldable pub evidence_of : (ℕ → Key) → (ℕ → Id) → List (ℕ × Key) → List Instruction → Evidence
evidence_of κ ι bs is = gather (balance_says κ) bs ++ gather (says κ ι) is

unfoldable pub transfers_of : (ℕ → Key) → (ℕ → Id) → List Instruction → Transfers
transfers_of κ ι is = gather (moves κ ι) is

-- the Rust's `token_mints_from_invocations`, with at most 512 passes
unfoldable pub inferred : (ℕ → Key) → (ℕ → Id) → List (ℕ × Key) → List Instruction → Option MintAnswer
inferred κ ι bs is = mints 512 (evidence_of κ ι bs is) (transfers_of κ ι is)

-- the same, of a key section, a balance section, and a pack with the offsets of its instructions
abbrev pub inferred_in : List ℕ → List ℕ → List ℕ → List ℕ → Option MintAnswer
inferred_in ks b p offsets = inferred (key_of ks) (program_at ks) (balances_in b) (map (instruction_at p) offsets)

-- the same of the first 256 rows of the key section and the first 1,024 offsets: no pack that is read has more
abbrev pub inferred_of : List ℕ → List ℕ → List ℕ → List ℕ → Option MintAnswer
inferred_of ks b p offsets = inferred_in (take 8448 ks) b p (take 1024 offsets)

-- what is answered: the room that table 0 needs, its rows, and the passes
unfoldable pub answer_of : Option MintAnswer → Result Made TooManyPasses
answer_of none = Err (record {})
answer_of (some x) = Ok (record { room = x.room; rows = length x.rows; passes = x.passes })

-- the bytes of table 0
unfoldable pub mint_bytes : Option MintAnswer → List ℕ
mint_bytes none = []
mint_bytes (some x) = table_bytes x.rows

-- the final mints of the first n key indexes
unfoldable pub final_of : Option MintAnswer → (ℕ → Key) → ℕ → List ℕ
final_of none κ n = []
final_of (some x) κ n = mints_of x.rows κ n

-- those of the first 256 rows of a key section
abbrev pub final_for : List ℕ → Option MintAnswer → List ℕ
final_for ks x = final_of x (key_of (take 8448 ks)) (key_count (take 8448 ks))
