-- The rows of table 2, and why an instruction gives none.
-- Assumes nothing.
use Rattle.std.specs.Prelude.{ℕ, cond, List, eqb}
use Rattle.std.proofs.Math.Option.{Option}
use Rattle.wire.specs.Tab.{tab}
use Rattle.ids.specs.Keys.{key_of}
use Rattle.pack.specs.Invocation.{Instruction}
use Rattle.pack.specs.Sections.{section_of}
use Rattle.token.specs.Transfers.{Transfer, transfer}
use Rattle.token.specs.Reasons.{reason}
use Rattle.token.specs.Rows.{transfer_row}
use Rattle.evidence.specs.MintTable.{MintRow, mint_in}
use Rattle.route.specs.Arrays.{item_at}
use Rattle.route.specs.Known.{row_if}
use Rattle.route.specs.Program.{program_of}

-- the transfer that an instruction gives; ks is the key section
unfoldable pub transfer_of : List ℕ → Instruction → Option Transfer
transfer_of ks x = transfer (key_of ks) (program_of ks x) x.accounts x.bytes

-- its row, with the source's final mint out of the rows of table 0; i is the number of its invocation
unfoldable pub transfer_rows : List ℕ → List MintRow → ℕ → Instruction → List (List ℕ)
transfer_rows ks table i x = row_if (λ t. transfer_row i (key_of ks x.program) (mint_in table t.source) t) (transfer_of ks x)

-- why an instruction gives no transfer; 0 where it gives one
unfoldable pub reason_in : List ℕ → Instruction → ℕ
reason_in ks x = reason (key_of ks) (program_of ks x) x.accounts x.bytes

-- the same for the first n instructions at the offsets of a pack p
abbrev pub reasons_of : List ℕ → List ℕ → ℕ → List ℕ
reasons_of p at n = tab (λ i. reason_in (section_of p 0) (item_at p at i)) 0 n

-- how many rows of table 2 a reason leaves
unfoldable pub transfer_count : ℕ → ℕ
transfer_count r = cond (eqb r 0) 1 0
