-- What it is to speak of two packs with the same evidence, of the rows that stand in table 0's bytes, and of accounts that are filled in.
-- Assumes nothing.
use Rattle.std.specs.Prelude.{ℕ, ◌≡◌, ◌≢◌, ◌⊎◌, ◌↔◌, get_or, take, drop}
use mathlib.Core.List.{List, map, Memᴰ, Permᴰ}
use Rattle.std.proofs.Math.Option.{Option}
use Rattle.ids.specs.Keys.{Key, key_of}
use Rattle.ids.specs.Which.{program_at}
use Rattle.pack.specs.Invocation.{Instruction}
use Rattle.pack.specs.Sections.{section_of}
use Rattle.pack.specs.Items.{rows}
use Rattle.pack.specs.View.{view_of}
use Rattle.pack.specs.Flatten.{flatten}
use Rattle.evidence.specs.Evidence.{Evidence}
use Rattle.evidence.specs.Passes.{Transfers}
use Rattle.evidence.specs.Chains.{Chain}
use Rattle.evidence.specs.MintTable.{MintRow, MintAnswer}
use Rattle.mints.specs.Inference.{evidence_of, transfers_of, inferred}
use Rattle.route.specs.Widths.{mint_width}
use Rattle.route.specs.Tables.{instructions_of}
use Rattle.route.specs.declared.Answer.{Answer}
use Rattle.route.specs.Route.{Routed}
use Rattle.route.specs.Refusals.{refusal_numbers}

-- the kept invocations of a pack without their positions: program index, accounts, data
abbrev pub instructions_in : List ℕ → List Instruction
instructions_in p = instructions_of (flatten (view_of p))

-- all that a pack says of mints
abbrev pub evidence_in : List ℕ → Evidence
evidence_in p = evidence_of (key_of (section_of p 0)) (program_at (section_of p 0)) (view_of p).balances (instructions_in p)

-- its plain transfers
abbrev pub plains_in : List ℕ → Transfers
plains_in p = transfers_of (key_of (section_of p 0)) (program_at (section_of p 0)) (instructions_in p)

-- its mint table
abbrev pub mints_in : List ℕ → Option MintAnswer
mints_in p = inferred (key_of (section_of p 0)) (program_at (section_of p 0)) (view_of p).balances (instructions_in p)

-- equal keys, flags included; the same balance rows and the same kept invocations, in any order
pub record SameEvidence (p q : List ℕ) : Type 0 where
  pub keys : section_of p 0 ≡ section_of q 0
  pub balances : Permᴰ (view_of p).balances (view_of q).balances
  pub invocations : Permᴰ (instructions_in p) (instructions_in q)

-- a row of table 0 as its bytes are read: account, mint, mark
abbrev pub mint_read : List ℕ → MintRow
mint_read r = (take 32 r, take 32 (drop 32 r), get_or r 64 0)

-- the first n rows of table 0's bytes
abbrev pub mints_read : ℕ → List ℕ → List MintRow
mints_read n t = map mint_read (rows mint_width n t)

-- the rows that a call leaves in table 0
abbrev pub mints_left : Routed → List MintRow
mints_left r = mints_read r.answer.mints r.mints

-- a call that is not refused
abbrev pub Succeeds : Routed → Type 0
Succeeds r = r.answer.number ≡ 0

-- names and pack are taken: the call meets none of the refusals but 8, and only room may be wanting
abbrev pub InputTaken : Answer → Type 0
InputTaken r = (k : ℕ) → Memᴰ k refusal_numbers → k ≢ 8 → r.number ≢ k

-- an answer that is this refusal
abbrev pub RefusedWith : Answer → ℕ → ℕ → Type 0
RefusedWith r number place = (r.number ≡ number) × (r.place ≡ place)

-- refused for want of room in table 0
abbrev pub NoRoom : Answer → Type 0
NoRoom r = RefusedWith r 8 0

-- account a is filled in with mint m: it has that row, and the row's mark is 1 or 2
pub record FilledWith (left : List MintRow) (a m : Key) : Type 0 where
  pub mark : ℕ
  pub marked : (mark ≡ 1) ⊎ (mark ≡ 2)
  pub row : Memᴰ (a, m, mark) left

-- account a is filled in exactly when a chain of pack p reaches it; and every row that it has holds the mint at the start of one
pub record FilledByChains (p : List ℕ) (left : List MintRow) (a : Key) : Type 0 where
  pub exactly : ((m : Key) × FilledWith left a m) ↔ ((m : Key) × Chain (evidence_in p) (plains_in p) m a)
  pub start : {m : Key} {n : ℕ} → Memᴰ (a, m, n) left → Chain (evidence_in p) (plains_in p) m a
