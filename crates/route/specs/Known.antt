-- Rows of tables 2 to 4 where the final mint of each key is at hand as bytes.
-- Assumes nothing.
use Rattle.std.specs.Prelude.{ℕ, suc, ◌*◌, ◌≤◌, ◌<◌, Bool, true, false, List, [], ◌∷◌, ◌≡◌, length, take, drop}
use Rattle.std.proofs.Math.Option.{Option, none, some}
use Rattle.std.proofs.lemmas.List.Edits.{sets}
use Rattle.ids.specs.Keys.{Key, key_of}
use Rattle.ids.specs.Mints.{mint_of}
use Rattle.pack.specs.Invocation.{Instruction, instruction_at}
use Rattle.pack.specs.Sections.{section_of}
use Rattle.evidence.specs.MintTable.{MintRow, mint_in}
use Rattle.wire.specs.Tab.{tab}
use Rattle.route.specs.declared.candidate.Candidate.{Candidate}
use Rattle.route.specs.Arrays.{item_at}
use Rattle.route.specs.Lay.{rows_of, placed}

-- whether there is a value
abbrev pub present : {A : Type 0} → Option A → Bool
present none = false
present (some x) = true

-- the row of a value, if there is one
abbrev pub row_if : {A : Type 0} → (A → List ℕ) → Option A → List (List ℕ)
row_if f none = []
row_if f (some x) = f x ∷ []

-- the mint that an array of 32-byte rows, one for each key index, holds for an index
abbrev pub known_mint : List ℕ → ℕ → Key
known_mint ms i = take 32 (drop (i * 32) ms)

-- such an array holds the final mint of each key, and zeros for those that have none: table is the rows of table 0
abbrev pub Holds : List ℕ → List ℕ → List MintRow → Type 0
Holds ms ks table = (i : ℕ) → i < 256 → mint_of (known_mint ms i) ≡ mint_in table (key_of ks i)

-- what is promised of the r rows of w bytes that are written for a candidate, in a pack p with keys ks: those that f makes of the final mints, as rows of a
-- table from the candidate's row on
pub record Puts (ms ks p : List ℕ) (f : List MintRow → ℕ → Instruction → List (List ℕ)) (w : ℕ) (x : Candidate) (r : ℕ) (before after : List ℕ) : Type 0 where
  -- one row, or none
  pub few : r ≤ 1
  -- as many as f makes
  pub counted : (table : List MintRow) → Holds ms ks table → r ≡ length (f table x.number (instruction_at p x.at))
  -- they stand in the table
  pub rows : (table : List MintRow) → Holds ms ks table → after ≡ placed w x.row (f table x.number (instruction_at p x.at)) before

-- and of the c rows of the first n instructions at the offsets of a pack p
pub record Fills (ms p at : List ℕ) (f : List MintRow → ℕ → Instruction → List (List ℕ)) (w n c : ℕ) (before after : List ℕ) : Type 0 where
  -- at most one row for each
  pub few : c ≤ n
  -- as many as f makes of them all
  pub counted : (table : List MintRow) → Holds ms (section_of p 0) table → c ≡ length (rows_of (f table) 0 (tab (item_at p at) 0 n))
  -- they stand in the table, one after the other
  pub rows : (table : List MintRow) → Holds ms (section_of p 0) table → after ≡ placed w 0 (rows_of (f table) 0 (tab (item_at p at) 0 n)) before

-- the number of invocation i's row among those that f makes of the instructions x: 0 where it has none, else 1 plus the rows before it
unfoldable pub row_number_at : (ℕ → Instruction → List (List ℕ)) → (ℕ → Instruction) → ℕ → ℕ
row_number_at f x i = length (f i (x i)) * suc (length (rows_of f 0 (tab x 0 i)))

-- an array then holds the number of each instruction's row
pub record Numbers (ms p at : List ℕ) (f : List MintRow → ℕ → Instruction → List (List ℕ)) (n : ℕ) (before after : List ℕ) : Type 0 where
  pub each : (table : List MintRow) → Holds ms (section_of p 0) table → after ≡ sets before 0 (tab (row_number_at (f table) (item_at p at)) 0 n)
