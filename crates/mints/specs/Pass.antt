-- Plain transfers over the working table.
-- Assumes nothing.
use Rattle.std.specs.Prelude.{ℕ, zero, suc, ◌+◌, ◌<◌, cond, List, eqb, ltb, length, get_or}
use Rattle.std.proofs.Math.Option.{Option, none, some}
use Rattle.mints.specs.declared.row.Row.{Row}
use Rattle.mints.specs.declared.row.State.TheVariants.{FilledIn}
use Rattle.mints.specs.Cells.{mint_at, state_at, with_mint}
use Rattle.mints.specs.Note.{Noted}
use Rattle.mints.specs.declared.pass.Transfer.{Transfer}

-- a transfer from row 0 to itself, which hands nothing on
abbrev pub no_transfer : Transfer
no_transfer = record { from = 0; to = 0 }

-- the rows of transfer i's source and destination
abbrev pub from_at : List Transfer → ℕ → ℕ
from_at ts i = (get_or ts i no_transfer).from

abbrev pub to_at : List Transfer → ℕ → ℕ
to_at ts i = (get_or ts i no_transfer).to

-- every row number of a list of transfers is that of one of n rows
abbrev pub EndsWithin : ℕ → List Transfer → Type 0
EndsWithin n ts = (i : ℕ) → (from_at ts i < n) × (to_at ts i < n)

-- the mint of row a in row b, which is then filled in
abbrev pub hand_at : List Row → ℕ → ℕ → List Row
hand_at t a b = with_mint t b (mint_at t a) FilledIn

-- one transfer between two rows: where one has a mint and the other has none, it is handed on
unfoldable pub step_at : List Row → ℕ → ℕ → List Row
step_at t a b = cond (eqb (state_at t a) 0) (cond (ltb 1 (state_at t b)) (hand_at t b a) t) (cond (eqb (state_at t b) 0) (cond (ltb 1 (state_at t a)) (hand_at t a b) t) t)

-- how many accounts it fills in
unfoldable pub filled_at : List Row → ℕ → ℕ → ℕ
filled_at t a b = cond (eqb (state_at t a) 0) (cond (ltb 1 (state_at t b)) 1 0) (cond (eqb (state_at t b) 0) (cond (ltb 1 (state_at t a)) 1 0) 0)

-- the first i transfers; room counts the accounts filled in
unfoldable pub pass_to : List Transfer → List Row → ℕ → Noted
pass_to ts t zero = record { table = t; room = 0 }
pass_to ts t (suc i) =
    let x = pass_to ts t i in
    record { table = step_at x.table (from_at ts i) (to_at ts i); room = x.room + filled_at x.table (from_at ts i) (to_at ts i) }

-- what is left when the passes are over
pub record Ran : Type 0 where
  -- the table
  pub table : List Row
  -- the accounts that need room: those recorded, and those filled in
  pub room : ℕ
  -- the passes, none where 512 are too few
  pub passes : Option ℕ

-- at most k passes over the transfers, after p
unfoldable pub passes_from : List Transfer → ℕ → List Row → ℕ → ℕ → Ran
passes_from ts zero t room p = record { table = t; room = room; passes = none }
passes_from ts (suc k) t room p =
    let x = pass_to ts t (length ts) in
    let rest = passes_from ts k x.table (room + x.room) (p + 1) in
    cond (eqb x.room 0) (record { table = x.table; room = room; passes = some (p + 1) }) rest

-- passes until one adds nothing, none where nothing is recorded
unfoldable pub passes : List Transfer → List Row → ℕ → Ran
passes ts t room = cond (eqb room 0) (record { table = t; room = 0; passes = some 0 }) (passes_from ts 512 t room 0)
