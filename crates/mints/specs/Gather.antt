-- The invocations' evidence into the working table, and their plain transfers as row numbers.
-- Assumes nothing.
use Rattle.std.specs.Prelude.{ℕ, zero, suc, Bool, true, false, cond, List, ltb, length, get_or, set, Option, Some, None}
use Rattle.ids.specs.Keys.{Key, key_of, account}
use Rattle.ids.specs.Which.{program_at}
use Rattle.pack.specs.Invocation.{instruction_at}
use Rattle.token.specs.Tokens.{token_of}
use Rattle.token.specs.declared.Token.{Token}
use Rattle.token.specs.declared.Token.TheVariants.{Initialise, Plain, Checked, WithFee}
use Rattle.mints.specs.Note.{Noted, note_at}
use Rattle.mints.specs.declared.pass.Transfer.{Transfer}
use Rattle.mints.specs.declared.row.Row.{Row}

-- the row of an instruction's account i: row 0, the zero key's, where there is none
unfoldable pub row_of_account : List ℕ → List ℕ → ℕ → ℕ
row_of_account row accounts i = cond (ltb i (length accounts)) (get_or row (get_or accounts i 0) 0) 0

-- the mint that account 1 names, for account i
unfoldable pub note_account : (ℕ → Key) → List ℕ → List ℕ → Noted → ℕ → Noted
note_account κ row accounts x i = note_at x (row_of_account row accounts i) (account κ accounts 1)

-- what a token instruction records
unfoldable pub observed : (ℕ → Key) → List ℕ → Token → List ℕ → Noted → Noted
observed κ row Initialise accounts x = note_account κ row accounts x 0
observed κ row (Plain n) accounts x = x
observed κ row (Checked n) accounts x = note_account κ row accounts (note_account κ row accounts x 0) 2
observed κ row (WithFee n f) accounts x = note_account κ row accounts (note_account κ row accounts x 0) 2

unfoldable pub is_plain : Token → Bool
is_plain Initialise = false
is_plain (Plain n) = true
is_plain (Checked n) = false
is_plain (WithFee n f) = false

-- the token instruction at an offset of the pack, if it is one
unfoldable pub token_at : List ℕ → List ℕ → ℕ → Option Token
token_at ks p o = token_of (program_at ks (instruction_at p o).program) (length (instruction_at p o).accounts) (instruction_at p o).bytes

-- what is left when instructions are read
pub record Gathered : Type 0 where
  -- the table with their evidence, and the accounts recorded
  pub noted : Noted
  -- the plain transfers, and what an array has behind them
  pub transfers : List Transfer
  -- how many plain transfers there are
  pub count : ℕ

-- a plain transfer as the rows of its source and destination
unfoldable pub transfer_of : List ℕ → List ℕ → Transfer
transfer_of row accounts = record { from = row_of_account row accounts 0; to = row_of_account row accounts 1 }

-- one instruction more
unfoldable pub gather_at : (ℕ → Key) → List ℕ → Option Token → List ℕ → Gathered → Gathered
gather_at κ row None accounts g = g
gather_at κ row (Some token) accounts g =
    record {
      noted = observed κ row token accounts g.noted;
      transfers = cond (is_plain token) (set g.transfers g.count (transfer_of row accounts)) g.transfers;
      count = cond (is_plain token) (suc g.count) g.count;
    }

-- the first i of the instructions at the offsets
unfoldable pub gather_to : List ℕ → List ℕ → List ℕ → List ℕ → Gathered → ℕ → Gathered
gather_to ks p offsets row g zero = g
gather_to ks p offsets row g (suc i) =
    gather_at (key_of ks) row (token_at ks p (get_or offsets i 0)) (instruction_at p (get_or offsets i 0)).accounts (gather_to ks p offsets row g i)

-- all instructions, when nothing is counted yet: t is the table, ts is to hold the transfers
abbrev pub gather_all : List ℕ → List ℕ → List ℕ → List ℕ → List Row → List Transfer → Gathered
gather_all ks p offsets row t ts =
    gather_to ks p offsets row (record { noted = record { table = t; room = 0 }; transfers = ts; count = 0 }) (length offsets)
