-- The working table: each row is an account, a mint and a state.
-- Assumes nothing.
use Rattle.std.specs.Prelude.{ℕ, zero, suc, ◌<◌, ◌≢◌, cond, List, [], length, get_or, set}
use Rattle.std.proofs.Math.Option.{Option, none, some}
use Rattle.wire.specs.Same.{same}
use Rattle.ids.specs.Keys.{Key, zero_key}
use Rattle.mints.specs.declared.row.Row.{Row}
use Rattle.mints.specs.declared.row.State.{State}
use Rattle.mints.specs.declared.row.State.TheVariants.{Unknown, Ambiguous, Recorded, FilledIn, Doubted}

-- a row that no key has yet
abbrev pub blank_row : Row
blank_row = record { account = zero_key; mint = zero_key; state = Unknown }

-- what stands for a row past the table's end
abbrev pub no_row : Row
no_row = record { account = []; mint = []; state = Unknown }

-- the account of row r
abbrev pub account_at : List Row → ℕ → Key
account_at t r = (get_or t r no_row).account

-- the mint of row r
abbrev pub mint_at : List Row → ℕ → Key
mint_at t r = (get_or t r no_row).mint

-- a state as a number: 0 no mint, 1 ambiguous, 2 recorded, 3 filled in, 4 filled in and in doubt
unfoldable pub number_of : State → ℕ
number_of Unknown = 0
number_of Ambiguous = 1
number_of Recorded = 2
number_of FilledIn = 3
number_of Doubted = 4

-- the number of row r's state
abbrev pub state_at : List Row → ℕ → ℕ
state_at t r = number_of (get_or t r no_row).state

-- every row number of a list is that of one of n rows
abbrev pub Within : ℕ → List ℕ → Type 0
Within n l = (i : ℕ) → get_or l i 0 < n

-- every row number of a list is that of a row of the table
abbrev pub Fits : List Row → List ℕ → Type 0
Fits t l = Within (length t) l

-- the table with an account in row r
unfoldable pub with_account : List Row → ℕ → Key → List Row
with_account t r k = set t r (record { account = k; mint = mint_at t r; state = (get_or t r no_row).state })

-- the table with a mint and a state in row r
unfoldable pub with_mint : List Row → ℕ → Key → State → List Row
with_mint t r m s = set t r (record { account = account_at t r; mint = m; state = s })

-- the table with a state in row r
unfoldable pub with_state : List Row → ℕ → State → List Row
with_state t r s = set t r (record { account = account_at t r; mint = mint_at t r; state = s })

-- what a state and a mint say of an account; the zero key tells an ambiguous one
unfoldable pub state_says : ℕ → Key → Option Key
state_says zero m = none
state_says (suc zero) m = some zero_key
state_says (suc (suc s)) m = some m

-- the first of the f rows from i on whose account is k, and i + f where there is none
unfoldable pub first_row_from : List Row → Key → ℕ → ℕ → ℕ
first_row_from t k zero i = i
first_row_from t k (suc f) i = let rest = first_row_from t k f (suc i) in cond (same (account_at t i) k) i rest

-- an array has something other than 0 at the last byte of each of the first n rows' accounts
abbrev pub LastBytesSeen : List Row → ℕ → List ℕ → Type 0
LastBytesSeen t n ends = (r : ℕ) → r < n → get_or ends (get_or (account_at t r) 31 0) 0 ≢ 0

-- the first of n rows whose account is k, and n where there is none
abbrev pub first_row : List Row → Key → ℕ → ℕ
first_row t k n = first_row_from t k n 0
