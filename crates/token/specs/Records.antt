-- What an instruction tells of mints, as pairs account and mint; and the plain transfer that it is, as a pair source and destination.
-- Keys that are zero stand among them: whoever notes evidence drops those.
-- Assumes nothing.
use Rattle.std.specs.Prelude.{ℕ, cond, List, [], ◌∷◌, ◌++◌, length}
use Rattle.ids.specs.declared.Id.{Id}
use Rattle.ids.specs.Keys.{Key, account}
use Rattle.token.specs.Tokens.{initialises, plain_transfer, checked_transfer, fee_transfer}

-- source and destination have the mint between them
unfoldable pub both_ends : (ℕ → Key) → List ℕ → List (Key × Key)
both_ends κ accounts = (account κ accounts 0, account κ accounts 1) ∷ (account κ accounts 2, account κ accounts 1) ∷ []

-- the three tests of `token_mints_from_invocations`, in their order
unfoldable pub records : (ℕ → Key) → Id → List ℕ → List ℕ → List (Key × Key)
records κ id accounts d =
    cond (checked_transfer id (length accounts) d) (both_ends κ accounts) []
    ++ cond (fee_transfer id (length accounts) d) (both_ends κ accounts) []
    ++ cond (initialises id (length accounts) d) ((account κ accounts 0, account κ accounts 1) ∷ []) []

-- what a pass looks at: source and destination of a plain transfer, whatever its third account is
unfoldable pub plain : (ℕ → Key) → Id → List ℕ → List ℕ → List (Key × Key)
plain κ id accounts d = cond (plain_transfer id (length accounts) d) ((account κ accounts 0, account κ accounts 1) ∷ []) []
