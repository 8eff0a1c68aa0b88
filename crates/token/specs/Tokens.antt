-- What the Rust accepts as a token instruction: by program, number n of accounts, and data d. Data of no bytes has first byte 0, which is no tag.
-- Assumes nothing.
use Rattle.std.specs.Prelude.{ℕ, Bool, cond, ◌&&◌, ◌||◌, List, leb, eqb, length, get_or, Option, Some, None}
use Rattle.wire.specs.Le.{le}
use Rattle.ids.specs.declared.Id.{Id}
use Rattle.token.specs.Programs.{is_token, is_token2022}
use Rattle.token.specs.declared.Token.{Token}
use Rattle.token.specs.declared.Token.TheVariants.{Initialise, Plain, Checked, WithFee}

-- the third test of `token_mints_from_invocations`: exactly [1], or 33 bytes of tag 16 or 18
unfoldable pub initialises : Id → ℕ → List ℕ → Bool
initialises id n d =
    is_token id && (eqb (get_or d 0 0) 1 && eqb (length d) 1 || (eqb (get_or d 0 0) 16 || eqb (get_or d 0 0) 18) && eqb (length d) 33) && leb 2 n

-- the test that a pass makes in `token_mints_from_invocations`, and the first arm of `transfer`
unfoldable pub plain_transfer : Id → ℕ → List ℕ → Bool
plain_transfer id n d = is_token id && eqb (get_or d 0 0) 3 && leb 9 (length d) && leb 3 n

-- the Rust's `checked_transfer`
unfoldable pub checked_transfer : Id → ℕ → List ℕ → Bool
checked_transfer id n d = is_token id && eqb (get_or d 0 0) 12 && leb 10 (length d) && leb 4 n

-- the Rust's `checked_transfer_with_fee`
unfoldable pub fee_transfer : Id → ℕ → List ℕ → Bool
fee_transfer id n d = is_token2022 id && (eqb (get_or d 0 0) 26 && eqb (get_or d 1 0) 1) && leb 19 (length d) && leb 4 n

-- the numbers that they name: the amount of each, and the fee
abbrev pub plain_amount : List ℕ → ℕ
plain_amount d = le 8 d 1

abbrev pub checked_amount : List ℕ → ℕ
checked_amount d = le 8 d 1

abbrev pub fee_transfer_amount : List ℕ → ℕ
fee_transfer_amount d = le 8 d 2

abbrev pub fee_transfer_fee : List ℕ → ℕ
fee_transfer_fee d = le 8 d 11

-- which of these an instruction is, with the numbers that it names; no two of them share a tag
unfoldable pub token_of : Id → ℕ → List ℕ → Option Token
token_of id n d =
    cond (initialises id n d) (Some Initialise)
    (cond (plain_transfer id n d) (Some (Plain (plain_amount d)))
    (cond (checked_transfer id n d) (Some (Checked (checked_amount d)))
    (cond (fee_transfer id n d) (Some (WithFee (fee_transfer_amount d) (fee_transfer_fee d)))
    None)))
