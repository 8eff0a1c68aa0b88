-- The Rust's `transfer`: which transfer of tokens an instruction gives. Its mint and its place are the row's business, and not told here.
-- Assumes nothing.
use Rattle.std.specs.Prelude.{ℕ, cond, ◌||◌, List, length}
use Rattle.std.proofs.Math.Option.{Option, none, some}
use Rattle.ids.specs.declared.Id.{Id}
use Rattle.ids.specs.Keys.{Key, is_zero, account}
use Rattle.token.specs.Programs.{is_spl}
use Rattle.token.specs.Tokens.{plain_transfer, checked_transfer, fee_transfer, plain_amount, checked_amount, fee_transfer_amount, fee_transfer_fee}

pub record Transfer : Type 0 where
  pub source : Key
  pub destination : Key
  pub amount : ℕ
  pub fee : Option ℕ

-- the fee of a transfer that names none: 0 under SPL Token, not known under Token-2022
unfoldable pub fee_of : Id → Option ℕ
fee_of id = cond (is_spl id) (some 0) none

-- source and destination side by side; a zero one gives no transfer
unfoldable pub plainly : (ℕ → Key) → List ℕ → ℕ → Option ℕ → Option Transfer
plainly κ accounts amount fee =
    cond (is_zero (account κ accounts 0) || is_zero (account κ accounts 1)) none
    (some record { source = account κ accounts 0; destination = account κ accounts 1; amount = amount; fee = fee })

-- the mint between them; a zero one of the three gives no transfer
unfoldable pub checked : (ℕ → Key) → List ℕ → ℕ → Option ℕ → Option Transfer
checked κ accounts amount fee =
    cond (is_zero (account κ accounts 0) || is_zero (account κ accounts 2) || is_zero (account κ accounts 1)) none
    (some record { source = account κ accounts 0; destination = account κ accounts 2; amount = amount; fee = fee })

unfoldable pub transfer : (ℕ → Key) → Id → List ℕ → List ℕ → Option Transfer
transfer κ id accounts d =
    cond (plain_transfer id (length accounts) d) (plainly κ accounts (plain_amount d) (fee_of id))
    (cond (checked_transfer id (length accounts) d) (checked κ accounts (checked_amount d) (fee_of id))
    (cond (fee_transfer id (length accounts) d) (checked κ accounts (fee_transfer_amount d) (some (fee_transfer_fee d)))
    none))
