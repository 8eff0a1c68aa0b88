-- A transfer as a row of a fed table tells it, and the lines that it touches. Assumes nothing.
use Rattle.std.specs.Prelude.{◌≡◌, ℕ, ◌-◌, ◌^◌, ◌<◌, Bool, false, cond, ◌⊎◌, List, [], ◌∷◌, ◌++◌, length, nat_le, slice_index}
use Rattle.std.proofs.Math.Option.{Option, none, some}
use mathlib.Core.List.{Memᴰ}
use Rattle.wire.specs.Zeros.{zeros}
use Rattle.ids.specs.Keys.{Key}

-- mint: 33 bytes, a flag and a key, all zero where the flag is 0
pub record FedTransfer : Type 0 where
  pub mint : List ℕ
  pub source : Key
  pub destination : Key
  pub amount : ℕ
  pub fee : Option ℕ

-- a fee that is present and not above the amount
unfoldable pub covered : Option ℕ → ℕ → Bool
covered none n = false
covered (some f) n = nat_le f n

-- whether a transfer is summed; any other is counted apart
unfoldable pub summed : FedTransfer → Bool
summed t = covered t.fee t.amount

-- the fee, 0 where it is absent
unfoldable pub known : Option ℕ → ℕ
known none = 0
known (some f) = f

-- the fee of a summed transfer
unfoldable pub withheld : FedTransfer → ℕ
withheld t = known t.fee

-- the rest, which reaches the destination
unfoldable pub rest_of : FedTransfer → ℕ
rest_of t = t.amount - withheld t

-- the first 66 bytes of a report row
abbrev pub Line : Type 0
Line = List ℕ

-- the mint's own line: no account
abbrev pub mint_line : List ℕ → Line
mint_line m = m ++ zeros 33

-- the line of an account and a mint
abbrev pub account_line : List ℕ → Key → Line
account_line m a = m ++ (1 ∷ a)

-- a line's account flag: 0 on a mint's own line, 1 on an account's
abbrev pub account_flag : Line → ℕ
account_flag k = slice_index k 33

-- the three lines of a transfer
unfoldable pub own : FedTransfer → Line
own t = mint_line t.mint

unfoldable pub source_line : FedTransfer → Line
source_line t = account_line t.mint t.source

unfoldable pub destination_line : FedTransfer → Line
destination_line t = account_line t.mint t.destination

-- the lines that a transfer touches: counted apart, its mint's alone
unfoldable pub touched : FedTransfer → List Line
touched t = cond (summed t) (own t ∷ source_line t ∷ destination_line t ∷ []) (own t ∷ [])

-- a transfer as its row can tell it: a mint of 33 bytes, keys of 32, an amount of 64 bits
pub record Formed (t : FedTransfer) : Type 0 where
  pub mint_bytes : length t.mint ≡ 33
  pub mint_form : (t.mint ≡ zeros 33) ⊎ ((k : Key) × (t.mint ≡ 1 ∷ k))
  pub source_bytes : length t.source ≡ 32
  pub destination_bytes : length t.destination ≡ 32
  pub amount_bits : t.amount < 2 ^ 64

abbrev pub AllFormed : List FedTransfer → Type 0
AllFormed ts = (t : FedTransfer) → Memᴰ t ts → Formed t
