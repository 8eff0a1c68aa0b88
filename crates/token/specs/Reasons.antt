-- Why an instruction gives no transfer, by the published layouts: the first test that it fails, as a number from 1 to 5; 0 where it gives one.
-- Assumes nothing.
use Rattle.std.specs.Prelude.{ℕ, ◌≤◌, ◌<◌, ◌≡◌, Bool, true, false, cond, ◌&&◌, ◌||◌, ltb, length}
use mathlib.Core.List.{List, [], ◌∷◌, Memᴰ}
use Rattle.std.proofs.Math.Option.{Option, none, some}
use Rattle.ids.specs.declared.Id.{Id}
use Rattle.ids.specs.Keys.{Key}
use Rattle.token.specs.Programs.{is_token}
use Rattle.token.specs.Transfers.{Transfer}
use Rattle.token.specs.Published.{Layout, source, destination, mint, transfer_layout, transfer_checked, transfer_checked_with_fee, role, size, starts, one_of}
use Rattle.token.specs.ByLayout.{names_zero}

-- the three transfers
unfoldable pub transfer_layouts : List Layout
transfer_layouts = transfer_layout ∷ transfer_checked ∷ transfer_checked_with_fee ∷ []

-- whether an instruction begins as this layout does: a program that has it, and its tag
unfoldable pub begins_as : Layout → Id → List ℕ → Bool
begins_as l id d = one_of l.programs id && starts l.tag d

-- whether the key of its source, its destination or the mint that it names is zero
unfoldable pub lacks_key : Layout → (ℕ → Key) → List ℕ → Bool
lacks_key l κ accounts = names_zero κ (role l source accounts) || names_zero κ (role l destination accounts) || names_zero κ (role l mint accounts)

-- what an instruction that begins so lacks: 3 accounts, 4 data, 5 a key
unfoldable pub lacking : Layout → (ℕ → Key) → List ℕ → List ℕ → ℕ
lacking l κ accounts d =
    cond (ltb (length accounts) (length l.accounts)) 3
    (cond (ltb (length d) (size l)) 4
    (cond (lacks_key l κ accounts) 5
    0))

-- of the first of some layouts as which it begins; 2 where it begins as none
unfoldable pub reason_among : List Layout → (ℕ → Key) → Id → List ℕ → List ℕ → ℕ
reason_among [] κ id accounts d = 2
reason_among (l ∷ ls) κ id accounts d = let rest = reason_among ls κ id accounts d in cond (begins_as l id d) (lacking l κ accounts d) rest

-- the reason; 1 where the program is no token program
unfoldable pub reason : (ℕ → Key) → Id → List ℕ → List ℕ → ℕ
reason κ id accounts d = cond (is_token id) (reason_among transfer_layouts κ id accounts d) 1

-- the six answers, each by what it says of the instruction
pub data Because (κ : ℕ → Key) (id : Id) (accounts d : List ℕ) : ℕ → Type 0 where
  not_token : is_token id ≡ false → Because κ id accounts d 1
  unsupported_tag : is_token id ≡ true → ((l : Layout) → Memᴰ l transfer_layouts → begins_as l id d ≡ false) → Because κ id accounts d 2
  too_few_accounts : (l : Layout) → Memᴰ l transfer_layouts → begins_as l id d ≡ true → length accounts < length l.accounts → Because κ id accounts d 3
  data_too_short : (l : Layout) → Memᴰ l transfer_layouts → begins_as l id d ≡ true → length l.accounts ≤ length accounts → length d < size l
      → Because κ id accounts d 4
  zero_key : (l : Layout) → Memᴰ l transfer_layouts → begins_as l id d ≡ true → length l.accounts ≤ length accounts → size l ≤ length d
      → lacks_key l κ accounts ≡ true → Because κ id accounts d 5
  a_transfer : (l : Layout) → Memᴰ l transfer_layouts → begins_as l id d ≡ true → length l.accounts ≤ length accounts → size l ≤ length d
      → lacks_key l κ accounts ≡ false → Because κ id accounts d 0

-- a reason and what the Rust's `transfer` gives: one of five and nothing, or 0 and a transfer
pub data Tells : ℕ → Option Transfer → Type 0 where
  says_why : {n : ℕ} → 0 < n → n ≤ 5 → Tells n none
  says_transfer : {t : Transfer} → Tells 0 (some t)
