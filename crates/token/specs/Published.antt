-- The published layouts of the instructions that are read, of the System program, SPL Token and Token-2022: which programs have the instruction, how
-- its bytes begin, the fields that follow, and the accounts that it names. The programs' own decoders ignore bytes and accounts that come after.
-- Assumes nothing.
use Rattle.std.specs.Prelude.{ℕ, suc, ◌+◌, Bool, false, cond, ◌&&◌, ◌||◌, List, [], ◌∷◌, ltb, leb, eqb, length, get_or, take}
use Rattle.std.proofs.Math.Option.{Option, none, some, map}
use Rattle.wire.specs.Le.{le}
use Rattle.wire.specs.Same.{same}
use Rattle.ids.specs.declared.Id.{Id}
use Rattle.ids.specs.declared.Id.TheVariants.{SplToken, Token2022, System}
use Rattle.ids.specs.Which.{same_id}

-- what a field or an account of an instruction is called: `held` is the token account that it is about
pub data Name : Type 0 where
  held source destination mint authority owner rent : Name
  amount decimals fee lamports : Name

-- a number for each, by which names are compared
abbrev pub rank : Name → ℕ
rank held = 0
rank source = 1
rank destination = 2
rank mint = 3
rank authority = 4
rank owner = 5
rank rent = 6
rank amount = 7
rank decimals = 8
rank fee = 9
rank lamports = 10

-- the programs that have an instruction, the bytes that it begins with, its fields with their widths, its accounts
pub record Layout : Type 0 where
  pub programs : List Id
  pub tag : List ℕ
  pub fields : List (Name × ℕ)
  pub accounts : List Name

-- System: Transfer
unfoldable pub system_transfer : Layout
system_transfer =
    record { programs = System ∷ []; tag = 2 ∷ 0 ∷ 0 ∷ 0 ∷ []; fields = (lamports, 8) ∷ []; accounts = source ∷ destination ∷ [] }

-- SPL Token and Token-2022: InitializeAccount, InitializeAccount2, InitializeAccount3
unfoldable pub initialize_account : Layout
initialize_account =
    record { programs = SplToken ∷ Token2022 ∷ []; tag = 1 ∷ []; fields = []; accounts = held ∷ mint ∷ owner ∷ rent ∷ [] }

unfoldable pub initialize_account2 : Layout
initialize_account2 =
    record { programs = SplToken ∷ Token2022 ∷ []; tag = 16 ∷ []; fields = (owner, 32) ∷ []; accounts = held ∷ mint ∷ rent ∷ [] }

unfoldable pub initialize_account3 : Layout
initialize_account3 =
    record { programs = SplToken ∷ Token2022 ∷ []; tag = 18 ∷ []; fields = (owner, 32) ∷ []; accounts = held ∷ mint ∷ [] }

-- SPL Token and Token-2022: Transfer, TransferChecked
unfoldable pub transfer_layout : Layout
transfer_layout =
    record { programs = SplToken ∷ Token2022 ∷ []; tag = 3 ∷ []; fields = (amount, 8) ∷ []; accounts = source ∷ destination ∷ authority ∷ [] }

unfoldable pub transfer_checked : Layout
transfer_checked =
    record {
      programs = SplToken ∷ Token2022 ∷ [];
      tag = 12 ∷ [];
      fields = (amount, 8) ∷ (decimals, 1) ∷ [];
      accounts = source ∷ mint ∷ destination ∷ authority ∷ [];
    }

-- Token-2022 alone, transfer fee extension: TransferCheckedWithFee
unfoldable pub transfer_checked_with_fee : Layout
transfer_checked_with_fee =
    record {
      programs = Token2022 ∷ [];
      tag = 26 ∷ 1 ∷ [];
      fields = (amount, 8) ∷ (decimals, 1) ∷ (fee, 8) ∷ [];
      accounts = source ∷ mint ∷ destination ∷ authority ∷ [];
    }

-- SPL Token and Token-2022: SyncNative, CloseAccount
unfoldable pub sync_native : Layout
sync_native = record { programs = SplToken ∷ Token2022 ∷ []; tag = 17 ∷ []; fields = []; accounts = held ∷ [] }

unfoldable pub close_account : Layout
close_account =
    record { programs = SplToken ∷ Token2022 ∷ []; tag = 9 ∷ []; fields = []; accounts = held ∷ destination ∷ authority ∷ [] }

-- all nine
unfoldable pub layouts : List Layout
layouts =
    system_transfer ∷ initialize_account ∷ initialize_account2 ∷ initialize_account3 ∷ transfer_layout ∷ transfer_checked ∷ transfer_checked_with_fee ∷ sync_native ∷ close_account ∷ []

-- where a field stands and how wide it is: the fields follow one another, the first at byte `at`; none where no field has the name
unfoldable pub field : Name → ℕ → List (Name × ℕ) → Option (ℕ × ℕ)
field x at [] = none
field x at (f ∷ fs) = let rest = field x (at + f.1) fs in cond (eqb (rank x) (rank f.0)) (some (at, f.1)) rest

-- the number that a field holds, least byte first
unfoldable pub number : Layout → Name → List ℕ → Option ℕ
number l x d = map (λ (f : ℕ × ℕ). le f.1 d f.0) (field x (length l.tag) l.fields)

-- which account has a name, counted from 0; none where no account has it
unfoldable pub place : Name → List Name → Option ℕ
place x [] = none
place x (y ∷ ys) = let rest = place x ys in cond (eqb (rank x) (rank y)) (some 0) (map suc rest)

-- what stands at a place of an instruction's accounts; none past their end
unfoldable pub standing : List ℕ → Option ℕ → Option ℕ
standing accounts none = none
standing accounts (some i) = cond (ltb i (length accounts)) (some (get_or accounts i 0)) none

-- an account by its name: its index among the transaction's keys
unfoldable pub role : Layout → Name → List ℕ → Option ℕ
role l x accounts = standing accounts (place x l.accounts)

-- how many bytes the fields have
unfoldable pub total : List (Name × ℕ) → ℕ
total [] = 0
total (f ∷ fs) = f.1 + total fs

-- how many bytes an instruction has at least
unfoldable pub size : Layout → ℕ
size l = length l.tag + total l.fields

-- whether data begins with these bytes
unfoldable pub starts : List ℕ → List ℕ → Bool
starts p d = same (take (length p) d) p

-- whether a program is one of these
unfoldable pub one_of : List Id → Id → Bool
one_of [] id = false
one_of (p ∷ ps) id = same_id id p || one_of ps id

-- an instruction of this layout: program id, n accounts, data d
unfoldable pub has_layout : Layout → Id → ℕ → List ℕ → Bool
has_layout l id n d = one_of l.programs id && starts l.tag d && leb (size l) (length d) && leb (length l.accounts) n
