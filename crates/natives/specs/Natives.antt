-- The Rust's `native_action`: what an instruction does to a wrapped SOL account.
-- Assumes nothing.
use Rattle.std.specs.Prelude.{ℕ, Bool, true, false, cond, ◌&&◌, List, [], ◌∷◌, ltb, leb, eqb, length, take}
use Rattle.std.proofs.Math.Option.{Option, none, some}
use Rattle.wire.specs.Le.{le}
use Rattle.wire.specs.Same.{same}
use Rattle.ids.specs.declared.Id.{Id}
use Rattle.ids.specs.declared.Id.TheVariants.{System}
use Rattle.ids.specs.Which.{same_id}
use Rattle.ids.specs.Keys.{Key, account}
use Rattle.ids.specs.Ids.{is_wrapped_sol}
use Rattle.token.specs.Programs.{is_token}

pub data Action : Type 0 where
  fund : (source : Key) (lamports : ℕ) → Action
  sync : Action
  close : (destination authority : Key) → Action

-- an action, and the account that it acts on
pub record NativeAction : Type 0 where
  pub held : Key
  pub action : Action

-- the System program: a zero key that is resolved. A program that is not resolved has a case of its own, so it is neither System nor a token program
unfoldable pub is_system : Id → Bool
is_system id = same_id id System

-- fund: System, 12 bytes that begin 2, 0, 0, 0, two accounts
unfoldable pub funds : Id → ℕ → List ℕ → Bool
funds id n d = is_system id && same (take 4 d) (2 ∷ 0 ∷ 0 ∷ 0 ∷ []) && eqb (length d) 12 && leb 2 n

-- sync: exactly [17], one account
unfoldable pub syncs : Id → ℕ → List ℕ → Bool
syncs id n d = is_token id && same d (17 ∷ []) && leb 1 n

-- close: exactly [9], three accounts
unfoldable pub closes : Id → ℕ → List ℕ → Bool
closes id n d = is_token id && same d (9 ∷ []) && leb 3 n

-- the action that program, accounts and data ask for
unfoldable pub asked : (ℕ → Key) → Id → List ℕ → List ℕ → Option NativeAction
asked κ id accounts d =
    cond (funds id (length accounts) d) (some record { held = account κ accounts 1; action = fund (account κ accounts 0) (le 8 d 4) })
    (cond (syncs id (length accounts) d) (some record { held = account κ accounts 0; action = sync })
    (cond (closes id (length accounts) d) (some record { held = account κ accounts 0; action = close (account κ accounts 1) (account κ accounts 2) })
    none))

-- every account index, of accounts that are not used too, is below the key count
unfoldable pub indexes_below : ℕ → List ℕ → Bool
indexes_below count [] = true
indexes_below count (i ∷ is) = ltb i count && indexes_below count is

-- the mint is there, and is wrapped SOL
unfoldable pub wrapped : Option Key → Bool
wrapped none = false
wrapped (some m) = is_wrapped_sol m

-- an action counts where the mint of the account it acts on is wrapped SOL; μ gives the final mint of an account
unfoldable pub counted : ℕ → List ℕ → (Key → Option Key) → Option NativeAction → Option NativeAction
counted count accounts μ none = none
counted count accounts μ (some a) = cond (indexes_below count accounts && wrapped (μ a.held)) (some a) none

unfoldable pub native_action : (ℕ → Key) → ℕ → Id → List ℕ → List ℕ → (Key → Option Key) → Option NativeAction
native_action κ count id accounts d μ = counted count accounts μ (asked κ id accounts d)
