-- An action in numbers: accounts by their index bytes. `action_value` gives each case its value.
-- Assumes nothing.
use Rattle.std.specs.Prelude.{ℕ, Bool, cond, ◌&&◌, List, eqb, length, get_or, Option, Some, None}
use Rattle.std.proofs.Math.Option as maybe
use Rattle.wire.specs.Le.{le}
use Rattle.ids.specs.declared.Id.{Id}
use Rattle.ids.specs.Keys.{Key}
use Rattle.token.specs.Programs.{is_token}
use Rattle.natives.specs.Natives.{fund, sync, close, NativeAction, is_system, funds, syncs, closes, indexes_below, wrapped}
use Rattle.natives.specs.declared.Native.{Native}
use Rattle.natives.specs.declared.Native.TheVariants.{Fund, Sync, Close}

-- the action that it stands for; κ gives the key of an index
abbrev pub action_value : (ℕ → Key) → Option Native → maybe.Option NativeAction
action_value κ None = maybe.none
action_value κ (Some (Fund h s l)) = maybe.some record { held = κ h; action = fund (κ s) l }
action_value κ (Some (Sync h)) = maybe.some record { held = κ h; action = sync }
action_value κ (Some (Close h d a)) = maybe.some record { held = κ h; action = close (κ d) (κ a) }

-- what program, accounts and data ask for
unfoldable pub form_of : Id → List ℕ → List ℕ → Option Native
form_of id accounts d =
    cond (funds id (length accounts) d) (Some (Fund (get_or accounts 1 0) (get_or accounts 0 0) (le 8 d 4)))
    (cond (syncs id (length accounts) d) (Some (Sync (get_or accounts 0 0)))
    (cond (closes id (length accounts) d) (Some (Close (get_or accounts 0 0) (get_or accounts 1 0) (get_or accounts 2 0)))
    None))

-- whether an instruction of n bytes can ask for anything: 1 for a token program, 12 for System
unfoldable pub sized_of : Id → ℕ → Bool
sized_of id n = cond (is_token id) (eqb n 1) (is_system id && eqb n 12)

-- the index of the account that is acted on; 0 where there is no action, whose mint then does not matter
abbrev pub held_by : Option Native → ℕ
held_by None = 0
held_by (Some (Fund h s l)) = h
held_by (Some (Sync h)) = h
held_by (Some (Close h d a)) = h

abbrev pub acted_of : Id → List ℕ → List ℕ → ℕ
acted_of id accounts d = held_by (form_of id accounts d)

-- what counts of what is asked for, by a key count, the accounts and the acted account's mint
unfoldable pub settled : ℕ → Option Native → List ℕ → maybe.Option Key → Option Native
settled count asked accounts m = cond (indexes_below count accounts && wrapped m) asked None

abbrev pub action_in_numbers : ℕ → Id → List ℕ → List ℕ → maybe.Option Key → Option Native
action_in_numbers count id accounts d m = settled count (form_of id accounts d) accounts m
