-- The native actions in the words of the published layouts. A name that a layout has not gives nothing.
-- Assumes nothing.
use Rattle.std.specs.Prelude.{ℕ, cond, List, length}
use Rattle.std.proofs.Math.Option.{Option, none, some, bind}
use Rattle.ids.specs.declared.Id.{Id}
use Rattle.ids.specs.Keys.{Key}
use Rattle.token.specs.Published.{held, source, destination, authority, lamports, number, role, system_transfer, sync_native, close_account}
use Rattle.token.specs.ByLayout.{exact}
use Rattle.natives.specs.Natives.{fund, sync, close, NativeAction}

-- System Transfer funds its destination
unfoldable pub funded : (ℕ → Key) → List ℕ → List ℕ → Option NativeAction
funded κ accounts d =
    bind (role system_transfer destination accounts) (λ h.
    bind (role system_transfer source accounts) (λ s.
    bind (number system_transfer lamports d) (λ x.
    some record { held = κ h; action = fund (κ s) x })))

-- SyncNative
unfoldable pub synced : (ℕ → Key) → List ℕ → Option NativeAction
synced κ accounts = bind (role sync_native held accounts) (λ h. some record { held = κ h; action = sync })

-- CloseAccount
unfoldable pub closed : (ℕ → Key) → List ℕ → Option NativeAction
closed κ accounts =
    bind (role close_account held accounts) (λ h.
    bind (role close_account destination accounts) (λ t.
    bind (role close_account authority accounts) (λ a.
    some record { held = κ h; action = close (κ t) (κ a) })))

-- the action that program, accounts and data ask for
unfoldable pub published_action : (ℕ → Key) → Id → List ℕ → List ℕ → Option NativeAction
published_action κ id accounts d =
    cond (exact system_transfer 2 id (length accounts) d) (funded κ accounts d)
    (cond (exact sync_native 1 id (length accounts) d) (synced κ accounts)
    (cond (exact close_account 3 id (length accounts) d) (closed κ accounts)
    none))
