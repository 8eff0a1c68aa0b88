-- Every account and number of a native action is the one that the published layout has under its name: an instruction that is taken has all the accounts that
-- are read, and a layout's names stand at known places.
-- Assumes nothing.
use mathlib.Core.Path.{◌≡◌, refl}
use mathlib.Core.Bool.{Bool, true, false}
use mathlib.Core.List.{List}
use mathlib.Core.Option.{bind}
use Prim.Native.Nat.{ℕ}
use native.Mathlib.Omega.{arith}
use lib.ListN.{length}
use borrow.Author.Tests.{lt-ltb}
use Rattle.ids.specs.declared.Id.{Id}
use Rattle.ids.specs.Keys.{Key}
use Rattle.token.specs.Published.{field, number, place, standing, role, system_transfer, sync_native, close_account}
use Rattle.token.specs.ByLayout.{exact}
use Rattle.token.proofs.Published.{exact-accounts}
use Rattle.natives.specs.Natives.{asked}
use Rattle.natives.specs.ByLayout.{funded, synced, closed, published_action}
use Rattle.natives.proofs.Differences.{fund-accepts, sync-accepts, close-accepts}

pub asked-published : (κ : ℕ → Key) (id : Id) (a d : List ℕ) → asked κ id a d ≡ published_action κ id a d
unfolding asked published_action funded synced closed number field role standing place system_transfer sync_native close_account bind
asked-published κ id a d = go (exact system_transfer 2 id (length a) d) refl (exact sync_native 1 id (length a) d) refl (exact close_account 3 id (length a) d) refl
  where
    go : (f : Bool) → exact system_transfer 2 id (length a) d ≡ f → (s : Bool) → exact sync_native 1 id (length a) d ≡ s → (c : Bool) → exact close_account 3 id (length a) d ≡ c → asked κ id a d ≡ published_action κ id a d
    go true e s f c g =
        let h = exact-accounts system_transfer 2 id (length a) d e in
        simp (fund-accepts, e, lt-ltb 0 (length a) (omega arith), lt-ltb 1 (length a) (omega arith))
    go false e true f c g =
        let h = exact-accounts sync_native 1 id (length a) d f in
        simp (fund-accepts, e, sync-accepts, f, lt-ltb 0 (length a) (omega arith))
    go false e false f true g =
        let h = exact-accounts close_account 3 id (length a) d g in
        simp (fund-accepts, e, sync-accepts, f, close-accepts, g, lt-ltb 0 (length a) (omega arith), lt-ltb 1 (length a) (omega arith), lt-ltb 2 (length a) (omega arith))
    go false e false f false g = simp (fund-accepts, e, sync-accepts, f, close-accepts, g)
