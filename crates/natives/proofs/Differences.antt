-- Where the Rust takes a native action and where the published layout fits. It wants the exact length of each, and the accounts that are published: so it
-- misses exactly what is longer, and adds nothing.
-- Assumes nothing.
use mathlib.Core.Path.{◌≡◌, refl}
use mathlib.Core.Logic.{◌≢◌}
use mathlib.Core.Bool.{true, false, ◌&&◌, and-true, and-false, or-false}
use mathlib.Core.List.{List, [], ◌∷◌}
use mathlib.Core.Option.{Option, none, some}
use Prim.Native.Nat.{ℕ}
use native.Mathlib.Omega.{arith}
use lib.Dec.{ltb, eqb}
use lib.ListN.{length}
use borrow.Author.Tests.{ne_eqb}
use Rattle.wire.specs.Same.{same}
use Rattle.wire.proofs.Same.{same_true}
use Rattle.wire.specs.Zeros.{zeros}
use Rattle.ids.specs.declared.Id.{Id}
use Rattle.ids.specs.declared.Id.TheVariants.{SplToken, System, Unresolved}
use Rattle.ids.specs.Ids.{id_at, is_wrapped_sol}
use Rattle.ids.specs.Keys.{Key}
use Rattle.token.specs.Programs.{is_token}
use Rattle.token.specs.Published.{total, size, starts, one_of, has_layout, system_transfer, sync_native, close_account}
use Rattle.token.specs.ByLayout.{exact}
use Rattle.token.proofs.Differences.{token-programs, Listed, exact-missed}
use Rattle.natives.specs.Natives.{is_system, funds, syncs, closes, asked, wrapped, counted, native_action}

-- the Rust's test of the program is the published one
pub system-program : (id : Id) → is_system id ≡ one_of (System ∷ []) id
unfolding is_system one_of
system-program id = simp or-false

-- System Transfer: what is taken
pub fund-accepts : (id : Id) (n : ℕ) (d : List ℕ) → funds id n d ≡ exact system_transfer 2 id n d
unfolding funds exact system_transfer size total starts
fund-accepts id n d = rw (system-program id)

-- two bytes are not one
pub not-lone : (x y : ℕ) (r : List ℕ) → eqb (length (x ∷ y ∷ r)) 1 ≡ false
not-lone x y r = ne_eqb (length (x ∷ y ∷ r)) 1 (λ (e : length (x ∷ y ∷ r) ≡ 1). omega arith)

-- SyncNative
pub sync-accepts : (id : Id) (n : ℕ) (d : List ℕ) → syncs id n d ≡ exact sync_native 1 id n d
unfolding syncs exact sync_native size total starts same
sync-accepts id n [] = simp and-false
sync-accepts id n (x ∷ []) = simp (token-programs, and-true)
sync-accepts id n (x ∷ y ∷ r) = simp (not-lone x y r, and-false)

-- CloseAccount
pub close-accepts : (id : Id) (n : ℕ) (d : List ℕ) → closes id n d ≡ exact close_account 3 id n d
unfolding closes exact close_account size total starts same
close-accepts id n [] = simp and-false
close-accepts id n (x ∷ []) = simp (token-programs, and-true)
close-accepts id n (x ∷ y ∷ r) = simp (not-lone x y r, and-false)

-- THE LIST, of the native actions
module _ (id : Id) (n : ℕ) (d : List ℕ) where
  pub fund-listed : Listed (has_layout system_transfer id n d) (funds id n d) (has_layout system_transfer id n d && ltb 12 (length d)) false
  unfolding system_transfer size total
  fund-listed = rw (fund-accepts id n d) (exact-missed system_transfer id n d)

  pub sync-listed : Listed (has_layout sync_native id n d) (syncs id n d) (has_layout sync_native id n d && ltb 1 (length d)) false
  unfolding sync_native size total
  sync-listed = rw (sync-accepts id n d) (exact-missed sync_native id n d)

  pub close-listed : Listed (has_layout close_account id n d) (closes id n d) (has_layout close_account id n d && ltb 1 (length d)) false
  unfolding close_account size total
  close-listed = rw (close-accepts id n d) (exact-missed close_account id n d)

-- the smallest example of each difference: a byte too many
pub longer-fund : (has_layout system_transfer System 2 (2 ∷ zeros 12) ≡ true) × (funds System 2 (2 ∷ zeros 12) ≡ false)
unfolding has_layout one_of system_transfer size total starts same funds is_system
longer-fund = (refl, refl)

pub longer-sync : (has_layout sync_native SplToken 1 (17 ∷ 0 ∷ []) ≡ true) × (syncs SplToken 1 (17 ∷ 0 ∷ []) ≡ false)
unfolding has_layout one_of sync_native size total starts same syncs is_token
longer-sync = (refl, refl)

pub longer-close : (has_layout close_account SplToken 3 (9 ∷ 0 ∷ []) ≡ true) × (closes SplToken 3 (9 ∷ 0 ∷ []) ≡ false)
unfolding has_layout one_of close_account size total starts same closes is_token
longer-close = (refl, refl)

-- other ways of moving lamports fund nothing: CreateAccount (0), CreateAccountWithSeed (3), WithdrawNonceAccount (5), TransferWithSeed (11)
pub no-other-fund : (id : Id) (n x : ℕ) (r : List ℕ) → x ≢ 2 → funds id n (x ∷ r) ≡ false
unfolding funds same
no-other-fund id n x r h = simp (ne_eqb x 2 h, and-false)

-- one mint alone is wrapped SOL: Token-2022's own native mint is not
pub wrapped-only : (m : Key) → wrapped (some m) ≡ true → id_at 2 ≡ m
unfolding wrapped is_wrapped_sol
wrapped-only m e = same_true (id_at 2) m e

-- a program that is not resolved does nothing, whatever its accounts and data
pub unresolved-none : (κ : ℕ → Key) (count : ℕ) (accounts d : List ℕ) (μ : Key → Option Key) → native_action κ count Unresolved accounts d μ ≡ none
unfolding native_action counted asked funds syncs closes is_system is_token
unresolved-none κ count accounts d μ = refl
