-- An action in numbers is the Rust's action: the accounts that it names are there, and only the acted account's mint is looked at.
-- Assumes nothing.
use mathlib.Core.Path.{◌≡◌, refl, sym, subst}
use mathlib.Core.Bool.{Bool, true, false, cond, ◌&&◌, ◌||◌, false≢true}
use mathlib.Core.List.{List, [], ◌∷◌}
use mathlib.Core.Option.{Option, none, some}
use Prim.Native.Nat.{ℕ, ◌≤◌}
use native.Mathlib.Omega.{arith}
use lib.Dec.{leb, eqb}
use lib.ListN.{length, take}
use borrow.Author.Tests.{leb-true}
use Rattle.std.specs.Prelude as rust
use Rattle.wire.specs.Same.{same}
use Rattle.wire.proofs.Same.{same_true}
use Rattle.wire.proofs.Below.{and_right}
use Rattle.ids.specs.declared.Id.{Id}
use Rattle.ids.specs.Ids.{ids, id_at, is_wrapped_sol}
use Rattle.ids.specs.Keys.{Key, zero_key}
use Rattle.token.specs.Programs.{is_token}
use Rattle.ids.specs.Mints.{is_mint, mint_of}
use Rattle.token.proofs.Laws.{there}
use Rattle.natives.specs.Natives.{fund, sync, close, NativeAction, is_system, funds, syncs, closes, asked, indexes_below, wrapped, counted, native_action}
use Rattle.natives.specs.Numbers.{action_value, form_of, held_by, acted_of, settled, action_in_numbers}
use Rattle.natives.specs.declared.Native.{Native}
use Rattle.natives.specs.declared.Native.TheVariants.{Fund, Sync, Close}

module _ (κ : ℕ → Key) (id : Id) (accounts d : List ℕ) where
  fund-floor : funds id (length accounts) d ≡ true → 2 ≤ length accounts
  unfolding funds
  fund-floor e = leb-true 2 (length accounts) (and_right (is_system id && same (take 4 d) (2 ∷ 0 ∷ 0 ∷ 0 ∷ []) && eqb (length d) 12) (leb 2 (length accounts)) e)

  sync-floor : syncs id (length accounts) d ≡ true → 1 ≤ length accounts
  unfolding syncs
  sync-floor e = leb-true 1 (length accounts) (and_right (is_token id && same d (17 ∷ [])) (leb 1 (length accounts)) e)

  close-floor : closes id (length accounts) d ≡ true → 3 ≤ length accounts
  unfolding closes
  close-floor e = leb-true 3 (length accounts) (and_right (is_token id && same d (9 ∷ [])) (leb 3 (length accounts)) e)

  form-value : action_value κ (form_of id accounts d) ≡ asked κ id accounts d
  unfolding form_of asked
  form-value = go (funds id (length accounts) d) refl (syncs id (length accounts) d) refl (closes id (length accounts) d) refl
    where
      go : (f : Bool) → funds id (length accounts) d ≡ f → (s : Bool) → syncs id (length accounts) d ≡ s → (c : Bool) → closes id (length accounts) d ≡ c → action_value κ (form_of id accounts d) ≡ asked κ id accounts d
      go true e s f c g = rw (e, there κ accounts 0 (omega (arith, fund-floor e)), there κ accounts 1 (omega (arith, fund-floor e)))
      go false e true f c g = rw (e, f, there κ accounts 0 (omega (arith, sync-floor f)))
      go false e false f true g = rw (e, f, g, there κ accounts 0 (omega (arith, close-floor g)), there κ accounts 1 (omega (arith, close-floor g)), there κ accounts 2 (omega (arith, close-floor g)))
      go false e false f false g = rw (e, f, g)

-- what counts of an action, by its number
counted-value : (κ : ℕ → Key) (count : ℕ) (accounts : List ℕ) (μ : Key → Option Key) (f : rust.Option Native) → counted count accounts μ (action_value κ f) ≡ action_value κ (cond (indexes_below count accounts && wrapped (μ (κ (held_by f)))) f rust.None)
unfolding counted
counted-value κ count accounts μ rust.None = go (indexes_below count accounts && wrapped (μ (κ 0)))
  where
    go : (b : Bool) → none ≡ action_value κ (cond b rust.None rust.None)
    go true = refl
    go false = refl
counted-value κ count accounts μ (rust.Some n) = go n
  where
    by : (x : NativeAction) (n : Native) → action_value κ (rust.Some n) ≡ some x → (b : Bool) → cond b (some x) none ≡ action_value κ (cond b (rust.Some n) rust.None)
    by x n e true = sym e
    by x n e false = refl

    go : (n : Native) → counted count accounts μ (action_value κ (rust.Some n)) ≡ action_value κ (cond (indexes_below count accounts && wrapped (μ (κ (held_by (rust.Some n))))) (rust.Some n) rust.None)
    go (Fund h s l) = by record { held = κ h; action = fund (κ s) l } (Fund h s l) refl (indexes_below count accounts && wrapped (μ (κ h)))
    go (Sync h) = by record { held = κ h; action = sync } (Sync h) refl (indexes_below count accounts && wrapped (μ (κ h)))
    go (Close h d a) = by record { held = κ h; action = close (κ d) (κ a) } (Close h d a) refl (indexes_below count accounts && wrapped (μ (κ h)))

-- the Rust's answer is what counts of the form, for the mint of the account that it acts on
pub native-is : (κ : ℕ → Key) (count : ℕ) (id : Id) (accounts d : List ℕ) (μ : Key → Option Key) → native_action κ count id accounts d μ ≡ action_value κ (action_in_numbers count id accounts d (μ (κ (acted_of id accounts d))))
unfolding native_action settled
native-is κ count id accounts d μ = rw (← form-value κ id accounts d) (counted-value κ count accounts μ (form_of id accounts d))

-- and so for any mint that is handed over
pub settled-value : (κ : ℕ → Key) (count : ℕ) (id : Id) (accounts d : List ℕ) (m : Option Key) → action_value κ (settled count (form_of id accounts d) accounts m) ≡ native_action κ count id accounts d (λ _. m)
settled-value κ count id accounts d m = sym (native-is κ count id accounts d (λ _. m))

-- no other program has an action
pub idle : (κ : ℕ → Key) (count : ℕ) (id : Id) (accounts d : List ℕ) (μ : Key → Option Key) → (is_token id || is_system id) ≡ false → native_action κ count id accounts d μ ≡ none
unfolding native_action counted asked funds syncs closes
idle κ count id accounts d μ e = go (is_token id) refl (is_system id) refl e
  where
    go : (t : Bool) → is_token id ≡ t → (s : Bool) → is_system id ≡ s → (t || s) ≡ false → native_action κ count id accounts d μ ≡ none
    go true p s q f = absurd (false≢true (sym f))
    go false p true q f = absurd (false≢true (sym f))
    go false p false q f = rw (p, q)

-- a mint that is handed over as bytes
wrapped-known : mint_of (id_at 2) ≡ some (id_at 2)
unfolding mint_of is_mint zero_key ids same
wrapped-known = refl

pub wrapped-mint : (m : List ℕ) → wrapped (mint_of m) ≡ is_wrapped_sol m
unfolding wrapped mint_of is_wrapped_sol
wrapped-mint m = go (same (id_at 2) m) refl (is_mint m) refl
  where
    go : (b : Bool) → same (id_at 2) m ≡ b → (t : Bool) → is_mint m ≡ t → wrapped (mint_of m) ≡ same (id_at 2) m
    go true e t f = subst (λ (k : Key). wrapped (mint_of k) ≡ same (id_at 2) k) (same_true (id_at 2) m e) (rw wrapped-known)
    go false e true f = rw f
    go false e false f = rw (f, e)

-- of what asks for nothing, nothing counts
pub no-form : (count : ℕ) (accounts : List ℕ) (m : Option Key) → settled count rust.None accounts m ≡ rust.None
unfolding settled
no-form count accounts m = go (indexes_below count accounts && wrapped m)
  where
    go : (b : Bool) → cond {A = rust.Option Native} b rust.None rust.None ≡ rust.None
    go true = refl
    go false = refl
