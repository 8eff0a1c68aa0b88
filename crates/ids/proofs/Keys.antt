-- A key has 32 bytes and a mint's field 33, whether they are there or not: what stands for a missing one is as long.
-- Assumes nothing.
use mathlib.Core.Path.{◌≡◌, refl, ap}
use mathlib.Core.Bool.{Bool, true, false, cond}
use mathlib.Core.List.{List}
use mathlib.Core.Option.{none, some}
use Prim.Native.Nat.{ℕ, suc, ◌+◌, ◌*◌}
use native.Mathlib.Omega.{arith}
use lib.Dec.{ltb, eqb}
use lib.ListN.{length, get_or, take, drop, length-take, length-drop}
use borrow.Author.Tests.{ltb-true, eqb-true}
use Rattle.wire.proofs.Below.{and_left}
use Rattle.ids.specs.Keys.{Key, zero_key, key_count, key_of, account}
use Rattle.ids.specs.Mints.{is_mint, mint_of, mint_field}

-- a key has 32 bytes, missing or not
pub key-length : (ks : List ℕ) (i : ℕ) → length (key_of ks i) ≡ 32
unfolding zero_key
key-length ks i = go (ltb i (key_count ks)) refl
  where
    go : (b : Bool) → ltb i (key_count ks) ≡ b → length (cond b (take 32 (drop (i * 33 + 1) ks)) zero_key) ≡ 32
    go true e = simp (length-take, length-drop) (omega (arith, ltb-true i (key_count ks) e))
    go false e = refl

-- so has an instruction's account
pub account-length : (κ : ℕ → Key) → ((i : ℕ) → length (κ i) ≡ 32) → (accounts : List ℕ) (i : ℕ) → length (account κ accounts i) ≡ 32
unfolding zero_key
account-length κ h accounts i = go (ltb i (length accounts))
  where
    go : (b : Bool) → length (cond b (κ (get_or accounts i 0)) zero_key) ≡ 32
    go true = h (get_or accounts i 0)
    go false = refl

-- and a mint
pub mint-wide : (m : List ℕ) → is_mint m ≡ true → length m ≡ 32
unfolding is_mint
mint-wide m e = eqb-true (length m) 32 (and_left (eqb (length m) 32) _ e)

-- and its field has one more
pub mint-length : (m : List ℕ) → length (mint_field (mint_of m)) ≡ 33
unfolding mint_of
mint-length m = go (is_mint m) refl
  where
    go : (b : Bool) → is_mint m ≡ b → length (mint_field (cond b (some m) none)) ≡ 33
    go true e = ap suc (mint-wide m e)
    go false e = refl
