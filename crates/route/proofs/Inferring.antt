-- What `infer` leaves is what the other tables ask for: the final mint of each key index, and the rows of table 0.
-- Assumes nothing.
use mathlib.Core.Path.{◌≡◌, refl, sym, ap, ◌∙◌}
use mathlib.Core.Logic.{◌≢◌, by_cases, ⊎_elim}
use mathlib.Core.Bool.{false}
use mathlib.Core.Option.{Option, none, some, none-ne-some, some-injective}
use mathlib.Core.List.{List, [], ◌∷◌, ◌++◌, map, append_assoc, List-discrete, Memᴰ}
use Prim.Native.Nat.{ℕ, zero, suc, ◌+◌, ◌*◌, ◌≤◌, ◌<◌}
use native.Mathlib.Nat.{suc-mul, zero-mul, eq-or-lt_of_le, le_of_suc-le-suc}
use native.Mathlib.Decide.{ℕ_discrete, dec_lt}
use native.Mathlib.Omega.{arith}
use borrow.Author.Tests.{eq-eqb, le-ltb}
use lib.ListN.{length, drop, length-append, length-take, length-drop, length-replicate}
use lib.Seq.{sets, sets-eq, length-sets, take_at, drop_at, ext_get_or, get_or-take, get_or-drop}
use Rattle.wire.specs.Same.{same}
use Rattle.wire.proofs.Same.{same-eq, same-ne}
use Rattle.wire.proofs.Sets.{sets-after}
use Rattle.wire.specs.Zeros.{zeros}
use Rattle.wire.proofs.Zeros.{zeros-at}
use Rattle.ids.specs.Keys.{Key, zero_key, key_of, key_count}
use Rattle.ids.specs.Mints.{is_mint, mint_of}
use Rattle.evidence.specs.MintTable.{MintRow, mint_in}
use Rattle.mints.specs.Bytes.{mint_row, table_bytes, or_zero, mints_of}
use Rattle.route.specs.Known.{known_mint, Holds}
use Rattle.route.proofs.OrderTable.{flat}

-- the bytes of table 0's rows, one after the other
pub flat-bytes : (l : List MintRow) → flat (map mint_row l) ≡ table_bytes l
unfolding flat table_bytes
flat-bytes [] = refl
flat-bytes (r ∷ l) = ap (λ (x : List ℕ). mint_row r ++ x) (flat-bytes l)

-- rows whose mints are 32 bytes and not zero, and whose accounts are not zero
pub record Sound (l : List MintRow) : Type 0 where
  pub wide : (r : MintRow) → Memᴰ r l → length r.1 ≡ 32
  pub mint : (r : MintRow) → Memᴰ r l → r.1 ≢ zero_key
  pub account : (r : MintRow) → Memᴰ r l → r.0 ≢ zero_key

-- a mint that is found stands in a row of its account
mint-row : (l : List MintRow) (a m : Key) → mint_in l a ≡ some m → (r : MintRow) × Memᴰ r l × (r.1 ≡ m) × (r.0 ≡ a)
unfolding mint_in
mint-row [] a m e = absurd (none-ne-some m e)
mint-row (r ∷ l) a m e =
    by_cases
    (List-discrete ℕ_discrete a r.0)
    (λ q. (r, Memᴰ.head refl, some-injective _ m (sym (rw (same-eq q)) ∙ e), sym q))
    (λ n. let x = mint-row l a m (sym (rw (same-ne n)) ∙ e) in (x.0, Memᴰ.tail x.1, x.2, x.3))

module _ {l : List MintRow} (s : Sound l) where
  -- as 32 bytes and back
  pub told : (a : Key) → mint_of (or_zero (mint_in l a)) ≡ mint_in l a
  unfolding mint_of is_mint or_zero zero_key same
  told a = go (mint_in l a) refl
    where
      go : (o : Option Key) → mint_in l a ≡ o → mint_of (or_zero o) ≡ o
      go none e = refl
      go (some m) e =
          let x = mint-row l a m e in
          let w : length m ≡ 32 = rw (← x.2) (s.wide x.0 x.1) in
          let z : same m zero_key ≡ false = same-ne (λ q. s.mint x.0 x.1 (x.2 ∙ q)) in
          rw (eq-eqb _ _ w, z)

  -- the zero key has none
  pub none-zero : mint_in l zero_key ≡ none
  none-zero = go (mint_in l zero_key) refl
    where
      go : (o : Option Key) → mint_in l zero_key ≡ o → o ≡ none
      go none e = refl
      go (some m) e = let x = mint-row l zero_key m e in absurd (s.account x.0 x.1 x.3)

  wide : (a : Key) → length (or_zero (mint_in l a)) ≡ 32
  unfolding or_zero zero_key
  wide a = go (mint_in l a) refl
    where
      go : (o : Option Key) → mint_in l a ≡ o → length (or_zero o) ≡ 32
      go none e = refl
      go (some m) e = let x = mint-row l a m e in rw (← x.2) (s.wide x.0 x.1)

  pub mints-length : (κ : ℕ → Key) (n : ℕ) → length (mints_of l κ n) ≡ n * 32
  unfolding mints_of
  mints-length κ zero = sym (zero-mul 32)
  mints-length κ (suc n) = length-append (mints_of l κ n) (or_zero (mint_in l (κ n))) ∙ rw (mints-length κ n, wide (κ n), suc-mul)

  -- each key index has its 32 bytes
  mint-at : (κ : ℕ → Key) (n i : ℕ) (z : List ℕ) → i < n → known_mint (mints_of l κ n ++ z) i ≡ or_zero (mint_in l (κ i))
  unfolding mints_of
  mint-at κ zero i z h = absurd (omega arith)
  mint-at κ (suc n) i z h =
      rw
      (append_assoc (mints_of l κ n) (or_zero (mint_in l (κ n))) z)
      (⊎_elim
      (λ (e : i ≡ n). rw (e, drop_at (mints_of l κ n) (or_zero (mint_in l (κ n)) ++ z) (n * 32) (mints-length κ n)) (take_at (or_zero (mint_in l (κ n))) z 32 (wide (κ n))))
      (λ q. mint-at κ n i (or_zero (mint_in l (κ n)) ++ z) q)
      (eq-or-lt_of_le (le_of_suc-le-suc h)))

-- bytes behind the mints are zero
blank-at : (l : List ℕ) (i : ℕ) → length l ≤ i * 32 → i < 256 → known_mint (sets (zeros 8192) 0 l) i ≡ zero_key
unfolding zero_key
blank-at l i h k =
    let n : length (sets (zeros 8192) 0 l) ≡ 8192 = length-sets (zeros 8192) 0 l ∙ length-replicate {A = ℕ} 8192 0 in
    ext_get_or 0 (known_mint (sets (zeros 8192) 0 l) i) (zeros 32)
    (simp (length-take, length-drop, length-replicate) (omega arith))
    (λ j lt.
    let lt32 : j < 32 = omega (arith, length-take 32 (drop (i * 32) (sets (zeros 8192) 0 l))) in
    get_or-take 32 (drop (i * 32) (sets (zeros 8192) 0 l)) j 0 lt32
    ∙ get_or-drop (i * 32) (sets (zeros 8192) 0 l) j 0
    ∙ sets-after (zeros 8192) 0 l (i * 32 + j) (omega arith)
    ∙ zeros-at 8192 (i * 32 + j)
    ∙ sym (zeros-at 32 j))

-- the array that `infer` leaves holds the final mints
pub holds : {l : List MintRow} → Sound l → (ks known : List ℕ) → key_count ks ≤ 256 → known ≡ sets (zeros 8192) 0 (mints_of l (key_of ks) (key_count ks)) → Holds known ks l
unfolding zero_key or_zero
holds {l} s ks known few e i h =
    rw e (by_cases (dec_lt i (key_count ks)) (λ q. inside q) (λ q. outside (omega arith)))
  where
    n : length (mints_of l (key_of ks) (key_count ks)) ≡ key_count ks * 32
    n = mints-length s (key_of ks) (key_count ks)

    inside : i < key_count ks → mint_of (known_mint (sets (zeros 8192) 0 (mints_of l (key_of ks) (key_count ks))) i) ≡ mint_in l (key_of ks i)
    inside q =
        rw
        (sets-eq (mints_of l (key_of ks) (key_count ks)) (zeros 8192) 0 (omega (arith, n, length-replicate {A = ℕ} 8192 0)), mint-at s (key_of ks) (key_count ks) i (drop (0 + length (mints_of l (key_of ks) (key_count ks))) (zeros 8192)) q)
        (told s (key_of ks i))

    outside : key_count ks ≤ i → mint_of (known_mint (sets (zeros 8192) 0 (mints_of l (key_of ks) (key_count ks))) i) ≡ mint_in l (key_of ks i)
    outside q =
        rw (blank-at (mints_of l (key_of ks) (key_count ks)) i (omega (arith, n)) h, le-ltb i (key_count ks) q)
        (ap (λ (o : Option Key). mint_of (or_zero o)) (sym (none-zero s)) ∙ told s zero_key)
