-- A View's rows, read from the bytes of their sections: what the layers above look up by index. Row i stands behind i rows of one width.
-- Assumes nothing.
use mathlib.Core.Path.{◌≡◌, refl, sym, ap, ◌∙◌}
use mathlib.Core.Bool.{Bool, true, false, cond, ◌&&◌}
use mathlib.Core.List.{List, [], map}
use Prim.Native.Nat.{ℕ, zero, suc, ◌+◌, ◌*◌, ◌/◌, ◌≤◌, ◌<◌}
use native.Mathlib.Nat.{zero-mul, suc-mul, add_comm, add-zero}
use native.Mathlib.Omega.{arith}
use borrow.Author.Tests.{ltb-true, ltb-false}
use lib.Dec.{ltb, eqb}
use lib.ListN.{length, get_or, take, drop, length-map, length-take, length-drop, get_or-eq_default}
use lib.Seq.{drop-drop, get_or-take, get_or-drop}
use Rattle.wire.specs.Le.{le}
use Rattle.ids.specs.Keys.{Key, zero_key, key_of}
use Rattle.ids.specs.Which.{which, program_at}
use Rattle.ids.specs.declared.Id.TheVariants.{Unresolved}
use Rattle.pack.specs.Items.{rows}
use Rattle.pack.specs.View.{keys_in, balances_in, key_in, program_in}
use Rattle.std.proofs.lemmas.List.{drop-take, get_or-map}
use Rattle.pack.proofs.Sizes.{rows-length, key-rows}
use Rattle.pack.proofs.Slices.{le_in}

-- row i
pub row_at : (w n : ℕ) (s : List ℕ) (i : ℕ) (d : List ℕ) → i < n → get_or (rows w n s) i d ≡ take w (drop (i * w) s)
unfolding rows
row_at w zero s i d h = absurd (omega arith)
row_at w (suc n) s zero d h = rw zero-mul
row_at w (suc n) s (suc i) d h = row_at w n (drop w s) i d (omega arith) ∙ rw (drop-drop (i * w) w s, suc-mul i w, add_comm w (i * w))

-- a row of n bytes and more, k of them in front
field : (k n w i : ℕ) (s : List ℕ) → k + n ≡ w → drop k (take w (drop (i * w) s)) ≡ take n (drop (i * w + k) s)
field k n w i s e = rw (← e) (drop-take k n (drop (i * (k + n)) s) ∙ rw (drop-drop k (i * (k + n)) s))

-- section 0: flag and key of row i
pub key_row : (s : List ℕ) (i : ℕ) (d : ℕ × Key) → i < length s / 33 → get_or (keys_in s) i d ≡ (get_or s (i * 33) 0, take 32 (drop (i * 33 + 1) s))
unfolding keys_in
key_row s i d h =
    let n = length s / 33 in
    get_or-map (λ (r : List ℕ). (get_or r 0 0, drop 1 r)) (rows 33 n s) i [] d (rw rows-length h)
    ∙ rw (row_at 33 n s i [] h, get_or-take 33 (drop (i * 33) s) 0 0 (omega arith), get_or-drop (i * 33) s 0 0, add-zero, field 1 32 33 i s refl)

-- section 1: account index and mint of row i
pub balance-row : (s : List ℕ) (i : ℕ) (d : ℕ × Key) → i < length s / 36 → get_or (balances_in s) i d ≡ (le 4 s (i * 36), take 32 (drop (i * 36 + 4) s))
unfolding balances_in
balance-row s i d h =
    let n = length s / 36 in
    get_or-map (λ (r : List ℕ). (le 4 r 0, drop 4 r)) (rows 36 n s) i [] d (rw rows-length h)
    ∙ rw (row_at 36 n s i [] h, field 4 32 36 i s refl, le_in s (i * 36) 36 4 0 (simp (length-take, length-drop) (omega arith)), add-zero)

pub balances-length : (s : List ℕ) → length (balances_in s) ≡ length s / 36
unfolding balances_in
balances-length s = length-map (rows 36 (length s / 36) s) (λ (r : List ℕ). (le 4 r 0, drop 4 r)) ∙ rows-length 36 (length s / 36) s

-- a lookup in the key section is a lookup among the keys
module _ {A : Type 0} (f : ℕ × Key → A) (s : List ℕ) (i : ℕ) (z : A) where
  in-range : i < length s / 33 → get_or (map f (keys_in s)) i z ≡ f (get_or s (i * 33) 0, take 32 (drop (i * 33 + 1) s))
  in-range h =
      let n = key-rows s in
      get_or-map f (keys_in s) i (0, []) z (omega arith) ∙ ap f (key_row s i (0, []) h)

  out_of_range : length s / 33 ≤ i → get_or (map f (keys_in s)) i z ≡ z
  out_of_range h = get_or-eq_default (map f (keys_in s)) z {n = i} (rw (length-map (keys_in s) f, key-rows s) h)

pub key-is : (s : List ℕ) (i : ℕ) → key_of s i ≡ key_in (keys_in s) i
unfolding key_in
key-is s i = go (ltb i (length s / 33)) refl
  where
    go : (t : Bool) → ltb i (length s / 33) ≡ t → cond t (take 32 (drop (i * 33 + 1) s)) zero_key ≡ get_or (map (λ (k : ℕ × Key). k.1) (keys_in s)) i zero_key
    go true e = sym (in-range (λ (k : ℕ × Key). k.1) s i zero_key (ltb-true i (length s / 33) e))
    go false e = sym (out_of_range (λ (k : ℕ × Key). k.1) s i zero_key (ltb-false i (length s / 33) e))

pub program-is : (s : List ℕ) (i : ℕ) → program_at s i ≡ program_in (keys_in s) i
unfolding program_in program_at
program-is s i = rw (← key-is s i) (go (ltb i (length s / 33)) refl)
  where
    go : (t : Bool) → ltb i (length s / 33) ≡ t
        → cond (t && eqb (get_or s (i * 33) 0) 1) (which (key_of s i)) Unresolved ≡ cond (eqb (get_or (map (λ (k : ℕ × Key). k.0) (keys_in s)) i 0) 1) (which (key_of s i)) Unresolved
    go true e = rw (in-range (λ (k : ℕ × Key). k.0) s i 0 (ltb-true i (length s / 33) e))
    go false e = rw (out_of_range (λ (k : ℕ × Key). k.0) s i 0 (ltb-false i (length s / 33) e))
