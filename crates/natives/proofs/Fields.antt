-- A row is written field by field: each field begins where the one before it ends, and the last one ends the row.
-- Assumes nothing.
use mathlib.Core.Path.{◌≡◌, refl, sym, ◌∙◌, subst}
use mathlib.Core.List.{List, [], ◌∷◌, ◌++◌}
use mathlib.Core.Option.{Option, some, none-ne-some, some-injective}
use Prim.Native.Nat.{ℕ}
use native.Mathlib.Omega.{arith}
use lib.ListN.{length, set, length-append}
use lib.Seq.{sets}
use Rattle.wire.proofs.Sets.{sets-next, sets-whole}
use Rattle.wire.specs.Le.{le_bytes}
use Rattle.wire.proofs.Laws.{le_bytes-length}
use Rattle.ids.specs.declared.Id.{Id}
use Rattle.ids.specs.Keys.{Key, zero_key}
use Rattle.natives.specs.Natives.{NativeAction, native_action}
use Rattle.natives.specs.Numbers.{action_value, acted_of, action_in_numbers}
use Rattle.natives.specs.Rows.{action_width, fields_of, action_row_by}
use Rattle.natives.specs.declared.Native.{Native}
use Rattle.natives.specs.declared.Native.TheVariants.{Fund, Sync, Close}
use Rattle.natives.proofs.Laws.{native-is}
use Rattle.std.specs.Prelude as rust

-- a row has the width of the table
pub row-length : (i kind : ℕ) (h o a : Key) (n : ℕ) → length h ≡ 32 → length o ≡ 32 → length a ≡ 32 → length (fields_of i kind h o a n) ≡ action_width
unfolding fields_of
row-length i kind h o a n hh ho ha = simp (length-append, le_bytes-length, hh, ho, ha)

-- the fields fill it
pub fields : (l : List ℕ) (i kind : ℕ) (h o a : Key) (n : ℕ) → length l ≡ action_width → length h ≡ 32 → length o ≡ 32 → length a ≡ 32 → sets (sets (sets (sets (set (sets l 0 (le_bytes 4 i)) 4 kind) 5 h) 37 o) 69 a) 101 (le_bytes 8 n) ≡ fields_of i kind h o a n
unfolding fields_of
fields l i kind h o a n hl hh ho ha =
    let b = le_bytes 4 i in
    let hb : length (le_bytes 4 i) ≡ 4 = le_bytes-length 4 i in
    let told : set (sets l 0 b) 4 kind ≡ sets l 0 (b ++ (kind ∷ [])) = sets-next l 0 b (kind ∷ []) 4 (omega arith) in
    rw (
      told,
      sets-next l 0 (b ++ (kind ∷ [])) h 5 (simp length-append (omega arith)),
      sets-next l 0 (b ++ (kind ∷ []) ++ h) o 37 (simp length-append (omega arith)),
      sets-next l 0 (b ++ (kind ∷ []) ++ h ++ o) a 69 (simp length-append (omega arith)),
      sets-next l 0 (b ++ (kind ∷ []) ++ h ++ o ++ a) (le_bytes 8 n) 101 (simp length-append (omega arith)),
    )
    (sets-whole l (fields_of i kind h o a n) (row-length i kind h o a n hh ho ha ∙ sym hl))

zero-length : length zero_key ≡ 32
unfolding zero_key
zero-length = refl

-- so has the row of an action that counts, whose accounts are keys
pub action-length : (κ : ℕ → Key) → ((j : ℕ) → length (κ j) ≡ 32) → (count : ℕ) (id : Id) (accounts bytes : List ℕ) (μ : Key → Option Key) {a : NativeAction}
    → native_action κ count id accounts bytes μ ≡ some a → (i : ℕ) → length (action_row_by i a.held a.action) ≡ action_width
action-length κ long count id accounts bytes μ {a} e i =
    go (action_in_numbers count id accounts bytes (μ (κ (acted_of id accounts bytes)))) (sym (native-is κ count id accounts bytes μ) ∙ e)
  where
    by : {x : NativeAction} → length (action_row_by i x.held x.action) ≡ action_width → some x ≡ some a → length (action_row_by i a.held a.action) ≡ action_width
    by {x} h q = subst (λ (y : NativeAction). length (action_row_by i y.held y.action) ≡ action_width) (some-injective x a q) h

    go : (n : rust.Option Native) → action_value κ n ≡ some a → length (action_row_by i a.held a.action) ≡ action_width
    go rust.None q = absurd (none-ne-some a q)
    go (rust.Some (Fund h s l)) q = by (row-length i 1 (κ h) (κ s) zero_key l (long h) (long s) zero-length) q
    go (rust.Some (Sync h)) q = by (row-length i 2 (κ h) zero_key zero_key 0 (long h) zero-length zero-length) q
    go (rust.Some (Close h d o)) q = by (row-length i 3 (κ h) (κ d) (κ o) 0 (long h) (long d) (long o)) q
