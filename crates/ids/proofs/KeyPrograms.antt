-- What is kept of the keys' programs is what a search would find, since each program is that of its key alone.
-- Assumes nothing.
use Prim.Native.Nat.{ℕ, ◌*◌, ◌≤◌, ◌<◌}
use mathlib.Core.Path.{◌≡◌, refl, sym, ap, ◌∙◌}
use mathlib.Core.List.{List, map}
use mathlib.Core.Bool.{Bool, true, false, cond, ◌&&◌}
use native.Mathlib.Nat.{zero-add}
use native.Mathlib.Omega.{arith}
use borrow.Author.Tests.{ltb-true, ltb-false, le-ltb}
use lib.Dec.{ltb, eqb}
use lib.ListN.{length, get_or, length-map}
use lib.Seq.{ext_get_or}
use Rattle.std.proofs.lemmas.List.{get_or-map}
use Rattle.wire.proofs.Tab.{tab-length, tab-at}
use Rattle.ids.specs.Keys.{key_count, key_of}
use Rattle.ids.specs.Which.{number_of, of_number, row_from, which, program_at}
use Rattle.ids.specs.declared.Id.TheVariants.{Unresolved}
use Rattle.ids.specs.KeyPrograms.{key_programs, program_number_at, program_in, program_numbers, number_in}
use Rattle.ids.proofs.Meaning.{which-number}

pub programs-length : (ks : List ℕ) → length (key_programs ks) ≡ 256
unfolding key_programs
programs-length ks = tab-length (program_at ks) 0 256

pub programs-at : (ks : List ℕ) (i : ℕ) → i < 256 → get_or (key_programs ks) i Unresolved ≡ program_at ks i
unfolding key_programs
programs-at ks i h = tab-at (program_at ks) Unresolved 0 256 i h ∙ rw zero-add

-- a row past the keys has no program
pub program-past : (ks : List ℕ) (i : ℕ) → key_count ks ≤ i → program_at ks i ≡ Unresolved
unfolding program_at
program-past ks i h = rw (le-ltb i (key_count ks) h)

-- of at most 256 keys each has its program among those that are kept
pub program-in : (ks : List ℕ) (index : ℕ) → key_count ks ≤ 256 → program_in (key_programs ks) index ≡ program_at ks index
unfolding program_in
program-in ks index h = go (ltb index 256) refl
  where
    go : (b : Bool) → ltb index 256 ≡ b → cond b (get_or (key_programs ks) index Unresolved) Unresolved ≡ program_at ks index
    go true e = programs-at ks index (ltb-true index 256 e)
    go false e =
        let m = ltb-false index 256 e in
        sym (program-past ks index (omega arith))

-- a key's number is that of its program
pub number-program : (ks : List ℕ) (i : ℕ) → of_number (program_number_at ks i) ≡ program_at ks i
unfolding program_number_at program_at which of_number
number-program ks i = go (ltb i (key_count ks) && eqb (get_or ks (i * 33) 0) 1)
  where
    go : (b : Bool) → of_number (cond b (row_from (key_of ks i) 14 0) 16) ≡ cond b (which (key_of ks i)) Unresolved
    go true = refl
    go false = refl

-- and its program's number is that number
program-number : (ks : List ℕ) (i : ℕ) → number_of (program_at ks i) ≡ program_number_at ks i
unfolding program_number_at program_at
program-number ks i = go (ltb i (key_count ks) && eqb (get_or ks (i * 33) 0) 1)
  where
    go : (b : Bool) → number_of (cond b (which (key_of ks i)) Unresolved) ≡ cond b (row_from (key_of ks i) 14 0) 16
    go true = which-number (key_of ks i)
    go false = refl

-- of at most 256 keys each has its number, that of the program that is kept for it
pub number_of-in : (ks : List ℕ) (index : ℕ) → key_count ks ≤ 256 → number_of (program_in (key_programs ks) index) ≡ program_number_at ks index
number_of-in ks index h = ap number_of (program-in ks index h) ∙ program-number ks index

pub numbers-length : (ks : List ℕ) → length (program_numbers ks) ≡ 256
unfolding program_numbers
numbers-length ks = tab-length (program_number_at ks) 0 256

pub numbers-at : (ks : List ℕ) (i : ℕ) → i < 256 → get_or (program_numbers ks) i 0 ≡ program_number_at ks i
unfolding program_numbers
numbers-at ks i h = tab-at (program_number_at ks) 0 0 256 i h ∙ rw zero-add

-- a row past the keys has no program
pub number_past : (ks : List ℕ) (i : ℕ) → key_count ks ≤ i → program_number_at ks i ≡ 16
unfolding program_number_at
number_past ks i h = rw (le-ltb i (key_count ks) h)

-- of at most 256 keys each has its number among those that are kept
pub number-in : (ks : List ℕ) (index : ℕ) → key_count ks ≤ 256 → number_in (program_numbers ks) index ≡ program_number_at ks index
unfolding number_in
number-in ks index h = go (ltb index 256) refl
  where
    go : (b : Bool) → ltb index 256 ≡ b → cond b (get_or (program_numbers ks) index 0) 16 ≡ program_number_at ks index
    go true e = numbers-at ks index (ltb-true index 256 e)
    go false e =
        let m = ltb-false index 256 e in
        rw (number_past ks index (omega arith))

-- and the numbers are those of the programs that are kept
pub numbers-of : (ks : List ℕ) → program_numbers ks ≡ map number_of (key_programs ks)
numbers-of ks =
    ext_get_or 0 (program_numbers ks) (map number_of (key_programs ks)) (numbers-length ks ∙ sym (length-map (key_programs ks) number_of ∙ programs-length ks))
    (λ i h. let m : i < 256 = omega (arith, numbers-length ks) in
    numbers-at ks i m ∙ sym (get_or-map number_of (key_programs ks) i Unresolved 0 (omega (arith, programs-length ks)) ∙ ap number_of (programs-at ks i m) ∙ program-number ks i))
