-- How many keys and invocations a pack has, by its sections: a key for each row, an instruction for each item.
-- Assumes nothing.
use mathlib.Core.Path.{◌≡◌, refl, ap, ◌∙◌}
use mathlib.Core.List.{List}
use Prim.Native.Nat.{ℕ, zero, suc, ◌+◌, ◌/◌}
use lib.ListN.{length, get_or, drop, length-map}
use Rattle.pack.specs.Sections.{section_of}
use Rattle.pack.specs.Items.{rows}
use Rattle.pack.specs.View.{keys_in, outer_in, groups_in, view_of}
use Rattle.pack.specs.Flatten.{kept_in, flatten}
use Rattle.pack.proofs.Counting.{flatten-length}

pub rows-length : (w n : ℕ) (s : List ℕ) → length (rows w n s) ≡ n
unfolding rows
rows-length w zero s = refl
rows-length w (suc n) s = ap suc (rows-length w n (drop w s))

pub key-rows : (s : List ℕ) → length (keys_in s) ≡ length s / 33
unfolding keys_in
key-rows s = length-map (rows 33 (length s / 33) s) (λ (r : List ℕ). (get_or r 0 0, drop 1 r)) ∙ rows-length 33 (length s / 33) s

pub keys_length : (p : List ℕ) → length (view_of p).keys ≡ length (section_of p 0) / 33
unfolding view_of
keys_length p = key-rows (section_of p 0)

pub invocations-length : (p : List ℕ) → length (flatten (view_of p)) ≡ length (outer_in (section_of p 2)) + kept_in (length (outer_in (section_of p 2))) (groups_in (section_of p 3))
unfolding view_of
invocations-length p = flatten-length (view_of p)
