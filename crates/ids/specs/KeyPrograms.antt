-- Which program each of the first 256 keys is, and what a lookup in that list answers: ks is the key section.
-- Assumes nothing.
use Rattle.std.specs.Prelude.{ℕ, ◌*◌, List, cond, ◌&&◌, ltb, eqb, get_or}
use Rattle.wire.specs.Tab.{tab}
use Rattle.ids.specs.Keys.{key_count, key_of}
use Rattle.ids.specs.declared.Id.{Id}
use Rattle.ids.specs.declared.Id.TheVariants.{Unresolved}
use Rattle.ids.specs.Which.{row_from, program_at}

-- the number of the program that the key of row i is: resolved only in range with flag 1
unfoldable pub program_number_at : List ℕ → ℕ → ℕ
program_number_at ks i = cond (ltb i (key_count ks) && eqb (get_or ks (i * 33) 0) 1) (row_from (key_of ks i) 14 0) 16

-- the programs that the first 256 keys are
unfoldable pub key_programs : List ℕ → List Id
key_programs ks = tab (program_at ks) 0 256

-- the program at an index, by the list that is kept
unfoldable pub program_in : List Id → ℕ → Id
program_in programs index = cond (ltb index 256) (get_or programs index Unresolved) Unresolved

-- the numbers of the first 256 keys, for who keeps a program as a byte
unfoldable pub program_numbers : List ℕ → List ℕ
program_numbers ks = tab (program_number_at ks) 0 256

-- the number at an index, by the numbers that are kept
unfoldable pub number_in : List ℕ → ℕ → ℕ
number_in numbers index = cond (ltb index 256) (get_or numbers index 0) 16
