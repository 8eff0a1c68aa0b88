-- What is kept of an instruction's program is that program.
-- Assumes nothing.
use Prim.Native.Nat.{ℕ, zero, suc, ◌<◌}
use mathlib.Core.Path.{◌≡◌, refl}
use mathlib.Core.List.{List, [], ◌∷◌}
use native.Mathlib.Omega.{arith}
use lib.ListN.{length, get_or, length-map}
use Rattle.ids.specs.declared.Id.{Id}
use Rattle.ids.specs.Which.{program_at}
use Rattle.pack.specs.Invocation.{instruction_at}
use Rattle.mints.specs.Programs.{programs_of}

pub programs-length : (ks p offsets : List ℕ) → length (programs_of ks p offsets) ≡ length offsets
unfolding programs_of
programs-length ks p offsets = length-map offsets (λ o. program_at ks (instruction_at p o).program)

-- a kept program is the instruction's
pub kept-program : (ks p offsets : List ℕ) (i : ℕ) (d : Id) → i < length offsets → get_or (programs_of ks p offsets) i d ≡ program_at ks (instruction_at p (get_or offsets i 0)).program
unfolding programs_of
kept-program ks p [] i d h = absurd (omega arith)
kept-program ks p (o ∷ offsets) zero d h = refl
kept-program ks p (o ∷ offsets) (suc i) d h = kept-program ks p offsets i d (omega arith)
