-- Each instruction's program, for the layers that look at programs again.
-- Assumes nothing.
use Rattle.std.specs.Prelude.{ℕ, List, map}
use Rattle.ids.specs.declared.Id.{Id}
use Rattle.ids.specs.Which.{program_at}
use Rattle.pack.specs.Invocation.{instruction_at}

-- the programs of the instructions at the offsets
unfoldable pub programs_of : List ℕ → List ℕ → List ℕ → List Id
programs_of ks p offsets = map (λ o. program_at ks (instruction_at p o).program) offsets
