-- A group of inner instructions, over what an instruction is given as: itself, or where it stands.
-- Assumes nothing.
use Rattle.std.specs.Prelude.{ℕ, List}
use Rattle.std.proofs.Math.Option.{Option}

-- the outer instruction that it names, and its instructions, each with its height
pub record Group (A : Type 0) : Type 0 where
  pub index : ℕ
  pub items : List (Option ℕ × A)
