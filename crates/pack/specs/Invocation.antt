-- What a transaction's instructions are: the values that the layers above talk of.
-- Assumes nothing.
use Rattle.std.specs.Prelude.{ℕ, zero, suc, ◌+◌, List, get_or, take, drop}
use Rattle.std.proofs.Math.Option.{Option, none, some}
use Rattle.wire.specs.Le.{le}
use Rattle.pack.specs.declared.position.Place.{Place}

-- one instruction as it stands in a pack: the index of its program's key, the indexes of its accounts' keys, its data
pub record Instruction : Type 0 where
  pub program : ℕ
  pub accounts : List ℕ
  pub bytes : List ℕ

-- where an instruction was run: the Rust's `InstructionPosition`
pub record Position : Type 0 where
  pub outer : ℕ
  pub inner : Option ℕ
  pub height : Option ℕ

-- an instruction that was run: the Rust's `Invocation`
pub record Invocation : Type 0 where
  pub position : Position
  pub instruction : Instruction

-- the instruction whose program index stands at an offset of a pack: program u32, account count u16, data length u16, index bytes, data
unfoldable pub instruction_at : List ℕ → ℕ → Instruction
instruction_at p at =
    record {
      program = le 4 p at;
      accounts = take (le 2 p (at + 4)) (drop (at + 8) p);
      bytes = take (le 2 p (at + 6)) (drop (at + 8 + le 2 p (at + 4)) p);
    }

-- a number that an array holds one higher, 0 standing for none
unfoldable pub lowered : ℕ → Option ℕ
lowered zero = none
lowered (suc k) = some k

-- the position that three arrays hold at a place
unfoldable pub position_at : List ℕ → List ℕ → List ℕ → ℕ → Position
position_at outer inner height i = record { outer = get_or outer i 0; inner = lowered (get_or inner i 0); height = lowered (get_or height i 0) }

-- the position that a place of an array stands for
unfoldable pub position_of : Place → Position
position_of p = record { outer = p.outer; inner = lowered p.inner; height = lowered p.height }

-- the place that an array is full of before it is written
unfoldable pub blank_place : Place
blank_place = record { outer = 0; inner = 0; height = 0 }

-- the position that an array holds at an index
unfoldable pub position_in_places : List Place → ℕ → Position
position_in_places places i = position_of (get_or places i blank_place)
