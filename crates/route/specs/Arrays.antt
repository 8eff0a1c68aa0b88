-- What the arrays of an invocation's numbers stand for: its row of table 1 by what they hold at its place.
-- Assumes nothing.
use Rattle.std.specs.Prelude.{ℕ, ◌+◌, cond, List, ◌≡◌, ltb, eqb, length, get_or}
use Rattle.ids.specs.declared.Id.{Id}
use Rattle.ids.specs.declared.Id.TheVariants.{SplToken}
use Rattle.pack.specs.Invocation.{Instruction, Position, instruction_at}
use Rattle.wire.specs.Tab.{tab}
use Rattle.subtrees.specs.Subtrees.{position_in, bits, end_of, insides_of, parent_of, tests_of}
use Rattle.route.specs.Lay.{placed}
use Rattle.route.specs.Program.{program_bits}
use Rattle.route.specs.Row.{invocation_width, invocation_row}

-- the instruction of invocation i in pack p; at has the offset of each
abbrev pub item_at : List ℕ → List ℕ → ℕ → Instruction
item_at p at i = instruction_at p (get_or at i 0)

-- what an invocation has itself, for those around it: 1 a transfer, 2 a leg, by its reason, which is 0 for a transfer, and its leg's number
unfoldable pub own_for : ℕ → ℕ → ℕ
own_for reason leg = bits (eqb reason 0) (ltb 0 leg)

-- the same for invocation i of two arrays
unfoldable pub own_at : List ℕ → List ℕ → ℕ → ℕ
own_at reasons leg i = own_for (get_or reasons i 0) (get_or leg i 0)

-- the same for the first n
abbrev pub owns_of : List ℕ → List ℕ → ℕ → List ℕ
owns_of reasons leg n = tab (own_at reasons leg) 0 n

-- bits 16 and 32: a leg of its own, by its leg's number; a transfer of its own
unfoldable pub own_bits : ℕ → ℕ → ℕ
own_bits reason leg = cond (ltb 0 leg) 16 0 + cond (eqb reason 0) 32 0

-- all its bits
unfoldable pub bits_at : List Id → List ℕ → List ℕ → List ℕ → ℕ → ℕ
bits_at programs inside reasons leg i = get_or inside i 0 + program_bits (get_or programs i SplToken) + own_bits (get_or reasons i 0) (get_or leg i 0)

-- its row, where ps are the positions of the invocations
unfoldable pub row_at : List Position → List Id → List ℕ → List ℕ → ℕ → List ℕ
row_at ps programs reasons leg i =
    invocation_row (position_in ps i) (end_of ps i) (bits_at programs (insides_of ps (owns_of reasons leg (length ps))) reasons leg i) (get_or leg i 0) (parent_of ps i)
    (get_or reasons i 0)

-- what is promised of table 1
pub record FillsEach (ps : List Position) (programs : List Id) (reasons leg : List ℕ) (r : ℕ) (before after : List ℕ) : Type 0 where
  -- the answer is how often `descendant` is called
  pub tests : r ≡ tests_of ps
  -- each invocation has its row
  pub rows : after ≡ placed invocation_width 0 (tab (row_at ps programs reasons leg) 0 (length ps)) before
