-- Pass after pass until one adds no row, with the number of passes. Assumes nothing.
use Rattle.std.specs.Prelude.{true, false, ℕ, zero, suc, eqb, length}
use Rattle.std.proofs.Math.Option.{Option, none, some}
use Rattle.evidence.specs.Table.{Table}

-- a table and the number of passes that made it
abbrev pub TableAfter : Type 0
TableAfter = Table × ℕ

-- one pass more
unfoldable pub once_more : Option TableAfter → Option TableAfter
once_more none = none
once_more (some r) = some (r.0, suc r.1)

-- passes g until one adds nothing, which counts too; nothing when the fuel does not suffice
unfoldable pub run : ℕ → (Table → Table) → Table → Option TableAfter
run zero g t = none
run (suc f) g t = elim (eqb (length (g t)) (length t)) [ true ↦ some (t, 1) | false ↦ once_more (run f g (g t)) ]
