-- Where no row ends in the key's last byte, no row has the key.
use Rattle.mints.proofs.Search.{unended, row-missing}
use mathlib.Core.Path.{sym, ap, ◌∙◌}
use Prim.Native.Nat.{ℕ}
use lib.ListN.{length, get_or}
use Rattle.mints.proofs.table.row_for.Goals as goal

pub returns-then-ends-byte-eq0 : goal.returns-then-ends-byte-eq0
returns-then-ends-byte-eq0 c =
    let a = c.args in
    row-missing a.table.now a.key.now (unended a.table.now a.key.now (length a.table.now) a.ends.now c.requires.1 (ap (λ (x : ℕ). get_or a.ends.now x 0) (sym c.byte.ensures) ∙ c.if-ends-byte-eq0.true))
