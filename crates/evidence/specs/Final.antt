-- The final table: without the ambiguous rows, in the order of the accounts. Assumes nothing.
use Rattle.std.specs.Prelude.{cond, [], ◌∷◌}
use Rattle.ids.specs.Keys.{is_zero}
use Rattle.evidence.specs.Table.{Table}
use Rattle.evidence.specs.Sorted.{sort}

-- the rows that are not ambiguous
unfoldable pub clean : Table → Table
clean [] = []
clean (r ∷ t) = cond (is_zero r.1) (clean t) (r ∷ clean t)

-- the table that is written
unfoldable pub final : Table → Table
final t = sort (clean t)
