-- Sorting a table by its accounts. Assumes nothing.
use Rattle.std.specs.Prelude.{cond, [], ◌∷◌}
use Rattle.wire.specs.Order.{lt_key}
use Rattle.evidence.specs.Table.{Row, Table}

-- a row in its place
unfoldable pub insert : Row → Table → Table
insert r [] = r ∷ []
insert r (x ∷ t) = cond (lt_key r.0 x.0) (r ∷ x ∷ t) (x ∷ insert r t)

-- the rows ascending by account
unfoldable pub sort : Table → Table
sort [] = []
sort (r ∷ t) = insert r (sort t)
