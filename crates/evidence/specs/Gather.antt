-- Evidence and transfers, gathered from balance rows and invocations. Assumes nothing.
use Rattle.std.specs.Prelude.{List, [], ◌∷◌, ◌++◌}
use Rattle.evidence.specs.Table.{Row}

-- the pairs of each item, in the order of the items
unfoldable pub gather : {A : Type 0} → (A → List Row) → List A → List Row
gather f [] = []
gather f (y ∷ l) = f y ++ gather f l
