-- Which filled-in rows are in doubt, by labels: rows that transfers between filled-in rows join bear one label, and label 0 tells doubt. Row 0 is the zero key's
-- and never filled in, so that no row is in doubt at first.
-- Assumes nothing.
use Rattle.std.specs.Prelude.{ℕ, zero, suc, Bool, false, cond, not, List, map, eqb, ltb, length, get_or}
use Rattle.wire.specs.Same.{same}
use Rattle.wire.specs.Tab.{tab}
use Rattle.mints.specs.declared.row.Row.{Row}
use Rattle.mints.specs.declared.row.State.TheVariants.{Doubted}
use Rattle.mints.specs.Cells.{mint_at, state_at, with_state}
use Rattle.mints.specs.Pass.{Ran, from_at, to_at, passes}
use Rattle.mints.specs.declared.pass.Transfer.{Transfer}

-- whether both rows have a mint, and different ones
unfoldable pub differ_at : List Row → ℕ → ℕ → Bool
differ_at t a b = cond (ltb 1 (state_at t a)) (cond (ltb 1 (state_at t b)) (not (same (mint_at t a) (mint_at t b))) false) false

-- n labels, each row's own number
abbrev pub own_labels : ℕ → List ℕ
own_labels n = tab (λ r. r) 0 n

-- label y in the place of x
unfoldable pub renamed : ℕ → ℕ → ℕ → ℕ
renamed x y z = cond (eqb z x) y z

unfoldable pub relabelled : ℕ → ℕ → List ℕ → List ℕ
relabelled x y l = map (renamed x y) l

-- two rows, and all under their labels, under the lesser of the two
unfoldable pub join_at : List ℕ → ℕ → ℕ → List ℕ
join_at l a b = cond (ltb (get_or l a 0) (get_or l b 0)) (relabelled (get_or l b 0) (get_or l a 0) l) (relabelled (get_or l a 0) (get_or l b 0) l)

-- a row that is filled in, and all under its label, in doubt
unfoldable pub suspect_at : List Row → List ℕ → ℕ → List ℕ
suspect_at t l r = cond (eqb (state_at t r) 3) (relabelled (get_or l r 0) 0 l) l

-- the labels after a transfer between two rows: different mints put its filled-in ends in doubt, else two filled-in ends are joined
unfoldable pub meet_at : List Row → List ℕ → ℕ → ℕ → List ℕ
meet_at t l a b = cond (differ_at t a b) (suspect_at t (suspect_at t l a) b) (cond (eqb (state_at t a) 3) (cond (eqb (state_at t b) 3) (join_at l a b) l) l)

-- the labels after the first i transfers
unfoldable pub labels_to : List Transfer → List Row → List ℕ → ℕ → List ℕ
labels_to ts t l zero = l
labels_to ts t l (suc i) = meet_at t (labels_to ts t l i) (from_at ts i) (to_at ts i)

-- a filled-in row is marked
unfoldable pub doubt_at : List Row → ℕ → List Row
doubt_at t r = cond (eqb (state_at t r) 3) (with_state t r Doubted) t

-- the first i rows are marked, those under label 0
unfoldable pub marks_to : List Row → List ℕ → ℕ → List Row
marks_to t l zero = t
marks_to t l (suc r) = let u = marks_to t l r in cond (eqb (get_or l r 0) 0) (doubt_at u r) u

-- n rows marked by transfers
abbrev pub doubts_of : List Transfer → List Row → ℕ → List Row
doubts_of ts t n = marks_to t (labels_to ts t (own_labels n) (length ts)) n

-- the passes over transfers, and then the marks of n rows
unfoldable pub handed_on : List Transfer → List Row → ℕ → ℕ → Ran
handed_on ts t n room =
    let x = passes ts t room in
    record { table = doubts_of ts x.table n; room = x.room; passes = x.passes }
