-- One line's part added to a report, and a transfer as such parts: what code does. Assumes nothing.
use Rattle.std.specs.Prelude.{ℕ, ◌+◌, Bool, false, cond, ◌||◌, List, [], ◌∷◌, ◌++◌}
use Rattle.wire.specs.Same.{same}
use Rattle.wire.specs.Order.{lt_key}
use Rattle.month.specs.Transfers.{FedTransfer, summed, withheld, rest_of, own, source_line, destination_line, Line}
use Rattle.month.specs.Sums.{Sums, plus}
use Rattle.month.specs.Report.{ReportRow, Report}

-- a row is put in its place, or its sums are added to the row of its line
unfoldable pub add_row : Report → ReportRow → Report
add_row [] e = e ∷ []
add_row (x ∷ r) e = cond (lt_key e.0 x.0) (e ∷ x ∷ r) (cond (same e.0 x.0) ((x.0, plus x.1 e.1) ∷ r) (x ∷ add_row r e))

-- rows added one after the other
unfoldable pub add_rows : Report → List ReportRow → Report
add_rows r [] = r
add_rows r (e ∷ es) = add_rows (add_row r e) es

-- what the mint's own line, the source's and the destination's take of a summed transfer, and the mint's of any other
abbrev pub whole_part : FedTransfer → Sums
whole_part t = record { debits = t.amount; credits = rest_of t; fees = withheld t; apart = 0 }

abbrev pub source_part : FedTransfer → Sums
source_part t = record { debits = t.amount; credits = 0; fees = 0; apart = 0 }

abbrev pub destination_part : FedTransfer → Sums
destination_part t = record { debits = 0; credits = rest_of t; fees = withheld t; apart = 0 }

abbrev pub apart_part : Sums
apart_part = record { debits = 0; credits = 0; fees = 0; apart = 1 }

-- the parts of a transfer, each with its line
unfoldable pub parts_of : FedTransfer → List ReportRow
parts_of t =
    cond (summed t)
    ((own t, whole_part t) ∷ (source_line t, source_part t) ∷ (destination_line t, destination_part t) ∷ [])
    ((own t, apart_part) ∷ [])

-- the parts of all transfers, in order
unfoldable pub parts_in : List FedTransfer → List ReportRow
parts_in [] = []
parts_in (t ∷ ts) = parts_of t ++ parts_in ts

-- whether a line is in a list
unfoldable pub among : Line → List Line → Bool
among k [] = false
among k (x ∷ l) = same k x || among k l

-- how many lines of a list stand neither in the first list nor earlier in their own
unfoldable pub new_in : List Line → List Line → ℕ
new_in old [] = 0
new_in old (k ∷ l) = cond (among k old) 0 1 + new_in (k ∷ old) l
