-- The report of a list of transfers, and what a report becomes when transfers are fed. Assumes nothing.
use Rattle.std.specs.Prelude.{◌≡◌, ℕ, ◌≤◌, cond, List, [], ◌∷◌, ◌++◌, map, length, slice_index_or}
use Rattle.wire.specs.Same.{same}
use Rattle.wire.specs.Order.{lt_key}
use Rattle.wire.specs.Ascending.{Ascending}
use Rattle.month.specs.Transfers.{FedTransfer, Line, touched, account_flag}
use Rattle.month.specs.Sums.{Sums, sums_of, nothing, plus}

-- a line and its sums
abbrev pub ReportRow : Type 0
ReportRow = Line × Sums

-- rows; the rows used are their number
abbrev pub Report : Type 0
Report = List ReportRow

abbrev pub used : Report → ℕ
used r = length r

-- strictly ascending by line
abbrev pub Sorted : Report → Type 0
Sorted r = Ascending (λ x. x.0) r

abbrev pub lines_of : Report → List Line
lines_of r = map (λ x. x.0) r

-- a line has 66 bytes, a mint flag of 0 or 1, and an account flag of 0 or 1
pub record Lined (k : Line) : Type 0 where
  pub line_bytes : length k ≡ 66
  pub line_mint : slice_index_or k 0 0 ≤ 1
  pub line_account : account_flag k ≤ 1

-- the lines that transfers touch, in the order of the transfers
unfoldable pub lines_in : List FedTransfer → List Line
lines_in [] = []
lines_in (t ∷ ts) = touched t ++ lines_in ts

-- a line in its place, unless it is there
unfoldable pub enter : Line → List Line → List Line
enter k [] = k ∷ []
enter k (x ∷ l) = cond (lt_key k x) (k ∷ x ∷ l) (cond (same k x) (x ∷ l) (x ∷ enter k l))

-- the lines of a list ascending, each once
unfoldable pub ascending : List Line → List Line
ascending [] = []
ascending (k ∷ l) = enter k (ascending l)

-- the report: each line that a transfer touches, ascending, with its sums
unfoldable pub report_of : List FedTransfer → Report
report_of ts = map (λ k. (k, sums_of k ts)) (ascending (lines_in ts))

-- what a report has on a line: the sums of its rows with that line
unfoldable pub held_on : Line → Report → Sums
held_on k [] = nothing
held_on k (x ∷ r) = plus (cond (same k x.0) x.1 nothing) (held_on k r)

-- transfers fed into a report: each line that stands in it or is touched, ascending, with what it had and its sums
unfoldable pub fed_into : Report → List FedTransfer → Report
fed_into r ts = map (λ k. (k, plus (held_on k r) (sums_of k ts))) (ascending (lines_of r ++ lines_in ts))
