-- For code: what a report in a buffer has to be before it is worked on, and places that lie within a table. Assumes nothing.
use Rattle.std.specs.Prelude.{◌≡◌, ℕ, ◌+◌, ◌-◌, ◌*◌, ◌/◌, ◌^◌, ◌<◌, ◌≤◌, List, length, take}
use mathlib.Core.List.{Memᴰ}
use Rattle.wire.specs.Ascending.{Ascending}
use Rattle.month.specs.Transfers.{Line}
use Rattle.month.specs.Sums.{Within}
use Rattle.month.specs.Report.{ReportRow, Report, Sorted, fed_into}
use Rattle.month.specs.Bytes.{rows_to}
use Rattle.month.specs.Lookup.{lines_numbered, transfers_at, transfers_from}

-- each row can bear so many more transfers: each adds less than 2 to the 64th to a sum, three times at most, and 1 to a count
abbrev pub Bears : ℕ → Report → Type 0
Bears left r = (x : ReportRow) → Memᴰ x r → Within (2 ^ 128 - left * (3 * 2 ^ 64)) (4294967295 - left) x.1

-- each row can take one addition: less than 2 to the 64th to a sum, and 1 to a count
abbrev pub Takes : Report → Type 0
Takes r = (x : ReportRow) → Memᴰ x r → Within (2 ^ 128 - 2 ^ 64) 4294967294 x.1

-- the first n rows of a buffer are there, and they ascend
pub record Stands (b : List ℕ) (n : ℕ) : Type 0 where
  pub inside : n * 118 ≤ length b
  pub sorted : Sorted (rows_to b n)

-- the transfers at these places are there
abbrev pub PlacesIn : List ℕ → List ℕ → Type 0
PlacesIn t places = (i : ℕ) → Memᴰ i places → i * 150 + 150 ≤ length t

-- the first k numbers are those of lines that ascend, of transfers that are there
pub record Held (t ns : List ℕ) (k : ℕ) : Type 0 where
  pub held_most : k ≤ length ns
  pub held_there : (n : ℕ) → Memᴰ n (take k ns) → n / 3 * 150 + 150 ≤ length t
  pub held_ascend : Ascending (λ x. x) (lines_numbered t (take k ns))

-- the first k numbers are those of these lines
pub record Entered (t ns : List ℕ) (k : ℕ) (lines : List Line) : Type 0 where
  pub entered : lines_numbered t (take k ns) ≡ lines
  pub holds_lines : Held t ns k

-- lines picked from a table
pub record Picked : Type 0 where
  pub table : List ℕ
  pub lines : List Line

-- what a walk over a table from a place on has left: the transfers that wait, fed into what is there, give what all from that place on give
pub record Walked (b t : List ℕ) (rows from to : ℕ) (wait : List ℕ) (waiting : ℕ) (b' : List ℕ) : Type 0 where
  pub further : from < to
  pub in_table : to ≤ length t / 150
  pub wait_most : waiting ≤ length wait
  pub wait_there : PlacesIn t (take waiting wait)
  pub fed_later : fed_into (rows_to b' rows) (transfers_at t (take waiting wait)) ≡ fed_into (rows_to b rows) (transfers_from t from (to - from))
  pub stands_after : Stands b' rows
  pub bears_after : Bears (length t / 150 - to + waiting) (rows_to b' rows)
