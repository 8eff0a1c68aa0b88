-- For code: a transfer's lines by number, where a line stands or belongs in a list, and the lines that are new. Assumes nothing.
use Rattle.std.specs.Prelude.{ℕ, zero, suc, ◌*◌, ◌/◌, ◌%◌, Bool, true, cond, not, ◌&&◌, List, [], ◌∷◌, map, take, Option, Some, None}
use Rattle.wire.specs.Same.{same}
use Rattle.wire.specs.Order.{lt_key}
use Rattle.wire.specs.Tab.{tab}
use Rattle.month.specs.Transfers.{FedTransfer, Line, own, source_line, destination_line, touched}
use Rattle.month.specs.Sums.{those, nothing}
use Rattle.month.specs.Report.{Report, lines_of, enter, ascending}
use Rattle.month.specs.Adding.{among}
use Rattle.month.specs.Bytes.{transfer_at}

-- line 0 of a transfer is its mint's own, line 1 the source's, any other the destination's
unfoldable pub line_of : FedTransfer → ℕ → Line
line_of t zero = own t
line_of t (suc zero) = source_line t
line_of t (suc (suc n)) = destination_line t

-- transfer i of a table
abbrev pub fed_at : List ℕ → ℕ → FedTransfer
fed_at s i = transfer_at s (i * 150)

-- the transfers at some places of a table
abbrev pub transfers_at : List ℕ → List ℕ → List FedTransfer
transfers_at s places = map (fed_at s) places

-- n transfers of a table, from i on
abbrev pub transfers_from : List ℕ → ℕ → ℕ → List FedTransfer
transfers_from s i n = tab (fed_at s) i n

-- lines of a table are numbered three to a transfer
unfoldable pub line_numbered : List ℕ → ℕ → Line
line_numbered s n = line_of (fed_at s (n / 3)) (n % 3)

abbrev pub lines_numbered : List ℕ → List ℕ → List Line
lines_numbered s ns = map (line_numbered s) ns

-- how many lines at the front of a list are below a line: its place, where they ascend
unfoldable pub spot_of : Line → List Line → ℕ
spot_of k [] = 0
spot_of k (x ∷ l) = cond (lt_key x k) (suc (spot_of k l)) 0

-- where a line stands, the list's length where it does not
unfoldable pub place_of_line : Line → List Line → ℕ
place_of_line k [] = 0
place_of_line k (x ∷ l) = cond (same k x) 0 (suc (place_of_line k l))

-- the row of a line, where it stands in a list
unfoldable pub row_of : Line → List Line → Option ℕ
row_of k l = cond (among k l) (Some (place_of_line k l)) None

-- whether all of some lines are among others
unfoldable pub all_among : List Line → List Line → Bool
all_among [] old = true
all_among (k ∷ l) old = among k old && all_among l old

-- whether a report has all lines of a transfer
abbrev pub has_all : Report → FedTransfer → Bool
has_all r t = all_among (touched t) (lines_of r)

-- the lines of a list that are above a bound and stand in no old one, ascending, each once
unfoldable pub new_above : List Line → Line → List Line → List Line
new_above old bound ks = ascending (those (λ k. lt_key bound k && not (among k old)) ks)

-- one line more: the least ones, at most so many
unfoldable pub least_with : ℕ → List Line → Line → Line → List Line → List Line
least_with most old bound k l = cond (lt_key bound k && not (among k old)) (take most (enter k l)) l

-- some lines more, one after the other
unfoldable pub least_of : ℕ → List Line → Line → List Line → List Line → List Line
least_of most old bound [] l = l
least_of most old bound (k ∷ ks) l = least_of most old bound ks (least_with most old bound k l)

-- rows without sums
abbrev pub empty_rows : List Line → Report
empty_rows ks = map (λ k. (k, nothing)) ks
