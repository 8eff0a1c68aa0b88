-- A fed table and a report as bytes, and the answer when one is fed into the other. Assumes nothing.
use Rattle.std.specs.Prelude.{ℕ, zero, suc, ◌+◌, ◌-◌, ◌*◌, ◌/◌, ◌%◌, ◌^◌, Bool, true, cond, not, ◌&&◌, List, [], ◌∷◌, ◌++◌, length, take, drop, ◌==◌, nat_le, nat_lt, slice_index}
use Rattle.std.proofs.Math.Option.{none, some}
use Rattle.wire.specs.Zeros.{zeros}
use Rattle.wire.specs.Le.{le, le_bytes}
use Rattle.wire.specs.Order.{lt_key}
use Rattle.month.specs.Transfers.{FedTransfer, account_flag}
use Rattle.month.specs.Report.{ReportRow, Report, used, fed_into}

-- the transfer in the 150 bytes from `at` on; what stands behind a flag of 0 counts as zero
unfoldable pub transfer_at : List ℕ → ℕ → FedTransfer
transfer_at s at =
    record {
      mint = cond (slice_index s (at + 100) == 1) (1 ∷ take 32 (drop (at + 101) s)) (zeros 33);
      source = take 32 (drop (at + 36) s);
      destination = take 32 (drop (at + 68) s);
      amount = le 8 s (at + 133);
      fee = cond (slice_index s (at + 141) == 1) (some (le 8 s (at + 142))) none;
    }

-- the first n transfers of a table, and all of them
unfoldable pub transfers_to : List ℕ → ℕ → List FedTransfer
transfers_to s zero = []
transfers_to s (suc n) = transfers_to s n ++ (transfer_at s (n * 150) ∷ [])

unfoldable pub transfers_in : List ℕ → List FedTransfer
transfers_in s = transfers_to s (length s / 150)

-- the flags of the first n rows are 0 or 1
unfoldable pub flags_to : List ℕ → ℕ → Bool
flags_to s zero = true
flags_to s (suc n) = flags_to s n && (nat_le (slice_index s (n * 150 + 100)) 1 && nat_le (slice_index s (n * 150 + 141)) 1)

-- a table of whole rows, with flags of 0 or 1; any other is refused with 19
unfoldable pub good_table : List ℕ → Bool
good_table s = length s % 150 == 0 && flags_to s (length s / 150)

-- the row in the 118 bytes from `at` on
unfoldable pub report_row_at : List ℕ → ℕ → ReportRow
report_row_at s at = (
  take 66 (drop at s),
  record { debits = le 16 s (at + 66); credits = le 16 s (at + 82); fees = le 16 s (at + 98); apart = le 4 s (at + 114) },
)

-- the first n rows of a buffer
unfoldable pub rows_to : List ℕ → ℕ → Report
rows_to s zero = []
rows_to s (suc n) = rows_to s n ++ (report_row_at s (n * 118) ∷ [])

-- each line is below the next
unfoldable pub rises : Report → Bool
rises [] = true
rises (x ∷ []) = true
rises (x ∷ y ∷ r) = lt_key x.0 y.0 && rises (y ∷ r)

-- flags of 0 or 1, sums below 2 to the 96th, and a count of at most m transfers
unfoldable pub good_row : ℕ → ReportRow → Bool
good_row m x =
    nat_le (slice_index x.0 0) 1
    && (nat_le (account_flag x.0) 1
    && (nat_lt x.1.debits (2 ^ 96)
    && (nat_lt x.1.credits (2 ^ 96)
    && (nat_lt x.1.fees (2 ^ 96) && nat_le x.1.apart m))))

unfoldable pub good_rows : ℕ → Report → Bool
good_rows m [] = true
good_rows m (x ∷ r) = good_row m x && good_rows m r

-- a report of n rows after m transfers; any other is refused with 20
unfoldable pub good_report : List ℕ → ℕ → ℕ → Bool
good_report b n m = nat_le n (length b / 118) && (rises (rows_to b n) && good_rows m (rows_to b n))

-- a row as bytes: line, debits, credits, fees, count
unfoldable pub report_row_bytes : ReportRow → List ℕ
report_row_bytes x = x.0 ++ le_bytes 16 x.1.debits ++ le_bytes 16 x.1.credits ++ le_bytes 16 x.1.fees ++ le_bytes 4 x.1.apart

unfoldable pub report_bytes : Report → List ℕ
report_bytes [] = []
report_bytes (x ∷ r) = report_row_bytes x ++ report_bytes r

-- a report in a buffer of so many bytes: what follows its last row is 0
unfoldable pub written_report : Report → ℕ → List ℕ
written_report r size = report_bytes r ++ zeros (size - used r * 118)

-- a number, 0 where the table was fed; rows used, transfers fed and the buffer, as they stand then
pub record Books : Type 0 where
  pub number : ℕ
  pub rows : ℕ
  pub transfers : ℕ
  pub buffer : List ℕ

-- a refusal leaves all as it stood
unfoldable pub stays : ℕ → List ℕ → ℕ → ℕ → Books
stays k b n m = record { number = k; rows = n; transfers = m; buffer = b }

-- a report of m transfers in a buffer of so many bytes
unfoldable pub holds : Report → ℕ → ℕ → Books
holds r m size = record { number = 0; rows = used r; transfers = m; buffer = written_report r size }

-- the table t fed into the report of n rows in the buffer b after m transfers
unfoldable pub feed : List ℕ → ℕ → ℕ → List ℕ → Books
feed b n m t =
    cond (not (good_table t)) (stays 19 b n m)
    (cond (not (good_report b n m)) (stays 20 b n m)
    (cond (nat_lt (length b / 118) (used (fed_into (rows_to b n) (transfers_in t)))) (stays 9 b n m)
    (cond (nat_lt 4294967295 (m + length (transfers_in t))) (stays 10 b n m)
    (holds (fed_into (rows_to b n) (transfers_in t)) (m + length (transfers_in t)) (length b)))))

-- all transfers of some tables, in order
unfoldable pub transfers_of_all : List (List ℕ) → List FedTransfer
transfers_of_all [] = []
transfers_of_all (t ∷ tables) = transfers_in t ++ transfers_of_all tables
