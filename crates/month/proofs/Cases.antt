-- Worked cases: seven transfers, the report of them and its totals; and each answer of a feed, as bytes. Assumes nothing.
use Rattle.std.proofs.Common.{◌≡◌, ℕ, List, [], ◌∷◌, ◌++◌, replicate, refl}
use mathlib.Core.Option.{Option, none, some}
use Rattle.wire.specs.Same.{same}
use Rattle.wire.specs.Zeros.{zeros}
use Rattle.wire.specs.Le.{le_bytes}
use Rattle.ids.specs.Keys.{Key}
use Rattle.wire.specs.Order.{lt_key}
use Rattle.month.specs.Transfers.{FedTransfer, covered, summed, known, withheld, rest_of, Line, mint_line, account_line, own, source_line, destination_line, touched}
use Rattle.month.specs.Sums.{sum, those, debit_on, credit_on, fee_on, apart_on, debits_of, credits_of, fees_of, apart_of, sums_of, nothing, plus}
use Rattle.month.specs.Report.{ReportRow, Report, lines_in, enter, ascending, report_of, held_on, fed_into}
use Rattle.month.specs.Totals.{total_of, mint_total, account_total}
use Rattle.month.specs.Bytes.{transfer_at, transfers_to, transfers_in, flags_to, good_table, rows_to, rises, good_rows, good_report, report_row_bytes, report_bytes, written_report, stays, holds, feed}

-- a mint, the mint of 32 zeros, no mint; two accounts
unfoldable M : List ℕ
M = 1 ∷ replicate 32 7

unfoldable Z : List ℕ
Z = 1 ∷ zeros 32

unfoldable N : List ℕ
N = zeros 33

unfoldable A : Key
A = replicate 32 1

unfoldable B : Key
B = replicate 32 2

unfoldable moves : List ℕ → Key → Key → ℕ → Option ℕ → FedTransfer
moves m s d n f = record { mint = m; source = s; destination = d; amount = n; fee = f }

-- a plain fee; a fee that is the whole, from B to itself; no fee known; a fee above the amount; the absent mint; the zero mint; back again
unfoldable early : List FedTransfer
early = moves M A B 100 (some 3) ∷ moves M B B 50 (some 50) ∷ moves M A B 5 none ∷ []

unfoldable late : List FedTransfer
late = moves N A B 9 (some 10) ∷ moves N A B 9 (some 9) ∷ moves Z B A 1 (some 0) ∷ moves M B A 7 (some 0) ∷ []

unfoldable row : Line → ℕ → ℕ → ℕ → ℕ → ReportRow
row k d c f a = (k, record { debits = d; credits = c; fees = f; apart = a })

unfoldable expected : Report
expected =
    row (mint_line N) 9 0 9 1
    ∷ row (account_line N A) 9 0 0 0
    ∷ row (account_line N B) 0 0 9 0
    ∷ row (mint_line Z) 1 1 0 0
    ∷ row (account_line Z A) 0 1 0 0
    ∷ row (account_line Z B) 1 0 0 0
    ∷ row (mint_line M) 157 104 53 1
    ∷ row (account_line M A) 100 7 0 0
    ∷ row (account_line M B) 57 97 53 0
    ∷ []

as-expected : report_of (early ++ late) ≡ expected
unfolding M Z N A B moves early late row expected report_of lines_in touched enter ascending lt_key same sums_of debits_of credits_of fees_of apart_of debit_on credit_on fee_on apart_on sum those summed covered known withheld rest_of own source_line destination_line
as-expected = refl

-- the same from two tables, the later one first
fed-expected : fed_into (fed_into [] late) early ≡ expected
unfolding M Z N A B moves early late row expected fed_into held_on plus nothing lines_in touched enter ascending lt_key same sums_of debits_of credits_of fees_of apart_of debit_on credit_on fee_on apart_on sum those summed covered known withheld rest_of own source_line destination_line
fed-expected = refl

mint_debits : mint_total (λ s. s.debits) expected ≡ 167
unfolding M Z N A B row expected total_of sum those
mint_debits = refl

account_fees : account_total (λ s. s.fees) expected ≡ 62
unfolding M Z N A B row expected total_of sum those
account_fees = refl

-- a partial row; more rows used than the buffer has; no room for a row; a transfer too many
partial-row : (feed [] 0 0 (zeros 149)).number ≡ 19
unfolding feed good_table flags_to stays
partial-row = refl

past-the-buffer : (feed (zeros 117) 1 0 []).number ≡ 20
unfolding feed good_table flags_to good_report stays
past-the-buffer = refl

no_room : (feed (zeros 117) 0 0 (zeros 150)).number ≡ 9
unfolding feed good_table flags_to good_report good_rows rises rows_to transfers_in transfers_to transfer_at fed_into lines_in touched summed covered own enter ascending stays
no_room = refl

one-too-many : (feed (zeros 118) 0 4294967295 (zeros 150)).number ≡ 10
unfolding feed good_table flags_to good_report good_rows rises rows_to transfers_in transfers_to transfer_at fed_into lines_in touched summed covered own enter ascending stays
one-too-many = refl

-- a row of zeros is a transfer of no mint with no fee known: counted apart, and the byte after the row becomes 0
counted : feed (replicate 119 7) 0 0 (zeros 150) ≡ record { number = 0; rows = 1; transfers = 1; buffer = zeros 114 ++ (1 ∷ zeros 4) }
unfolding feed good_table flags_to good_report good_rows rises rows_to transfers_in transfers_to transfer_at fed_into held_on plus nothing lines_in touched summed covered own enter ascending sums_of debits_of credits_of fees_of apart_of apart_on sum those same written_report report_bytes report_row_bytes le_bytes holds
counted = refl

-- an empty table clears the buffer of an empty report
cleared : (feed (replicate 3 7) 0 0 []).buffer ≡ zeros 3
unfolding feed good_table flags_to good_report good_rows rises rows_to transfers_in transfers_to fed_into lines_in ascending written_report report_bytes holds
cleared = refl

-- a mint flag of 2, and a fee flag of 2
mint-flag : (feed [] 0 0 (zeros 100 ++ (2 ∷ zeros 49))).number ≡ 19
unfolding feed good_table flags_to stays
mint-flag = refl

fee-flag : (feed [] 0 0 (zeros 141 ++ (2 ∷ zeros 8))).number ≡ 19
unfolding feed good_table flags_to stays
fee-flag = refl
