-- Totals over all mint lines, and over all account lines, and what they come to. Assumes nothing.
use Rattle.std.specs.Prelude.{◌≡◌, ℕ, ◌+◌, List, length, nat_eq}
use Rattle.month.specs.Transfers.{FedTransfer, withheld, rest_of, account_flag}
use Rattle.month.specs.Sums.{Sums, sum, those, summed_in, others_in}
use Rattle.month.specs.Report.{ReportRow, Report}

-- the rows with an account flag f
abbrev pub rows_with : ℕ → Report → Report
rows_with f r = those (λ x. nat_eq (account_flag x.0) f) r

-- the total of a field over the rows with an account flag f
unfoldable pub total_of : (Sums → ℕ) → ℕ → Report → ℕ
total_of field f r = sum (λ (x : ReportRow). field x.1) (rows_with f r)

-- over all mint lines, and over all account lines
abbrev pub mint_total : (Sums → ℕ) → Report → ℕ
mint_total field r = total_of field 0 r

abbrev pub account_total : (Sums → ℕ) → Report → ℕ
account_total field r = total_of field 1 r

-- all amounts of the summed transfers, all that reached destinations, all fees
unfoldable pub amounts_in : List FedTransfer → ℕ
amounts_in ts = sum (λ t. t.amount) (summed_in ts)

unfoldable pub rests_in : List FedTransfer → ℕ
rests_in ts = sum rest_of (summed_in ts)

unfoldable pub fees_in : List FedTransfer → ℕ
fees_in ts = sum withheld (summed_in ts)

-- each total of a report is that of the list of transfers, and debits equal credits plus fees
pub record Balanced (ts : List FedTransfer) (r : Report) : Type 0 where
  pub mint_debits : mint_total (λ s. s.debits) r ≡ amounts_in ts
  pub mint_credits : mint_total (λ s. s.credits) r ≡ rests_in ts
  pub mint_fees : mint_total (λ s. s.fees) r ≡ fees_in ts
  pub mint_apart : mint_total (λ s. s.apart) r ≡ length (others_in ts)
  pub account_debits : account_total (λ s. s.debits) r ≡ amounts_in ts
  pub account_credits : account_total (λ s. s.credits) r ≡ rests_in ts
  pub account_fees : account_total (λ s. s.fees) r ≡ fees_in ts
  pub account_apart : account_total (λ s. s.apart) r ≡ 0
  pub mint_balance : mint_total (λ s. s.debits) r ≡ mint_total (λ s. s.credits) r + mint_total (λ s. s.fees) r
  pub account_balance : account_total (λ s. s.debits) r ≡ account_total (λ s. s.credits) r + account_total (λ s. s.fees) r
