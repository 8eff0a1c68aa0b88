-- The sums of a line over a list of transfers. Assumes nothing.
use Rattle.std.specs.Prelude.{ℕ, ◌+◌, ◌<◌, ◌≤◌, Bool, cond, not, List, [], ◌∷◌}
use Rattle.wire.specs.Same.{same}
use Rattle.month.specs.Transfers.{FedTransfer, summed, withheld, rest_of, Line, own, source_line, destination_line}

-- the sum of f over a list
unfoldable pub sum : {A : Type 0} → (A → ℕ) → List A → ℕ
sum f [] = 0
sum f (x ∷ l) = f x + sum f l

-- the elements that pass a test
unfoldable pub those : {A : Type 0} → (A → Bool) → List A → List A
those p [] = []
those p (x ∷ l) = cond (p x) (x ∷ those p l) (those p l)

-- the transfers that are summed, and those that are counted apart
abbrev pub summed_in : List FedTransfer → List FedTransfer
summed_in ts = those summed ts

abbrev pub others_in : List FedTransfer → List FedTransfer
others_in ts = those (λ t. not (summed t)) ts

-- n where k is the line l, else nothing
abbrev pub on : Line → Line → ℕ → ℕ
on k l n = cond (same k l) n 0

-- the source's line takes the amount as debit, and the mint's own line too
unfoldable pub debit_on : Line → FedTransfer → ℕ
debit_on k t = on k (own t) t.amount + on k (source_line t) t.amount

-- the destination's line takes the rest as credit, and the mint's own line too
unfoldable pub credit_on : Line → FedTransfer → ℕ
credit_on k t = on k (own t) (rest_of t) + on k (destination_line t) (rest_of t)

-- the destination's line takes the fee, and the mint's own line too
unfoldable pub fee_on : Line → FedTransfer → ℕ
fee_on k t = on k (own t) (withheld t) + on k (destination_line t) (withheld t)

-- the mint's own line alone counts a transfer apart
unfoldable pub apart_on : Line → FedTransfer → ℕ
apart_on k t = on k (own t) 1

-- a line's debits, credits and fees over the summed transfers of a list, and its count of the others
unfoldable pub debits_of : Line → List FedTransfer → ℕ
debits_of k ts = sum (debit_on k) (summed_in ts)

unfoldable pub credits_of : Line → List FedTransfer → ℕ
credits_of k ts = sum (credit_on k) (summed_in ts)

unfoldable pub fees_of : Line → List FedTransfer → ℕ
fees_of k ts = sum (fee_on k) (summed_in ts)

unfoldable pub apart_of : Line → List FedTransfer → ℕ
apart_of k ts = sum (apart_on k) (others_in ts)

-- what stands behind a line in its row
pub record Sums : Type 0 where
  pub debits : ℕ
  pub credits : ℕ
  pub fees : ℕ
  pub apart : ℕ

-- the sums of a line over a list
unfoldable pub sums_of : Line → List FedTransfer → Sums
sums_of k ts = record { debits = debits_of k ts; credits = credits_of k ts; fees = fees_of k ts; apart = apart_of k ts }

-- no sums, and sums added
unfoldable pub nothing : Sums
nothing = record { debits = 0; credits = 0; fees = 0; apart = 0 }

unfoldable pub plus : Sums → Sums → Sums
plus a b = record { debits = a.debits + b.debits; credits = a.credits + b.credits; fees = a.fees + b.fees; apart = a.apart + b.apart }

-- three sums below b, and a count of at most n
pub record Within (b n : ℕ) (s : Sums) : Type 0 where
  pub debits_below : s.debits < b
  pub credits_below : s.credits < b
  pub fees_below : s.fees < b
  pub apart_most : s.apart ≤ n
