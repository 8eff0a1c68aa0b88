-- Calls made one after the other on one buffer, as a month's closing makes them. Assumes nothing.
use Rattle.std.specs.Prelude.{◌≡◌, ℕ, ◌<◌, Bool, false, cond, ◌||◌, List, [], ◌∷◌, ◌++◌, map, ◌==◌, slice_index}
use mathlib.Core.List.{Memᴰ}
use Rattle.month.specs.Transfers.{FedTransfer}
use Rattle.month.specs.Bytes.{transfers_in}
use Rattle.month.specs.Call.{Feeds}
use Rattle.month.specs.declared.MonthAnswer.{MonthAnswer}

-- a call: the table handed in, the answer, and the buffer as the call left it
pub record MonthCall : Type 0 where
  pub table : List ℕ
  pub answer : MonthAnswer
  pub buffer : List ℕ

-- whether the table was fed, and not refused
unfoldable pub was_fed : MonthCall → Bool
was_fed k = k.answer.number == 0

-- calls on the buffer b, of n rows and after m transfers: each keeps its promise on what the one before left; d, p and q are what the last left
pub data Calls : List ℕ → ℕ → ℕ → List MonthCall → List ℕ → ℕ → ℕ → Type 0 where
  no_call : {b : List ℕ} {n m : ℕ} → Calls b n m [] b n m
  next_call : {b : List ℕ} {n m : ℕ} {k : MonthCall} {ks : List MonthCall} {d : List ℕ} {p q : ℕ}
      → ((i : ℕ) → slice_index k.table i < 256)
      → Feeds b n m k.table k.answer k.buffer
      → Calls k.buffer k.answer.rows k.answer.fed ks d p q
      → Calls b n m (k ∷ ks) d p q

-- the transfers of all tables that were fed, in order
unfoldable pub fed_by : List MonthCall → List FedTransfer
fed_by [] = []
fed_by (k ∷ ks) = cond (was_fed k) (transfers_in k.table) [] ++ fed_by ks

-- whether a table was fed at all
unfoldable pub some_fed : List MonthCall → Bool
some_fed [] = false
some_fed (k ∷ ks) = was_fed k || some_fed ks

-- no call was refused
abbrev pub NoneRefused : List MonthCall → Type 0
NoneRefused ks = (k : MonthCall) → Memᴰ k ks → k.answer.number ≡ 0

-- the tables handed in
abbrev pub tables_of : List MonthCall → List (List ℕ)
tables_of ks = map (λ k. k.table) ks
