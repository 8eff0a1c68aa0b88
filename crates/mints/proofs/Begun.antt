-- The table before any evidence: all keys have their rows, and no row has a mint, because a table of zeros has none and laying a key writes none.
-- Assumes nothing.
use mathlib.Core.Path.{◌≡◌, refl, sym, ap, ◌∙◌}
use mathlib.Core.Logic.{by_cases}
use mathlib.Core.Option.{none-ne-some}
use mathlib.Core.List.{List, []}
use Prim.Native.Nat.{ℕ, zero, suc, ◌≤◌, ◌<◌}
use native.Mathlib.Decide.{ℕ_discrete, dec_lt}
use native.Mathlib.Omega.{arith}
use lib.ListN.{length, get_or, length-set, length-replicate, replicate}
use Rattle.wire.specs.Zeros.{zeros}
use Rattle.wire.proofs.Zeros.{zeros-at}
use Rattle.ids.specs.Keys.{Key, zero_key}
use Rattle.evidence.specs.Table.{lookup}
use Rattle.mints.specs.declared.row.Row.{Row}
use Rattle.mints.specs.declared.row.State.TheVariants.{Ambiguous}
use Rattle.std.proofs.lemmas.List.{get_or-replicate, get_or_past}
use Rattle.mints.specs.Cells.{blank_row, no_row, number_of, account_at, state_at, state_says, first_row, with_state}
use Rattle.mints.specs.Lay.{KeyRows, lay_at, lay_key, lay_to, laid}
use Rattle.mints.proofs.Fields.{account-state, state-here, state-other, length-state}
use Rattle.mints.proofs.Holding.{RowsApart, HoldsRows}
use Rattle.mints.proofs.Laid.{Rows, laid_next}

blank-account : (n r : ℕ) → r < n → account_at (replicate n blank_row) r ≡ zero_key
blank-account n r h = ap (λ (x : Row). x.account) (get_or-replicate n r blank_row no_row h)

blank-state : (n r : ℕ) → state_at (replicate n blank_row) r ≡ 0
unfolding number_of
blank-state n r =
    by_cases
    (dec_lt r n)
    (λ (h : r < n). ap (λ (x : Row). number_of x.state) (get_or-replicate n r blank_row no_row h))
    (λ (h : ¬ (r < n)). ap (λ (x : Row). number_of x.state) (get_or_past (replicate n blank_row) r no_row (omega (arith, length-replicate n blank_row))))

lay-wide : (κ : ℕ → Key) (t : List Row) (row : List ℕ) (i : ℕ) → length (lay_to κ t row i).row ≡ length row
unfolding lay_to lay_key lay_at
lay-wide κ t row zero = refl
lay-wide κ t row (suc i) = length-set (lay_to κ t row i).row i (first_row (lay_to κ t row i).table (κ i) (lay_to κ t row i).rows) ∙ lay-wide κ t row i

-- all keys have their rows
pub laid-rows : (κ : ℕ → Key) → (size wide i : ℕ) → i ≤ wide → suc i ≤ size → Rows κ size i (laid κ (replicate size blank_row) (zeros wide) i)
unfolding lay_to number_of
laid-rows κ size wide zero h r =
    record {
      whole = length-state (replicate size blank_row) 0 Ambiguous ∙ length-replicate size blank_row;
      few = omega arith;
      some_row = omega arith;
      zero_row = account-state (replicate size blank_row) 0 Ambiguous 0 ∙ blank-account size 0 (omega arith);
      apart = λ r q a b e. omega arith;
      first = state-here (replicate size blank_row) 0 Ambiguous (simp length-replicate (omega arith));
      none = λ r l. state-other (replicate size blank_row) 0 Ambiguous r (omega arith) ∙ blank-state size r;
      row = λ j m. absurd (omega arith);
      rest = λ j m. zeros-at wide j;
    }
laid-rows κ size wide (suc i) h r =
    laid_next
    κ
    size
    i
    (laid κ (replicate size blank_row) (zeros wide) i)
    (laid-rows κ size wide i (omega arith) (omega arith))
    (omega (arith, lay-wide κ (with_state (replicate size blank_row) 0 Ambiguous) (zeros wide) i, length-replicate {A = ℕ} wide 0))
    r

-- each key index has its row, also past the keys, where the key is zero
pub row-right : {κ : ℕ → Key} {size c : ℕ} {s : KeyRows} → Rows κ size c s → ((j : ℕ) → c ≤ j → κ j ≡ zero_key) → (j : ℕ) → (get_or s.row j 0 < s.rows) × (account_at s.table (get_or s.row j 0) ≡ κ j)
row-right {c} h z j =
    by_cases
    (dec_lt j c)
    (λ (l : j < c). h.row j l)
    (λ (l : ¬ (j < c)). rw (h.rest j (omega arith)) (h.some_row, h.zero_row ∙ sym (z j (omega arith))))

-- the rows have different accounts, and no mints
pub laid-apart : {κ : ℕ → Key} {size c : ℕ} {s : KeyRows} → Rows κ size c s → RowsApart s.rows (account_at s.table)
laid-apart h = record { some_row = h.some_row; zero_row = h.zero_row; apart = λ r q. h.apart r q }

pub laid-holds : {κ : ℕ → Key} {size c : ℕ} {s : KeyRows} → Rows κ size c s → suc c ≤ size → HoldsRows 2 s.rows (account_at s.table) s.table []
unfolding state_says lookup
laid-holds {s} h r =
    record {
      long = omega (arith, h.few, h.whole);
      account = λ q l. refl;
      first = h.first;
      low = λ q l. by_cases (ℕ_discrete q 0) (λ z. omega (arith, ap (λ (k : ℕ). state_at s.table k) z ∙ h.first)) (λ z. omega (arith, h.none q (omega arith)));
      said = λ q z l. rw (h.none q z);
      mint = λ q l g. absurd (by_cases (ℕ_discrete q 0) (λ z. omega (arith, ap (λ (k : ℕ). state_at s.table k) z ∙ h.first)) (λ z. omega (arith, h.none q (omega arith))));
      cover = λ a m e. absurd (none-ne-some m e);
    }
