-- How long rows and mints are as they are written, one row more, and what stays zero behind them.
-- Assumes nothing.
use mathlib.Core.Path.{◌≡◌, refl, sym, ap, ◌∙◌}
use mathlib.Core.Bool.{false}
use mathlib.Core.List.{List, [], ◌∷◌, ◌++◌, append_assoc, append-nil}
use Prim.Native.Nat.{ℕ, zero, suc, ◌+◌, ◌-◌, ◌*◌, ◌<◌, ◌≤◌}
use native.Mathlib.Numerals.{add-one}
use native.Mathlib.Omega.{arith}
use lib.Dec.{ltb}
use lib.ListN.{length, get_or, take, length-append, set}
use lib.Seq.{sets, take-suc, set-get_or, get_or-take}
use Rattle.wire.proofs.Sets.{sets-append, sets-after}
use Rattle.wire.specs.Zeros.{zeros}
use Rattle.wire.proofs.Zeros.{zeros-at}
use Rattle.ids.specs.Keys.{zero_key}
use Rattle.evidence.specs.MintTable.{MintRow}
use Rattle.mints.specs.declared.row.Row.{Row}
use Rattle.mints.specs.Bytes.{mint_width, mint_row}
use Rattle.mints.specs.Cells.{account_at, mint_at, state_at}
use Rattle.mints.specs.Order.{row_bytes, rows_bytes, shown_mint, mints_to, Blank}

-- zeros over zeros change nothing
sets-blank : (l : List ℕ) (i n : ℕ) → Blank l i → sets l i (zeros n) ≡ l
sets-blank l i zero f = refl
sets-blank l i (suc n) f =
    let e : set l i 0 ≡ l = ap (set l i) (sym (f i (omega arith))) ∙ set-get_or l i 0 in
    ap (λ (m : List ℕ). sets m (suc i) (zeros n)) e ∙ sets-blank l (suc i) n (λ k h. f k (omega arith))

-- a row with no mint leaves zeros as they are
pub mint-none : (l : List ℕ) (t : List Row) (i r : ℕ) → Blank l i → ltb 1 (state_at t r) ≡ false → l ≡ sets l i (shown_mint t r)
unfolding shown_mint zero_key
mint-none l t i r f h = rw h (sym (sets-blank l i 32 f))

-- 32 bytes for each key index
pub mints-more : (t : List Row) (row : List ℕ) (n : ℕ) → length (mints_to t row n) ≡ n * 32 → length (shown_mint t (get_or row n 0)) ≡ 32 → length (mints_to t row (n + 1)) ≡ (n + 1) * 32
unfolding mints_to
mints-more t row n l e = rw (add-one, length-append) (omega (arith, l, e))

-- the mints of fewer indexes
pub mints-take : (t : List Row) (row : List ℕ) (n i : ℕ) → i ≤ n → mints_to t (take n row) i ≡ mints_to t row i
unfolding mints_to
mints-take t row n zero h = refl
mints-take t row n (suc i) h = rw (mints-take t row n i (omega arith), get_or-take n row i 0 (omega arith))

-- what follows the mints that are written over zeros
pub mints-blank : (out : List ℕ) (t : List Row) (row : List ℕ) (n : ℕ) → length (mints_to t row n) ≡ n * 32 → out ≡ zeros (length out) → Blank (sets out 0 (mints_to t row n)) (n * 32)
mints-blank out t row n l e k h =
    sets-after out 0 (mints_to t row n) k (omega (arith, l)) ∙ (ap (λ (l : List ℕ). get_or l k 0) e ∙ zeros-at (length out) k)

-- a row of the mint table has the width of the table, where its account and its mint are keys
pub mint-row-length : (r : MintRow) → length r.0 ≡ 32 → length r.1 ≡ 32 → length (mint_row r) ≡ mint_width
mint-row-length r a m = simp length-append (omega arith)

pub row-length : (t : List Row) (r : ℕ) → length (account_at t r) ≡ 32 → length (mint_at t r) ≡ 32 → length (row_bytes t r) ≡ mint_width
unfolding row_bytes
row-length t r a m = simp length-append (omega arith)

rows_append : (t : List Row) (l k : List ℕ) → rows_bytes t (l ++ k) ≡ rows_bytes t l ++ rows_bytes t k
unfolding rows_bytes
rows_append t [] k = refl
rows_append t (r ∷ l) k = rw (rows_append t l k, append_assoc)

-- one row more
pub rows_next : (t : List Row) (l : List ℕ) (j : ℕ) → j < length l → rows_bytes t (take (j + 1) l) ≡ rows_bytes t (take j l) ++ row_bytes t (get_or l j 0)
unfolding rows_bytes
rows_next t l j h = rw (add-one, take-suc l j 0 h, rows_append, append-nil)

-- and their bytes
pub rows-more : (t : List Row) (l : List ℕ) (j : ℕ) → j < length l → length (rows_bytes t (take j l)) ≡ j * mint_width → length (row_bytes t (get_or l j 0)) ≡ mint_width → length (rows_bytes t (take (j + 1) l)) ≡ (j + 1) * mint_width
rows-more t l j h e f = rw (rows_next t l j h, length-append) (omega (arith, e, f))

-- a row is its account, its mint and its mark
pub row_put : (out : List ℕ) (t : List Row) (i r : ℕ) → length (account_at t r) ≡ 32 → length (mint_at t r) ≡ 32 → set (sets (sets out i (account_at t r)) (i + 32) (mint_at t r)) (i + 64) (state_at t r - 2) ≡ sets out i (row_bytes t r)
unfolding row_bytes
row_put out t i r a m =
    let e : length (account_at t r ++ mint_at t r) ≡ 64 = rw length-append (omega (arith, a, m)) in
    rw (sets-append, e, sets-append, a)
