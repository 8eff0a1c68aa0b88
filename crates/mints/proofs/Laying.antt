-- One key more in the table: a search and what is stored after it are one step of the definition, and the last bytes of all rows stay marked.
-- Assumes nothing.
use mathlib.Core.Path.{◌≡◌, refl, sym, ap, ◌∙◌}
use mathlib.Core.Logic.{◌≢◌}
use mathlib.Core.Bool.{Bool, true, false, cond}
use mathlib.Core.List.{List}
use Prim.Native.Nat.{ℕ, suc, ◌+◌, ◌≤◌, ◌<◌}
use native.Mathlib.Numerals.{add-one}
use native.Mathlib.Omega.{arith}
use borrow.Author.Tests.{eqb-true, eqb-false, eq-eqb, ne_eqb, ltb-true, ltb-false}
use lib.Dec.{ltb, eqb}
use lib.ListN.{length, get_or, set, take}
use lib.Seq.{get_or-set_same, get_or-set_other, length-take-le}
use Rattle.std.specs.Prelude.{Option, Some, None, is_some, unwrap_or}
use Rattle.mints.proofs.Search.{search-before, within}
use Rattle.mints.specs.declared.row.Row.{Row}
use Rattle.mints.proofs.Fields.{account-other, account-here}
use Rattle.ids.specs.Keys.{Key}
use Rattle.mints.specs.Cells.{account_at, first_row, with_account, LastBytesSeen}
use Rattle.mints.specs.Lay.{found_row, KeyRows, lay_at, lay_key, lay_to}

-- a search and what follows from it
pub lay-next : (κ : ℕ → Key) (t : List Row) (row : List ℕ) (i : ℕ) (s : KeyRows) {k : Key} {r n : ℕ} {u : List Row} → lay_to κ t row i ≡ s → k ≡ κ i → r ≡ first_row s.table k s.rows
    → u ≡ cond (eqb r s.rows) (with_account s.table r k) s.table
    → n ≡ cond (eqb r s.rows) (suc s.rows) s.rows
    → lay_to κ t row (i + 1) ≡ record { table = u; row = set s.row i r; rows = n }
unfolding lay_to lay_key lay_at
lay-next κ t row i s e f g h j = rw (add-one i, e, ← f, ← g, ← h, ← j)

-- a search in the n rows that are laid, as what it is in the whole table; and what is added where it found none
pub laid-by-search : (t : List Row) (k : Key) (n : ℕ) {found : Option ℕ} {r m : ℕ} {u : List Row} → n ≤ length t → found ≡ found_row (take n t) k → r ≡ unwrap_or found n
    → u ≡ cond (is_some found) t (with_account t n k)
    → m ≡ cond (is_some found) n (suc n)
    → (r ≡ first_row t k n) × (u ≡ cond (eqb r n) (with_account t r k) t) × (m ≡ cond (eqb r n) (suc n) n)
unfolding found_row
laid-by-search t k n h e hr hu hm = rw (hr, hu, hm, e, searched) (go (ltb first n) refl)
  where
    first : ℕ
    first = first_row t k n

    searched : found_row (take n t) k ≡ cond (ltb first n) (Some first) None
    searched = rw (length-take-le n t h, search-before t n k n 0 (omega arith)) refl

    go : (b : Bool) → ltb first n ≡ b
        → (unwrap_or (cond b (Some first) None) n ≡ first)
        × (cond (is_some (cond b (Some first) None)) t (with_account t n k) ≡ cond (eqb (unwrap_or (cond b (Some first) None) n) n) (with_account t (unwrap_or (cond b (Some first) None) n) k) t)
        × (cond (is_some (cond b (Some first) None)) n (suc n) ≡ cond (eqb (unwrap_or (cond b (Some first) None) n) n) (suc n) n)
    go true p =
        let other = ne_eqb first n (λ q. omega (arith, ltb-true first n p, q)) in
        (refl, rw other refl, rw other refl)
    go false p =
        let same = eq-eqb n n refl in
        (omega (arith, ltb-false first n p, within t k n 0), rw same refl, rw same refl)

pub found-within : (t : List Row) (k : Key) (n : ℕ) {found : Option ℕ} {r : ℕ} → n ≤ length t → found ≡ found_row (take n t) k → r ≡ unwrap_or found n → r ≤ n
found-within t k n h e hr = omega (arith, (laid-by-search t k n h e hr refl refl).0, within t k n 0)

-- at most one row more
pub one-row : (r n : ℕ) → cond (eqb r n) (suc n) n ≤ suc n
one-row r n = go (eqb r n)
  where
    go : (b : Bool) → cond b (suc n) n ≤ suc n
    go true = omega arith
    go false = omega arith

-- a place that is marked stays so, and place b has a mark
marked : (ends : List ℕ) (b x : ℕ) → b < length ends → (x ≢ b → get_or ends x 0 ≢ 0) → get_or (set ends b 1) x 0 ≢ 0
marked ends b x h f e = go (eqb x b) refl
  where
    go : (c : Bool) → eqb x b ≡ c → ⊥
    go true q = omega (arith, sym (get_or-set_same ends b 1 0 h) ∙ ap (λ (y : ℕ). get_or (set ends b 1) y 0) (sym (eqb-true x b q)) ∙ e)
    go false q = f (eqb-false x b q) (sym (get_or-set_other ends b x 1 0 (eqb-false x b q)) ∙ e)

-- the last byte of row 0
pub ends-first : (t : List Row) (ends : List ℕ) {b : ℕ} → b ≡ get_or (account_at t 0) 31 0 → b < length ends → LastBytesSeen t 1 (set ends b 1)
ends-first t ends {b} e h r l =
    let z : r ≡ 0 = omega arith in
    marked ends b _ h (λ n. absurd (n (ap (λ (q : ℕ). get_or (account_at t q) 31 0) z ∙ sym e)))

-- and of one key more
pub ends_more : (t : List Row) (k ends : List ℕ) (n r : ℕ) {b m : ℕ} {u : List Row} → LastBytesSeen t n ends → suc n ≤ length t → b ≡ get_or k 31 0 → b < length ends
    → u ≡ cond (eqb r n) (with_account t r k) t
    → m ≡ cond (eqb r n) (suc n) n
    → LastBytesSeen u m (set ends b 1)
ends_more t k ends n r {b} f fits e h hu hm = rw (hu, hm) (go (eqb r n) refl)
  where
    old : (q : ℕ) → q < n → r ≡ n → get_or (set ends b 1) (get_or (account_at (with_account t r k) q) 31 0) 0 ≢ 0
    old q l s = rw (account-other t r k q (omega arith)) (marked ends b _ h (λ _. f q l))

    new : (q : ℕ) → q ≡ r → r ≡ n → get_or (set ends b 1) (get_or (account_at (with_account t r k) q) 31 0) 0 ≢ 0
    new q s z = rw (s, account-here t r k (omega arith)) (marked ends b _ h (λ x. absurd (x (sym e))))

    among : (q : ℕ) → q < suc n → r ≡ n → (c : Bool) → ltb q n ≡ c → get_or (set ends b 1) (get_or (account_at (with_account t r k) q) 31 0) 0 ≢ 0
    among q l s true z = old q (ltb-true q n z) s
    among q l s false z =
        let g = ltb-false q n z in
        new q (omega arith) s

    go : (c : Bool) → eqb r n ≡ c → LastBytesSeen (cond c (with_account t r k) t) (cond c (suc n) n) (set ends b 1)
    go true s q l = among q l (eqb-true r n s) (ltb q n) refl
    go false s q l = marked ends b _ h (λ _. f q l)
