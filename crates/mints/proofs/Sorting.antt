-- The place of a row among the ordered rows, which rows these are, and that they ascend: each is put in before the first that is greater.
-- Assumes nothing.
use mathlib.Core.Path.{◌≡◌, refl, sym, ap, ◌∙◌}
use mathlib.Core.Logic.{◌⊎◌, inl, inr, ⊎_elim, by_cases}
use native.Mathlib.Decide.{dec_lt}
use mathlib.Core.Bool.{Bool, true, false, cond, false≢true}
use mathlib.Core.List.Memᴰ
use mathlib.Core.List.{List, [], ◌∷◌, Memᴰ}
use Prim.Native.Nat.{ℕ, zero, suc, ◌+◌, ◌≤◌, ◌<◌}
use native.Mathlib.Nat.{not-suc-le-zero, le_of_suc-le-suc, eq-or-lt_of_le}
use native.Mathlib.Numerals.{add-one}
use native.Mathlib.Omega.{arith}
use borrow.Author.Tests.{ltb-true, lt-ltb}
use lib.Dec.{ltb}
use lib.Seq.{length-take-le}
use Rattle.std.proofs.lemmas.List.{get_or-take}
use Rattle.mints.proofs.Search.{account-before}
use lib.ListN.{length, get_or, take, length-append, length-take, length-drop, get_or-eq_default}
use Rattle.wire.specs.Order.{lt_key, Below}
use Rattle.wire.proofs.Order.{below-trans, Order, order, less, level, more, lt_key-below, lt_key-above, lt_key-true}
use Rattle.wire.proofs.Ascending.{put-mem, mem-put}
use Rattle.ids.specs.Keys.{Key}
use Rattle.mints.specs.declared.row.Row.{Row}
use Rattle.mints.specs.Cells.{no_row, number_of, account_at, state_at, Fits}
use Rattle.mints.specs.Order.{spot_in, Rising, rising_nil, rising_cons, put_in, sort_to}

pub spot-bound : (t : List Row) (r : ℕ) (l : List ℕ) → spot_in t r l ≤ length l
unfolding spot_in
spot-bound t r [] = omega arith
spot-bound t r (q ∷ l) = go (lt_key (account_at t r) (account_at t q)) (spot-bound t r l)
  where
    go : (b : Bool) → spot_in t r l ≤ length l → cond b 0 (suc (spot_in t r l)) ≤ suc (length l)
    go true h = omega arith
    go false h = omega arith

-- the rows before the place of a row do not have a greater account, and the row at the place does
pub spot-before : (t : List Row) (r : ℕ) (l : List ℕ) (i : ℕ) → i < spot_in t r l → lt_key (account_at t r) (account_at t (get_or l i 0)) ≡ false
unfolding spot_in
spot-before t r [] i h = absurd (omega arith)
spot-before t r (q ∷ l) i h = go (lt_key (account_at t r) (account_at t q)) refl i h (λ k. spot-before t r l k)
  where
    go : (b : Bool) → lt_key (account_at t r) (account_at t q) ≡ b → (i : ℕ) → i < cond b 0 (suc (spot_in t r l)) → ((k : ℕ) → k < spot_in t r l → lt_key (account_at t r) (account_at t (get_or l k 0)) ≡ false) → lt_key (account_at t r) (account_at t (get_or (q ∷ l) i 0)) ≡ false
    go true e i h f = absurd (omega arith)
    go false e zero h f = e
    go false e (suc i) h f = f i (omega arith)

pub spot-at : (t : List Row) (r : ℕ) (l : List ℕ) → spot_in t r l < length l → lt_key (account_at t r) (account_at t (get_or l (spot_in t r l) 0)) ≡ true
unfolding spot_in
spot-at t r [] h = absurd (omega arith)
spot-at t r (q ∷ l) h = go (lt_key (account_at t r) (account_at t q)) refl h (λ k. spot-at t r l k)
  where
    go : (b : Bool) → lt_key (account_at t r) (account_at t q) ≡ b → cond b 0 (suc (spot_in t r l)) < suc (length l) → (spot_in t r l < length l → lt_key (account_at t r) (account_at t (get_or l (spot_in t r l) 0)) ≡ true) → lt_key (account_at t r) (account_at t (get_or (q ∷ l) (cond b 0 (suc (spot_in t r l))) 0)) ≡ true
    go true e h f = e
    go false e h f = f (omega arith)

pub get_or-mem : (l : List ℕ) (i : ℕ) → i < length l → Memᴰ (get_or l i 0) l
get_or-mem [] i h = absurd (not-suc-le-zero h)
get_or-mem (x ∷ l) zero h = Memᴰ.head refl
get_or-mem (x ∷ l) (suc i) h = Memᴰ.tail (get_or-mem l i (le_of_suc-le-suc h))

-- a key below another is below what is not below that one
below-others : (a b c : Key) → lt_key a b ≡ true → lt_key c b ≡ false → Below a c
below-others a b c e f = go (order c b)
  where
    go : Order c b → Below a c
    go (less h) = absurd (false≢true (sym f ∙ lt_key-below h))
    go (level q) = rw q (lt_key-true a b e)
    go (more h) = below-trans (lt_key-true a b e) h

module _ (t : List Row) (r : ℕ) where
  -- a row with a greater account is not before the place
  pub spot-low : (l : List ℕ) (i : ℕ) → lt_key (account_at t r) (account_at t (get_or l i 0)) ≡ true → spot_in t r l ≤ i
  spot-low l i e =
      by_cases
      (dec_lt i (spot_in t r l))
      (λ (h : i < spot_in t r l). absurd (false≢true (sym (spot-before t r l i h) ∙ e)))
      (λ (h : ¬ (i < spot_in t r l)). omega arith)

  -- a row without is, where the rows ascend
  pub spot-high : {l : List ℕ} (i : ℕ) → Rising t l → i < length l → lt_key (account_at t r) (account_at t (get_or l i 0)) ≡ false → i < spot_in t r l
  unfolding spot_in
  spot-high i rising_nil h e = absurd (not-suc-le-zero h)
  spot-high i (rising_cons {r = q} {l} f s) h e = go (lt_key (account_at t r) (account_at t q)) refl i h e (λ j. spot-high j s)
    where
      go : (b : Bool) → lt_key (account_at t r) (account_at t q) ≡ b → (i : ℕ) → i < suc (length l) → lt_key (account_at t r) (account_at t (get_or (q ∷ l) i 0)) ≡ false → ((j : ℕ) → j < length l → lt_key (account_at t r) (account_at t (get_or l j 0)) ≡ false → j < spot_in t r l) → i < cond b 0 (suc (spot_in t r l))
      go true g zero h e k = absurd (false≢true (sym e ∙ g))
      go true g (suc i) h e k = absurd (false≢true (sym e ∙ lt_key-below (below-others (account_at t r) (account_at t q) (account_at t (get_or l i 0)) g (f (get_or l i 0) (get_or-mem l i (le_of_suc-le-suc h))))))
      go false g zero h e k = omega arith
      go false g (suc i) h e k = omega (arith, k i (le_of_suc-le-suc h) e)

  -- a row put in at its place
  rising-put : {l : List ℕ} → Rising t l → Rising t (put_in l (spot_in t r l) r)
  unfolding spot_in
  rising-put rising_nil = rising_cons (λ q i. absurd (Memᴰ.not-nil i)) rising_nil
  rising-put (rising_cons {r = q} {l} f s) = go (lt_key (account_at t r) (account_at t q)) refl (rising-put s)
    where
      after : lt_key (account_at t r) (account_at t q) ≡ true → (x : ℕ) → (x ≡ q) ⊎ Memᴰ x l → lt_key (account_at t x) (account_at t r) ≡ false
      after e x (inl p) = rw p (lt_key-above (lt_key-true (account_at t r) (account_at t q) e))
      after e x (inr i) = lt_key-above (below-others (account_at t r) (account_at t q) (account_at t x) e (f x i))

      before : lt_key (account_at t r) (account_at t q) ≡ false → (x : ℕ) → (x ≡ r) ⊎ Memᴰ x l → lt_key (account_at t x) (account_at t q) ≡ false
      before e x (inl p) = rw p e
      before e x (inr i) = f x i

      go : (b : Bool) → lt_key (account_at t r) (account_at t q) ≡ b → Rising t (put_in l (spot_in t r l) r) → Rising t (put_in (q ∷ l) (cond b 0 (suc (spot_in t r l))) r)
      go true e p = rising_cons (λ x i. after e x (Memᴰ.cases_cons i)) (rising_cons f s)
      go false e p = rising_cons (λ x i. before e x (put-mem r (spot_in t r l) l i)) p

pub put-length : (l : List ℕ) (j r : ℕ) → j ≤ length l → length (put_in l j r) ≡ suc (length l)
put-length l j r h = simp (length-append, length-take, length-drop) (omega arith)

module _ (t : List Row) where
  pub sort-skip : (r : ℕ) → ltb 1 (state_at t r) ≡ false → sort_to t (r + 1) ≡ sort_to t r
  unfolding sort_to
  sort-skip r h = rw (add-one r, h)

  pub sort-next : (r : ℕ) → ltb 1 (state_at t r) ≡ true → sort_to t (r + 1) ≡ put_in (sort_to t r) (spot_in t r (sort_to t r)) r
  unfolding sort_to
  sort-next r h = rw (add-one r, h)

  -- the ordered rows are those with a mint
  pub sorted-mem : {q : ℕ} (n : ℕ) → Memᴰ q (sort_to t n) → (q < n) × (1 < state_at t q)
  unfolding sort_to
  sorted-mem zero i = absurd (Memᴰ.not-nil i)
  sorted-mem {q} (suc r) i = go (ltb 1 (state_at t r)) refl (λ k. sorted-mem r k) i
    where
      below : (Memᴰ q (sort_to t r) → (q < r) × (1 < state_at t q)) → Memᴰ q (sort_to t r) → (q < suc r) × (1 < state_at t q)
      below f k = let h = f k in (omega (arith, h.0), h.1)

      go : (b : Bool) → ltb 1 (state_at t r) ≡ b → (Memᴰ q (sort_to t r) → (q < r) × (1 < state_at t q)) → Memᴰ q (cond b (put_in (sort_to t r) (spot_in t r (sort_to t r)) r) (sort_to t r)) → (q < suc r) × (1 < state_at t q)
      go false e f k = below f k
      go true e f k =
          ⊎_elim
          (λ (p : q ≡ r). (omega arith, rw p (ltb-true _ _ e)))
          (λ m. below f m)
          (put-mem r (spot_in t r (sort_to t r)) (sort_to t r) k)

  pub mem-sorted : {q : ℕ} (n : ℕ) → q < n → 1 < state_at t q → Memᴰ q (sort_to t n)
  unfolding sort_to
  mem-sorted zero h s = absurd (not-suc-le-zero h)
  mem-sorted {q} (suc r) h s = go (ltb 1 (state_at t r)) refl (eq-or-lt_of_le (le_of_suc-le-suc h)) (λ k. mem-sorted r k s)
    where
      go : (b : Bool) → ltb 1 (state_at t r) ≡ b → (q ≡ r) ⊎ (q < r) → (q < r → Memᴰ q (sort_to t r)) → Memᴰ q (cond b (put_in (sort_to t r) (spot_in t r (sort_to t r)) r) (sort_to t r))
      go true e (inl p) f = mem-put r (spot_in t r (sort_to t r)) (sort_to t r) (inl p)
      go true e (inr k) f = mem-put r (spot_in t r (sort_to t r)) (sort_to t r) (inr (f k))
      go false e (inl p) f = absurd (clash e (rw p at s))
        where
          clash : ltb 1 (state_at t r) ≡ false → ¬ (1 < state_at t r)
          clash e k = let z : ◌≡◌ {A = ℕ} 0 1 = absurd (false≢true (sym e ∙ lt-ltb _ _ k)) in omega arith
      go false e (inr k) f = f k

-- the order of the first n rows is told by these alone
module _ (t : List Row) (n : ℕ) where
  spot-alone : (r : ℕ) → r < n → (l : List ℕ) → ((q : ℕ) → Memᴰ q l → q < n) → spot_in (take n t) r l ≡ spot_in t r l
  unfolding spot_in
  spot-alone r h [] f = refl
  spot-alone r h (q ∷ l) f = rw (account-before t n r h, account-before t n q (f q (Memᴰ.head refl)), spot-alone r h l (λ x i. f x (Memᴰ.tail i))) refl

  sort-alone : (m : ℕ) → m ≤ n → sort_to (take n t) m ≡ sort_to t m
  unfolding sort_to
  sort-alone zero h = refl
  sort-alone (suc r) h =
      let state : state_at (take n t) r ≡ state_at t r = ap (λ (x : Row). number_of x.state) (get_or-take n t r no_row (omega arith)) in
      let spot = spot-alone r (omega arith) (sort_to t r) (λ q i. omega (arith, (sorted-mem t r i).0)) in
      rw (state, sort-alone r (omega arith), spot) refl

  pub sort-first : n ≤ length t → sort_to (take n t) (length (take n t)) ≡ sort_to t n
  sort-first h = rw (length-take-le n t h) (sort-alone n (omega arith))

-- the ordered rows are whole
pub sort-fits : (t : List Row) (n : ℕ) → n ≤ length t → 0 < length t → Fits t (sort_to t n)
sort-fits t n h k i =
    by_cases
    (dec_lt i (length (sort_to t n)))
    (λ (l : i < length (sort_to t n)). omega (arith, (sorted-mem t n (get_or-mem (sort_to t n) i l)).0))
    (λ (l : ¬ (i < length (sort_to t n))). rw (get_or-eq_default (sort_to t n) 0 {n = i} (omega arith)) (omega arith))

-- and ascend
pub sort-rising : (t : List Row) (n : ℕ) → Rising t (sort_to t n)
unfolding sort_to
sort-rising t zero = rising_nil
sort-rising t (suc r) = go (ltb 1 (state_at t r)) (sort-rising t r)
  where
    go : (b : Bool) → Rising t (sort_to t r) → Rising t (cond b (put_in (sort_to t r) (spot_in t r (sort_to t r)) r) (sort_to t r))
    go true s = rising-put t r s
    go false s = s

pub sort-length : (t : List Row) (n : ℕ) → length (sort_to t n) ≤ n
unfolding sort_to
sort-length t zero = omega arith
sort-length t (suc r) = go (ltb 1 (state_at t r)) (sort-length t r) (put-length (sort_to t r) (spot_in t r (sort_to t r)) r (spot-bound t r (sort_to t r)))
  where
    go : (b : Bool) → length (sort_to t r) ≤ r → length (put_in (sort_to t r) (spot_in t r (sort_to t r)) r) ≡ suc (length (sort_to t r)) → length (cond b (put_in (sort_to t r) (spot_in t r (sort_to t r)) r) (sort_to t r)) ≤ suc r
    go true h e = omega arith
    go false h e = omega arith
