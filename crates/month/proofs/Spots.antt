-- Where a line stands or belongs in lines that ascend: those before its spot are below it, the one at the spot is it, or it is not there. Assumes nothing.
use Rattle.std.proofs.Common.{◌≡◌, ℕ, zero, suc, ◌-◌, ◌<◌, ◌≤◌, Bool, true, false, cond, ◌&&◌, ◌||◌, ltb, List, [], ◌∷◌, ◌++◌, length, get_or, take, drop, sym, refl, ap, ◌∙◌, le_of_suc-le-suc, not-suc-le-zero, arith, le-ltb, lt-ltb}
use Rattle.std.specs.Prelude.{Some, None}
use Rattle.std.specs.Option.{is_some}
use mathlib.Core.Logic.{by_cases}
use mathlib.Core.Bool.{false≢true}
use mathlib.Core.List.{Memᴰ}
use native.Mathlib.Decide.{dec_lt}
use Rattle.wire.specs.Same.{same}
use Rattle.wire.proofs.Same.{same-eq, same-ne, same_true}
use Rattle.wire.specs.Order.{Below, lt_key}
use Rattle.wire.specs.Ascending.{Ascending, asc_nil, asc_cons}
use Rattle.wire.proofs.Order.{below-differ, below-trans, Order, less, level, more, order, lt_key-below, lt_key-above, lt_key-level, lt_key-true, lt_key-false}
use Rattle.month.specs.Transfers.{Line}
use Rattle.month.specs.Report.{enter}
use Rattle.month.specs.Adding.{among}
use Rattle.month.specs.Lookup.{spot_of, place_of_line, row_of}
use Rattle.month.proofs.Rows.{among_in}
use Rattle.month.proofs.Views.{mem-at, ascend-at}

-- a spot is one of the list, or its end
pub spot-most : (k : Line) (l : List Line) → spot_of k l ≤ length l
unfolding spot_of
spot-most k [] = omega arith
spot-most k (x ∷ l) = go (lt_key x k) (spot-most k l)
  where
    go : (b : Bool) → spot_of k l ≤ length l → cond b (suc (spot_of k l)) 0 ≤ suc (length l)
    go true h = omega arith
    go false h = omega arith

-- the lines before the spot are below, and the line at the spot is not
pub spot-before : (k : Line) (l : List Line) (d : Line) (i : ℕ) → i < spot_of k l → lt_key (get_or l i d) k ≡ true
unfolding spot_of
spot-before k [] d i h = absurd (not-suc-le-zero h)
spot-before k (x ∷ l) d i h = go (lt_key x k) refl i h (λ j. spot-before k l d j)
  where
    go : (b : Bool) → lt_key x k ≡ b → (i : ℕ) → i < cond b (suc (spot_of k l)) 0 → ((j : ℕ) → j < spot_of k l → lt_key (get_or l j d) k ≡ true) → lt_key (get_or (x ∷ l) i d) k ≡ true
    go true e zero h f = e
    go true e (suc i) h f = f i (le_of_suc-le-suc h)
    go false e i h f = absurd (not-suc-le-zero h)

pub spot-here : (k : Line) (l : List Line) (d : Line) → spot_of k l < length l → lt_key (get_or l (spot_of k l) d) k ≡ false
unfolding spot_of
spot-here k [] d h = absurd (not-suc-le-zero h)
spot-here k (x ∷ l) d h = go (lt_key x k) refl h (λ j. spot-here k l d j)
  where
    go : (b : Bool) → lt_key x k ≡ b → cond b (suc (spot_of k l)) 0 < suc (length l) → (spot_of k l < length l → lt_key (get_or l (spot_of k l) d) k ≡ false) → lt_key (get_or (x ∷ l) (cond b (suc (spot_of k l)) 0) d) k ≡ false
    go true e h f = f (le_of_suc-le-suc h)
    go false e h f = e

pub spot-below : (k : Line) (l : List Line) (d : Line) (i : ℕ) → i < spot_of k l → Below (get_or l i d) k
spot-below k l d i h = lt_key-true (get_or l i d) k (spot-before k l d i h)

-- a line that is not below is not before the spot
pub spot-low : (k : Line) (l : List Line) (d : Line) (i : ℕ) → lt_key (get_or l i d) k ≡ false → spot_of k l ≤ i
spot-low k l d i e =
    by_cases
    (dec_lt i (spot_of k l))
    (λ (h : i < spot_of k l). absurd (false≢true (sym e ∙ spot-before k l d i h)))
    (λ (h : ¬ (i < spot_of k l)). omega arith)

-- a line that is below is, where they ascend
pub spot-high : (k : Line) {l : List Line} (d : Line) (i : ℕ) → Ascending (λ x. x) l → i < length l → lt_key (get_or l i d) k ≡ true → i < spot_of k l
spot-high k {l} d i s h e =
    by_cases
    (dec_lt i (spot_of k l))
    (λ (g : i < spot_of k l). g)
    (λ (g : ¬ (i < spot_of k l)). absurd (clash (omega arith)))
  where
    clash : spot_of k l ≤ i → ⊥
    clash g =
        by_cases
        (dec_lt (spot_of k l) i)
        (λ (p : spot_of k l < i). false≢true (sym (spot-here k l d (omega arith)) ∙ lt_key-below (below-trans (ascend-at d (spot_of k l) i s p h) (lt_key-true (get_or l i d) k e))))
        (λ (p : ¬ (spot_of k l < i)). let q : spot_of k l ≡ i = omega arith in false≢true (sym (spot-here k l d (omega arith)) ∙ ap (λ (j : ℕ). lt_key (get_or l j d) k) q ∙ e))

-- from the spot on no line is below
pub spot-from : (k : Line) {l : List Line} (d : Line) (i : ℕ) → Ascending (λ x. x) l → spot_of k l ≤ i → i < length l → lt_key (get_or l i d) k ≡ false
spot-from k {l} d i s h n = go (lt_key (get_or l i d) k) refl
  where
    go : (b : Bool) → lt_key (get_or l i d) k ≡ b → lt_key (get_or l i d) k ≡ false
    go true e = absurd (over (spot-high k d i s n e))
      where
        over : i < spot_of k l → ⊥
        over g = let z : ◌≡◌ {A = ℕ} 0 1 = omega arith in omega arith
    go false e = e

-- where the line before is below and the line here is not, is the spot
pub spot-met : (k : Line) {l : List Line} (d : Line) (p : ℕ) → Ascending (λ x. x) l → p ≤ length l → (0 < p → lt_key (get_or l (p - 1) d) k ≡ true) → (p < length l → lt_key (get_or l p d) k ≡ false)
    → p ≡ spot_of k l
spot-met k {l} d p s h before here =
    let most = spot-most k l in
    by_cases
    (dec_lt p (spot_of k l))
    (λ (g : p < spot_of k l). omega (arith, spot-low k l d p (here (omega arith))))
    (λ (g : ¬ (p < spot_of k l)).
    by_cases
    (dec_lt 0 p)
    (λ (q : 0 < p). omega (arith, spot-high k d (p - 1) s (omega arith) (before q)))
    (λ (q : ¬ (0 < p)). omega arith))

-- the test of membership, read
pub among-true : (k : Line) (l : List Line) → among k l ≡ true → Memᴰ k l
unfolding among
among-true k [] e = absurd (false≢true e)
among-true k (x ∷ l) e = go (same k x) refl e (λ f. among-true k l f)
  where
    go : (b : Bool) → same k x ≡ b → b || among k l ≡ true → (among k l ≡ true → Memᴰ k l) → Memᴰ k (x ∷ l)
    go true q f g = Memᴰ.head (same_true k x q)
    go false q f g = Memᴰ.tail (g f)

-- the place of a line: its first, or the end
pub place-most : (k : Line) (l : List Line) → place_of_line k l ≤ length l
unfolding place_of_line
place-most k [] = omega arith
place-most k (x ∷ l) = go (same k x) (place-most k l)
  where
    go : (b : Bool) → place_of_line k l ≤ length l → cond b 0 (suc (place_of_line k l)) ≤ suc (length l)
    go true h = omega arith
    go false h = omega arith

pub place-line : (k : Line) (l : List Line) (d : Line) → place_of_line k l < length l → get_or l (place_of_line k l) d ≡ k
unfolding place_of_line
place-line k [] d h = absurd (not-suc-le-zero h)
place-line k (x ∷ l) d h = go (same k x) refl h (λ g. place-line k l d g)
  where
    go : (b : Bool) → same k x ≡ b → cond b 0 (suc (place_of_line k l)) < suc (length l) → (place_of_line k l < length l → get_or l (place_of_line k l) d ≡ k) → get_or (x ∷ l) (cond b 0 (suc (place_of_line k l))) d ≡ k
    go true e h f = sym (same_true k x e)
    go false e h f = f (le_of_suc-le-suc h)

-- it is the end exactly where the line is not there
pub place-among : (k : Line) (l : List Line) → among k l ≡ ltb (place_of_line k l) (length l)
unfolding among place_of_line
place-among k [] = refl
place-among k (x ∷ l) = go (same k x) (place-among k l)
  where
    go : (b : Bool) → among k l ≡ ltb (place_of_line k l) (length l) → b || among k l ≡ ltb (cond b 0 (suc (place_of_line k l))) (suc (length l))
    go true e = sym (lt-ltb 0 (suc (length l)) (omega arith))
    go false e =
        by_cases
        (dec_lt (place_of_line k l) (length l))
        (λ (h : place_of_line k l < length l). e ∙ lt-ltb _ _ h ∙ sym (lt-ltb (suc (place_of_line k l)) (suc (length l)) (omega arith)))
        (λ (h : ¬ (place_of_line k l < length l)). e ∙ le-ltb (place_of_line k l) (length l) (omega arith) ∙ sym (le-ltb (suc (place_of_line k l)) (suc (length l)) (omega arith)))

-- a line's place is where it stands, since none stands twice
pub place_at : (k : Line) {l : List Line} (d : Line) (i : ℕ) → Ascending (λ x. x) l → i < length l → get_or l i d ≡ k → place_of_line k l ≡ i
unfolding place_of_line
place_at k d i asc_nil h e = absurd (not-suc-le-zero h)
place_at k d zero (asc_cons f s) h e = rw (same-eq (sym e))
place_at k d (suc i) (asc_cons {r = x} {t = l} f s) h e =
    let b = f (get_or l i d) (mem-at l d i (le_of_suc-le-suc h)) in
    rw (same-ne {a = k} {b = x} (λ q. below-differ b (sym (e ∙ q)))) (ap suc (place_at k d i s (le_of_suc-le-suc h) e))

-- a line has a row exactly where it is there; what the row tells, and that there is none
pub row-is : (k : Line) (l : List Line) → is_some (row_of k l) ≡ among k l
unfolding row_of
row-is k l = go (among k l)
  where
    go : (b : Bool) → is_some (cond b (Some (place_of_line k l)) None) ≡ b
    go true = refl
    go false = refl

pub row-none : (k : Line) (l : List Line) → None ≡ row_of k l → among k l ≡ false
unfolding row_of
row-none k l e = go (among k l) e
  where
    go : (b : Bool) → None ≡ cond b (Some (place_of_line k l)) None → b ≡ false
    go false q = refl
    go true q = cc

pub row-some : (k : Line) (l : List Line) {p : ℕ} → Some p ≡ row_of k l → (among k l ≡ true) × (p ≡ place_of_line k l)
unfolding row_of
row-some k l {p} e = go (among k l) e
  where
    go : (b : Bool) → Some p ≡ cond b (Some (place_of_line k l)) None → (b ≡ true) × (p ≡ place_of_line k l)
    go false q = cc
    go true q = (refl, cc)

module _ (k : Line) {l : List Line} (d : Line) (s : Ascending (λ x. x) l) where
  -- the line at the spot is it: that is its place
  pub place-spot : spot_of k l < length l → same k (get_or l (spot_of k l) d) ≡ true → place_of_line k l ≡ spot_of k l
  place-spot h e = place_at k d (spot_of k l) s h (sym (same_true k (get_or l (spot_of k l) d) e))

  -- a place is a spot
  pub spot-place : place_of_line k l < length l → spot_of k l ≡ place_of_line k l
  spot-place h =
      let e = place-line k l d h in
      by_cases
      (dec_lt (spot_of k l) (place_of_line k l))
      (λ (g : spot_of k l < place_of_line k l).
      absurd (false≢true (sym (spot-here k l d (omega arith)) ∙ lt_key-below (rw e at (ascend-at d (spot_of k l) (place_of_line k l) s g h)))))
      (λ (g : ¬ (spot_of k l < place_of_line k l)). omega (arith, spot-low k l d (place_of_line k l) (lt_key-level e)))

  -- no line at the spot, or another: it is not there
  pub place_end : length l ≤ spot_of k l → place_of_line k l ≡ length l
  place_end h =
      by_cases
      (dec_lt (place_of_line k l) (length l))
      (λ (g : place_of_line k l < length l). omega (arith, spot-place g))
      (λ (g : ¬ (place_of_line k l < length l)). omega (arith, place-most k l))

  pub place_other : same k (get_or l (spot_of k l) d) ≡ false → place_of_line k l ≡ length l
  place_other e =
      by_cases
      (dec_lt (place_of_line k l) (length l))
      (λ (g : place_of_line k l < length l).
      absurd (false≢true (sym e ∙ same-eq (sym (ap (λ (j : ℕ). get_or l j d) (spot-place g) ∙ place-line k l d g)))))
      (λ (g : ¬ (place_of_line k l < length l)). omega (arith, place-most k l))

  -- a line that is there has the row of its spot, any other none
  pub row-spot : spot_of k l < length l → same k (get_or l (spot_of k l) d) ≡ true → row_of k l ≡ Some (spot_of k l)
  unfolding row_of
  row-spot h e =
      let p = place-spot h e in
      rw (place-among k l, p, lt-ltb _ _ h)

  pub row-end : length l ≤ spot_of k l → row_of k l ≡ None
  unfolding row_of
  row-end h = rw (place-among k l, place_end h, le-ltb (length l) (length l) (omega arith))

  pub row-other : same k (get_or l (spot_of k l) d) ≡ false → row_of k l ≡ None
  unfolding row_of
  row-other e = rw (place-among k l, place_other e, le-ltb (length l) (length l) (omega arith))

  -- whether a line is there, by the line at its spot
  pub among-spot : among k l ≡ ltb (spot_of k l) (length l) && same (get_or l (spot_of k l) d) k
  among-spot =
      by_cases
      (dec_lt (place_of_line k l) (length l))
      (λ (g : place_of_line k l < length l).
      place-among k l ∙ lt-ltb _ _ g
      ∙ sym (rw (spot-place g, lt-ltb _ _ g, same-eq (place-line k l d g))))
      (λ (g : ¬ (place_of_line k l < length l)). place-among k l ∙ le-ltb (place_of_line k l) (length l) (omega arith) ∙ sym (none g))
    where
      none : ¬ (place_of_line k l < length l) → ltb (spot_of k l) (length l) && same (get_or l (spot_of k l) d) k ≡ false
      none g =
          by_cases
          (dec_lt (spot_of k l) (length l))
          (λ (h : spot_of k l < length l). rw (lt-ltb _ _ h, same-ne {a = get_or l (spot_of k l) d} {b = k} (λ q. g (rw (place_at k d (spot_of k l) s h q) h))))
          (λ (h : ¬ (spot_of k l < length l)). rw (le-ltb (spot_of k l) (length l) (omega arith)))

  -- a line that is not there is below all from its spot on
  pub spot-above : among k l ≡ false → (i : ℕ) → spot_of k l ≤ i → i < length l → Below k (get_or l i d)
  spot-above e i h n =
      lt_key-false (get_or l i d) k (spot-from k d i s h n) (λ q. false≢true (sym e ∙ among_in (rw q at (mem-at l d i n))))

-- a line entered at its spot
pub enter-spot : (k : Line) {l : List Line} → Ascending (λ x. x) l → among k l ≡ false → enter k l ≡ take (spot_of k l) l ++ (k ∷ drop (spot_of k l) l)
unfolding enter spot_of among
enter-spot k asc_nil e = refl
enter-spot k (asc_cons {r = x} {t = l} f s) e = go (order k x) (λ q. enter-spot k s q) e
  where
    go : Order k x → (among k l ≡ false → enter k l ≡ take (spot_of k l) l ++ (k ∷ drop (spot_of k l) l)) → same k x || among k l ≡ false
        → cond (lt_key k x) (k ∷ x ∷ l) (cond (same k x) (x ∷ l) (x ∷ enter k l)) ≡ take (cond (lt_key x k) (suc (spot_of k l)) 0) (x ∷ l) ++ (k ∷ drop (cond (lt_key x k) (suc (spot_of k l)) 0) (x ∷ l))
    go (less h) g q = rw (lt_key-below h, lt_key-above h)
    go (level p) g q = absurd (false≢true (sym q ∙ rw (same-eq p)))
    go (more h) g q =
        let n = same-ne {a = k} {b = x} (λ p. below-differ h (sym p)) in
        rw (lt_key-above h, lt_key-below h, n) (ap (λ (m : List Line). x ∷ m) (g (rw n at q)))

-- a line that is there, entered again
pub enter-there : (k : Line) {l : List Line} → Ascending (λ x. x) l → among k l ≡ true → enter k l ≡ l
unfolding enter among
enter-there k asc_nil e = absurd (false≢true e)
enter-there k (asc_cons {r = x} {t = l} f s) e = go (order k x) (λ q. enter-there k s q) e
  where
    go : Order k x → (among k l ≡ true → enter k l ≡ l) → same k x || among k l ≡ true → cond (lt_key k x) (k ∷ x ∷ l) (cond (same k x) (x ∷ l) (x ∷ enter k l)) ≡ x ∷ l
    go (less h) g q =
        let n = same-ne {a = k} {b = x} (λ p. below-differ h p) in
        absurd (below-differ (below-trans h (f k (among-true k l (rw n at q)))) refl)
    go (level p) g q = rw (lt_key-level p, same-eq p)
    go (more h) g q =
        let n = same-ne {a = k} {b = x} (λ p. below-differ h (sym p)) in
        rw (lt_key-above h, n) (ap (λ (m : List Line). x ∷ m) (g (rw n at q)))
