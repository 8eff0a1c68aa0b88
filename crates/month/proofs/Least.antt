-- The lines that are new above a bound. Kept one by one, the least of them are the first of all: one that is dropped has so many below it that it never returns.
-- Assumes nothing.
use Rattle.std.proofs.Common.{◌≡◌, ℕ, zero, suc, ◌+◌, ◌<◌, ◌≤◌, Bool, true, false, cond, not, ◌&&◌, ◌≢◌, ◌⊎◌, List, [], ◌∷◌, ◌++◌, length, get_or, take, drop, sym, refl, ap, ◌∙◌, subst, inl, inr, append-nil, le_of_suc-le-suc, arith, take-take}
use mathlib.Core.Logic.{by_cases}
use mathlib.Core.Bool.{false≢true}
use mathlib.Core.List.Memᴰ
use mathlib.Core.List.{Memᴰ}
use borrow.Author.Tests.{not-true}
use lib.Seq.{append_snoc}
use Rattle.wire.specs.Same.{same}
use Rattle.wire.proofs.Same.{same-ne}
use Rattle.wire.proofs.Below.{and_left, and_right}
use Rattle.wire.specs.Order.{Below, lt_key}
use Rattle.wire.proofs.Order.{below-differ, below_irrefl, below-trans, key?, lt_key-below, lt_key-true}
use Rattle.wire.specs.Ascending.{Ascending, asc_nil, asc_cons}
use Rattle.wire.specs.Members.{SameMembers}
use Rattle.wire.proofs.Ascending.{ascending-unique}
use Rattle.month.specs.Transfers.{Line}
use Rattle.month.specs.Sums.{those}
use Rattle.month.specs.Report.{enter, ascending}
use Rattle.month.specs.Adding.{among, new_in}
use Rattle.month.specs.Lookup.{new_above, least_with, least_of}
use Rattle.month.proofs.Lines.{ascending-ascends, ascending-same, ascending-still}
use Rattle.month.proofs.Tables.{mem?}
use Rattle.month.proofs.Rows.{among_in, among-out}
use Rattle.month.proofs.Views.{mem-at}

-- the members that pass a test
those-in : {A : Type 0} (p : A → Bool) {x : A} {l : List A} → Memᴰ x l → p x ≡ true → Memᴰ x (those p l)
unfolding those
those-in p {x} (Memᴰ.head {x = y} e) h = rw (ap p (sym e) ∙ h) (Memᴰ.head e)
those-in {A} p {x} (Memᴰ.tail {x = y} {xs = l} i) h = go (p y) (those-in p i h)
  where
    go : (b : Bool) → Memᴰ x (those p l) → Memᴰ x (cond b (y ∷ those p l) (those p l))
    go true j = Memᴰ.tail j
    go false j = j

those-of : {A : Type 0} (p : A → Bool) {x : A} (l : List A) → Memᴰ x (those p l) → Memᴰ x l × (p x ≡ true)
unfolding those
those-of p [] i = absurd (Memᴰ.not-nil i)
those-of {A} p {x} (y ∷ l) i = go (p y) refl i (λ j. those-of p l j)
  where
    go : (b : Bool) → p y ≡ b → Memᴰ x (cond b (y ∷ those p l) (those p l)) → (Memᴰ x (those p l) → Memᴰ x l × (p x ≡ true)) → Memᴰ x (y ∷ l) × (p x ≡ true)
    go true e (Memᴰ.head q) f = (Memᴰ.head q, ap p q ∙ e)
    go true e (Memᴰ.tail j) f = let m = f j in (Memᴰ.tail m.0, m.1)
    go false e j f = let m = f j in (Memᴰ.tail m.0, m.1)

-- which lines are new
pub new_in-above : {old ks : List Line} {bound x : Line} → Memᴰ x ks → Below bound x → (¬ Memᴰ x old) → Memᴰ x (new_above old bound ks)
unfolding new_above
new_in-above {old} {ks} {bound} {x} i h n =
    (ascending-same (those (λ k. lt_key bound k && not (among k old)) ks)).from
    (those-in (λ k. lt_key bound k && not (among k old)) i (rw (lt_key-below h, among-out x old n)))

pub new-of : (old : List Line) (bound : Line) (ks : List Line) {x : Line} → Memᴰ x (new_above old bound ks) → Memᴰ x ks × Below bound x × (¬ Memᴰ x old)
unfolding new_above
new-of old bound ks {x} i =
    let m = those-of (λ k. lt_key bound k && not (among k old)) ks ((ascending-same (those (λ k. lt_key bound k && not (among k old)) ks)).to i) in (
      m.0,
      lt_key-true bound x (and_left (lt_key bound x) (not (among x old)) m.1),
      λ j. false≢true (sym (not-true (among x old) (and_right (lt_key bound x) (not (among x old)) m.1)) ∙ among_in j),
    )

pub new-ascends : (old : List Line) (bound : Line) (ks : List Line) → Ascending (λ x. x) (new_above old bound ks)
unfolding new_above
new-ascends old bound ks = ascending-ascends (those (λ k. lt_key bound k && not (among k old)) ks)

-- a line put into a list that ascends
enter-still : (k : Line) {l : List Line} → Ascending (λ x. x) l → ascending (k ∷ l) ≡ enter k l
unfolding ascending
enter-still k s = ap (enter k) (ascending-still s)

pub enter-same : (k : Line) {l : List Line} → Ascending (λ x. x) l → SameMembers (enter k l) (k ∷ l)
enter-same k {l} s = rw (enter-still k s) at (ascending-same (k ∷ l))

pub enter-ascends : (k : Line) {l : List Line} → Ascending (λ x. x) l → Ascending (λ x. x) (enter k l)
enter-ascends k {l} s = rw (enter-still k s) at (ascending-ascends (k ∷ l))

-- the first so many after a line is put in ask for the first so many alone
take-front : {A : Type 0} (n : ℕ) (x : A) (l : List A) → take n (x ∷ take n l) ≡ take n (x ∷ l)
take-front zero x l = refl
take-front {A} (suc n) x l = ap (λ (m : List A). x ∷ m) (take-take n (suc n) l (omega arith))

pub take-enter : (most : ℕ) (k : Line) (l : List Line) → take most (enter k (take most l)) ≡ take most (enter k l)
unfolding enter
take-enter zero k l = refl
take-enter (suc n) k [] = refl
take-enter (suc n) k (x ∷ l) = go (lt_key k x) (same k x) (take-enter n k l)
  where
    go : (b c : Bool) → take n (enter k (take n l)) ≡ take n (enter k l)
        → take (suc n) (cond b (k ∷ x ∷ take n l) (cond c (x ∷ take n l) (x ∷ enter k (take n l)))) ≡ take (suc n) (cond b (k ∷ x ∷ l) (cond c (x ∷ l) (x ∷ enter k l)))
    go true c e = ap (λ (m : List Line). k ∷ m) (take-front n x l)
    go false true e = ap (λ (m : List Line). x ∷ m) (take-take n n l (omega arith))
    go false false e = ap (λ (m : List Line). x ∷ m) e

-- a last element that fails the test
those-skip : {A : Type 0} (p : A → Bool) (x : A) (l : List A) → p x ≡ false → those p (l ++ (x ∷ [])) ≡ those p l
unfolding those
those-skip p x [] e = rw e
those-skip {A} p x (y ∷ l) e = ap (λ (m : List A). cond (p y) (y ∷ m) m) (those-skip p x l e)

module _ (old : List Line) (bound : Line) where
  -- one line more, new or not
  new-enter : (k : Line) (ks : List Line) → Below bound k → (¬ Memᴰ k old) → enter k (new_above old bound ks) ≡ new_above old bound (ks ++ (k ∷ []))
  new-enter k ks h n =
      ascending-unique
      (enter-ascends k (new-ascends old bound ks))
      (new-ascends old bound (ks ++ (k ∷ [])))
      (record { to = λ i. to (Memᴰ.cases_cons ((enter-same k (new-ascends old bound ks)).to i)); from = λ i. (enter-same k (new-ascends old bound ks)).from (from (new-of old bound (ks ++ (k ∷ [])) i)) })
    where
      to : {x : Line} → (x ≡ k) ⊎ Memᴰ x (new_above old bound ks) → Memᴰ x (new_above old bound (ks ++ (k ∷ [])))
      to (inl q) = Memᴰ.cast q (new_in-above (Memᴰ.append_right ks (Memᴰ.head refl)) h n)
      to (inr i) = let m = new-of old bound ks i in new_in-above (Memᴰ.append_left (k ∷ []) m.0) m.1 m.2

      from : {x : Line} → Memᴰ x (ks ++ (k ∷ [])) × Below bound x × (¬ Memᴰ x old) → Memᴰ x (k ∷ new_above old bound ks)
      from (i, b, o) = go (Memᴰ.append_cases ks i) b o
        where
          go : {x : Line} → Memᴰ x ks ⊎ Memᴰ x (k ∷ []) → Below bound x → (¬ Memᴰ x old) → Memᴰ x (k ∷ new_above old bound ks)
          go (inl j) b o = Memᴰ.tail (new_in-above j b o)
          go (inr j) b o = Memᴰ.head (Memᴰ.eq_of_singleton j)

  new-skip : (k : Line) (ks : List Line) → (lt_key bound k && not (among k old)) ≡ false → new_above old bound (ks ++ (k ∷ [])) ≡ new_above old bound ks
  unfolding new_above
  new-skip k ks e = ap ascending (those-skip (λ x. lt_key bound x && not (among x old)) k ks e)

  least-next : (most : ℕ) (k : Line) (ks : List Line) → least_with most old bound k (take most (new_above old bound ks)) ≡ take most (new_above old bound (ks ++ (k ∷ [])))
  unfolding least_with
  least-next most k ks = go (lt_key bound k && not (among k old)) refl
    where
      go : (b : Bool) → (lt_key bound k && not (among k old)) ≡ b
          → cond b (take most (enter k (take most (new_above old bound ks)))) (take most (new_above old bound ks)) ≡ take most (new_above old bound (ks ++ (k ∷ [])))
      go true e =
          take-enter most k (new_above old bound ks)
          ∙ ap (take most) (new-enter k ks (lt_key-true bound k (and_left (lt_key bound k) (not (among k old)) e)) (λ j. false≢true (sym (not-true (among k old) (and_right (lt_key bound k) (not (among k old)) e)) ∙ among_in j)))
      go false e = ap (take most) (sym (new-skip k ks e))

  -- the least lines, one after the other
  pub least-of : (most : ℕ) (ks ms : List Line) → least_of most old bound ms (take most (new_above old bound ks)) ≡ take most (new_above old bound (ks ++ ms))
  unfolding least_of
  least-of most ks [] = rw (append-nil ks)
  least-of most ks (k ∷ ms) =
      ap (least_of most old bound ms) (least-next most k ks)
      ∙ least-of most (ks ++ (k ∷ [])) ms
      ∙ ap (λ (l : List Line). take most (new_above old bound l)) (append_snoc ks k ms)

-- parts of a list that ascends
pub mem-take : {A : Type 0} {x : A} (n : ℕ) (l : List A) → Memᴰ x (take n l) → Memᴰ x l
mem-take zero l i = absurd (Memᴰ.not-nil i)
mem-take (suc n) [] i = i
mem-take (suc n) (y ∷ l) (Memᴰ.head e) = Memᴰ.head e
mem-take (suc n) (y ∷ l) (Memᴰ.tail i) = Memᴰ.tail (mem-take n l i)

pub mem-drop : {A : Type 0} {x : A} (n : ℕ) (l : List A) → Memᴰ x (drop n l) → Memᴰ x l
mem-drop zero l i = i
mem-drop (suc n) [] i = i
mem-drop (suc n) (y ∷ l) i = Memᴰ.tail (mem-drop n l i)

pub take-ascends : (n : ℕ) {l : List Line} → Ascending (λ x. x) l → Ascending (λ x. x) (take n l)
take-ascends zero s = asc_nil
take-ascends (suc n) asc_nil = asc_nil
take-ascends (suc n) (asc_cons {t = l} f s) = asc_cons (λ x i. f x (mem-take n l i)) (take-ascends n s)

drop-ascends : (n : ℕ) {l : List Line} → Ascending (λ x. x) l → Ascending (λ x. x) (drop n l)
drop-ascends zero s = s
drop-ascends (suc n) asc_nil = asc_nil
drop-ascends (suc n) (asc_cons f s) = drop-ascends n s

-- the members behind place j are those above the one there
after-above : {x : Line} {l : List Line} (j : ℕ) → Ascending (λ x. x) l → Memᴰ x (drop (suc j) l) → Below (get_or l j []) x
after-above j asc_nil i = absurd (Memᴰ.not-nil i)
after-above {x} zero (asc_cons f s) i = f x i
after-above (suc j) (asc_cons f s) i = after-above j s i

above-after : {x : Line} {l : List Line} (j : ℕ) → Ascending (λ x. x) l → j < length l → Memᴰ x l → Below (get_or l j []) x → Memᴰ x (drop (suc j) l)
above-after j asc_nil h i b = i
above-after zero (asc_cons f s) h (Memᴰ.head e) b = absurd (below-differ b (sym e))
above-after zero (asc_cons f s) h (Memᴰ.tail i) b = i
above-after {x} (suc j) (asc_cons {r} {t = l} f s) h (Memᴰ.head e) b =
    absurd (below_irrefl (below-trans (f (get_or l j []) (mem-at l [] j (le_of_suc-le-suc h))) (subst (λ (z : Line). Below (get_or l j []) z) e b)))
above-after (suc j) (asc_cons f s) h (Memᴰ.tail i) b = above-after j s (le_of_suc-le-suc h) i b

-- above the new line at place j are those behind it
pub new-after : (old : List Line) (bound : Line) (ks : List Line) (j : ℕ) → j < length (new_above old bound ks)
    → new_above old (get_or (new_above old bound ks) j []) ks ≡ drop (suc j) (new_above old bound ks)
new-after old bound ks j h =
    ascending-unique
    (new-ascends old (get_or (new_above old bound ks) j []) ks)
    (drop-ascends (suc j) (new-ascends old bound ks))
    (record { to = λ i. to (new-of old (get_or (new_above old bound ks) j []) ks i); from = λ i. from i (new-of old bound ks (mem-drop (suc j) (new_above old bound ks) i)) })
  where
    to : {x : Line} → Memᴰ x ks × Below (get_or (new_above old bound ks) j []) x × (¬ Memᴰ x old) → Memᴰ x (drop (suc j) (new_above old bound ks))
    to (i, a, n) = above-after j (new-ascends old bound ks) h (new_in-above i (below-trans (new-of old bound ks (mem-at (new_above old bound ks) [] j h)).1 a) n) a

    from : {x : Line} → Memᴰ x (drop (suc j) (new_above old bound ks)) → Memᴰ x ks × Below bound x × (¬ Memᴰ x old) → Memᴰ x (new_above old (get_or (new_above old bound ks) j []) ks)
    from i (k, a, n) = new_in-above k (after-above j (new-ascends old bound ks) i) n

-- a line that is not there makes the list longer by one
enter-longer : (k : Line) (l : List Line) → (¬ Memᴰ k l) → length (enter k l) ≡ suc (length l)
unfolding enter
enter-longer k [] n = refl
enter-longer k (x ∷ l) n = rw (same-ne (λ e. n (Memᴰ.head e))) (go (lt_key k x) (enter-longer k l (λ i. n (Memᴰ.tail i))))
  where
    go : (b : Bool) → length (enter k l) ≡ suc (length l) → length (cond b (k ∷ x ∷ l) (x ∷ enter k l)) ≡ suc (suc (length l))
    go true e = refl
    go false e = ap suc e

pub new_none : (old : List Line) (bound : Line) → new_above old bound [] ≡ []
unfolding new_above those ascending
new_none old bound = refl

off : {k x : Line} {l : List Line} → x ≢ k → (¬ Memᴰ x l) → ¬ Memᴰ x (k ∷ l)
off n m (Memᴰ.head e) = n e
off n m (Memᴰ.tail i) = m i

-- the first line is old, or one more is
module _ (old : List Line) (bound k : Line) (ks : List Line) where
  new-old : Memᴰ k old → new_above old bound (k ∷ ks) ≡ new_above (k ∷ old) bound ks
  new-old h =
      ascending-unique
      (new-ascends old bound (k ∷ ks))
      (new-ascends (k ∷ old) bound ks)
      (record { to = λ i. to (new-of old bound (k ∷ ks) i); from = λ i. from (new-of (k ∷ old) bound ks i) })
    where
      to : {x : Line} → Memᴰ x (k ∷ ks) × Below bound x × (¬ Memᴰ x old) → Memᴰ x (new_above (k ∷ old) bound ks)
      to (Memᴰ.head e, b, n) = absurd (n (Memᴰ.cast e h))
      to (Memᴰ.tail i, b, n) = new_in-above i b (off (λ e. n (Memᴰ.cast e h)) n)

      from : {x : Line} → Memᴰ x ks × Below bound x × (¬ Memᴰ x (k ∷ old)) → Memᴰ x (new_above old bound (k ∷ ks))
      from (i, b, n) = new_in-above (Memᴰ.tail i) b (λ j. n (Memᴰ.tail j))

  new-first : Below bound k → (¬ Memᴰ k old) → new_above old bound (k ∷ ks) ≡ enter k (new_above (k ∷ old) bound ks)
  new-first h o =
      ascending-unique
      (new-ascends old bound (k ∷ ks))
      (enter-ascends k (new-ascends (k ∷ old) bound ks))
      (record { to = λ i. (enter-same k (new-ascends (k ∷ old) bound ks)).from (to (new-of old bound (k ∷ ks) i)); from = λ i. from ((enter-same k (new-ascends (k ∷ old) bound ks)).to i) })
    where
      to : {x : Line} → Memᴰ x (k ∷ ks) × Below bound x × (¬ Memᴰ x old) → Memᴰ x (k ∷ new_above (k ∷ old) bound ks)
      to (Memᴰ.head e, b, n) = Memᴰ.head e
      to {x} (Memᴰ.tail i, b, n) = by_cases (key? x k) (λ e. Memᴰ.head e) (λ d. Memᴰ.tail (new_in-above i b (off d n)))

      from : {x : Line} → Memᴰ x (k ∷ new_above (k ∷ old) bound ks) → Memᴰ x (new_above old bound (k ∷ ks))
      from (Memᴰ.head e) = Memᴰ.cast e (new_in-above (Memᴰ.head refl) h o)
      from (Memᴰ.tail i) = let m = new-of (k ∷ old) bound ks i in new_in-above (Memᴰ.tail m.0) m.1 (λ j. m.2 (Memᴰ.tail j))

-- how many lines are new, where none is empty
pub new-count : (old ks : List Line) → ((x : Line) → Memᴰ x ks → Below [] x) → length (new_above old [] ks) ≡ new_in old ks
unfolding new_in
new-count old [] f = ap length (new_none old [])
new-count old (k ∷ ks) f = go (mem? k old) (new-count (k ∷ old) ks (λ x i. f x (Memᴰ.tail i)))
  where
    go : Memᴰ k old ⊎ (¬ Memᴰ k old) → length (new_above (k ∷ old) [] ks) ≡ new_in (k ∷ old) ks → length (new_above old [] (k ∷ ks)) ≡ cond (among k old) 0 1 + new_in (k ∷ old) ks
    go (inl i) e = rw (among_in i, new-old old [] k ks i) (omega (arith, e))
    go (inr n) e =
        rw (among-out k old n, new-first old [] k ks (f k (Memᴰ.head refl)) n)
        (omega (arith, e, enter-longer k (new_above (k ∷ old) [] ks) (λ i. (new-of (k ∷ old) [] ks i).2 (Memᴰ.head refl))))

-- no more than there are lines
pub new-most : (old ks : List Line) → new_in old ks ≤ length ks
unfolding new_in
new-most old [] = omega arith
new-most old (k ∷ ks) = go (among k old) (new-most (k ∷ old) ks)
  where
    go : (b : Bool) → new_in (k ∷ old) ks ≤ length ks → cond b 0 1 + new_in (k ∷ old) ks ≤ suc (length ks)
    go true h = omega arith
    go false h = omega arith
