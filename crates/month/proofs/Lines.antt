-- Lines put in order: which they are, and that they ascend. Assumes nothing.
use Rattle.std.proofs.Common.{◌≡◌, cond, ◌⊎◌, List, [], ◌∷◌, sym, refl, inl, inr}
use mathlib.Core.Logic.{⊎_map}
use mathlib.Core.List.Memᴰ
use mathlib.Core.List.{Memᴰ}
use Rattle.wire.specs.Same.{same}
use Rattle.wire.proofs.Same.{same-eq, same-ne}
use Rattle.wire.specs.Order.{Below, lt_key}
use Rattle.wire.specs.Ascending.{Ascending, asc_nil, asc_cons}
use Rattle.month.specs.Transfers.{Line}
use Rattle.month.specs.Report.{enter, ascending}
use Rattle.wire.proofs.Order.{below-differ, below-trans, Order, less, level, more, order, lt_key-below, lt_key-above, lt_key-level}
use Rattle.wire.specs.Members.{SameMembers}
use Rattle.wire.proofs.Ascending.{ascending-unique}

-- m is l with the line k in its place
data PutAmong (k : Line) : List Line → List Line → Type 0 where
  last : PutAmong k [] (k ∷ [])
  before : {x : Line} {l : List Line} → Below k x → PutAmong k (x ∷ l) (k ∷ x ∷ l)
  there : {x : Line} {l : List Line} → k ≡ x → PutAmong k (x ∷ l) (x ∷ l)
  past : {x : Line} {l m : List Line} → Below x k → PutAmong k l m → PutAmong k (x ∷ l) (x ∷ m)

entered : (k : Line) (l : List Line) → PutAmong k l (enter k l)
unfolding enter
entered k [] = last
entered k (x ∷ l) = go (order k x) (entered k l)
  where
    go : Order k x → PutAmong k l (enter k l) → PutAmong k (x ∷ l) (cond (lt_key k x) (k ∷ x ∷ l) (cond (same k x) (x ∷ l) (x ∷ enter k l)))
    go (less h) i = rw (lt_key-below h) (before h)
    go (level e) i = rw (lt_key-level e, same-eq e) (there e)
    go (more h) i = rw (lt_key-above h, same-ne (λ e. below-differ h (sym e))) (past h i)

module _ {k : Line} where
  entered-new : {l m : List Line} → PutAmong k l m → Memᴰ k m
  entered-new last = Memᴰ.head refl
  entered-new (before h) = Memᴰ.head refl
  entered-new (there e) = Memᴰ.head e
  entered-new (past h i) = Memᴰ.tail (entered-new i)

  entered-old : {y : Line} {l m : List Line} → PutAmong k l m → Memᴰ y l → Memᴰ y m
  entered-old last j = Memᴰ.tail j
  entered-old (before h) j = Memᴰ.tail j
  entered-old (there e) j = j
  entered-old (past h i) (Memᴰ.head q) = Memᴰ.head q
  entered-old (past h i) (Memᴰ.tail j) = Memᴰ.tail (entered-old i j)

  entered-mem : {y : Line} {l m : List Line} → PutAmong k l m → Memᴰ y m → (y ≡ k) ⊎ Memᴰ y l
  entered-mem last j = Memᴰ.cases_cons j
  entered-mem (before h) j = Memᴰ.cases_cons j
  entered-mem (there e) j = inr j
  entered-mem (past h i) (Memᴰ.head q) = inr (Memᴰ.head q)
  entered-mem (past h i) (Memᴰ.tail j) = ⊎_map (λ q. q) (λ n. Memᴰ.tail n) (entered-mem i j)

  entered-ascends : {l m : List Line} → PutAmong k l m → Ascending (λ x. x) l → Ascending (λ x. x) m
  entered-ascends last asc_nil = asc_cons (λ x i. absurd (Memᴰ.not-nil i)) asc_nil
  entered-ascends (before {x} {l} h) (asc_cons f s) = asc_cons (λ y i. go y (Memᴰ.cases_cons i)) (asc_cons f s)
    where
      go : (y : Line) → (y ≡ x) ⊎ Memᴰ y l → Below k y
      go y (inl q) = rw q h
      go y (inr i) = below-trans h (f y i)
  entered-ascends (there e) s = s
  entered-ascends (past {x} {l} h i) (asc_cons f s) = asc_cons (λ y j. go y (entered-mem i j)) (entered-ascends i s)
    where
      go : (y : Line) → (y ≡ k) ⊎ Memᴰ y l → Below x y
      go y (inl q) = rw q h
      go y (inr j) = f y j

-- the lines ascend, and none stands twice
pub ascending-ascends : (l : List Line) → Ascending (λ x. x) (ascending l)
unfolding ascending
ascending-ascends [] = asc_nil
ascending-ascends (k ∷ l) = entered-ascends (entered k (ascending l)) (ascending-ascends l)

-- they are the lines of the list
pub ascending-same : (l : List Line) → SameMembers (ascending l) l
unfolding ascending
ascending-same [] = record { to = λ i. i; from = λ i. i }
ascending-same (k ∷ l) = record { to = λ i. to (ascending-same l) (entered-mem (entered k (ascending l)) i); from = λ i. from (ascending-same l) i }
  where
    to : {y : Line} → SameMembers (ascending l) l → (y ≡ k) ⊎ Memᴰ y (ascending l) → Memᴰ y (k ∷ l)
    to s (inl q) = Memᴰ.head q
    to s (inr i) = Memᴰ.tail (s.to i)

    from : {y : Line} → SameMembers (ascending l) l → Memᴰ y (k ∷ l) → Memᴰ y (enter k (ascending l))
    from s (Memᴰ.head q) = Memᴰ.cast q (entered-new (entered k (ascending l)))
    from s (Memᴰ.tail i) = entered-old (entered k (ascending l)) (s.from i)

-- lists with the same lines are put in order alike
pub ascending-alike : {l m : List Line} → SameMembers l m → ascending l ≡ ascending m
ascending-alike {l} {m} s =
    ascending-unique
    (ascending-ascends l)
    (ascending-ascends m)
    (record { to = λ i. (ascending-same m).from (s.to ((ascending-same l).to i)); from = λ i. (ascending-same l).from (s.from ((ascending-same m).to i)) })

-- a list that ascends is in order
pub ascending-still : {l : List Line} → Ascending (λ x. x) l → ascending l ≡ l
ascending-still {l} s = ascending-unique (ascending-ascends l) s (ascending-same l)
