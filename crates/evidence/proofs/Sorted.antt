-- A sorted table has the rows of the table, in the order of their accounts, because each row is put in before the first that is greater. Assumes nothing.
use mathlib.Core.Path.{◌≡◌, refl, sym, ◌∙◌, ap, subst}
use mathlib.Core.Logic.{◌≢◌, ◌⊎◌, inl, inr, ⊎_map}
use mathlib.Core.Bool.{Bool, true, false, cond}
use mathlib.Core.List.Memᴰ
use mathlib.Core.List.{[], ◌∷◌, Memᴰ}
use Rattle.wire.specs.Order.{Below, lt_key}
use Rattle.wire.proofs.Order.{below_irrefl, below-trans, Order, less, level, more, order, lt_key-below, lt_key-above}
use Rattle.wire.specs.Members.{SameMembers}
use Rattle.wire.specs.Ascending.{Ascending, asc_nil, asc_cons}
use Rattle.wire.proofs.Ascending.{ascending-unique, ascending-map}
use Rattle.ids.specs.Keys.{Key}
use Rattle.evidence.specs.Table.{Row, Table, accounts, Lacks, lacks_nil, lacks_cons}
use Rattle.evidence.proofs.Table.{row-of-has}
use Rattle.evidence.proofs.Distinct.{Distinct, distinct_nil, distinct_cons, row_has, Covered}
use Rattle.evidence.specs.Sorted.{insert, sort}

-- ascending by account, with no account twice
abbrev pub Sorted : Table → Type 0
Sorted t = Ascending (λ r. r.0) t

-- u is t with the row r somewhere in it
data Inserts (r : Row) : Table → Table → Type 0 where
  in_front : {t : Table} → Inserts r t (r ∷ t)
  further : {x : Row} {t u : Table} → Inserts r t u → Inserts r (x ∷ t) (x ∷ u)

insert-inserts : (r : Row) (t : Table) → Inserts r t (insert r t)
unfolding insert
insert-inserts r [] = in_front
insert-inserts r (x ∷ t) = go (lt_key r.0 x.0) (insert-inserts r t)
  where
    go : (b : Bool) → Inserts r t (insert r t) → Inserts r (x ∷ t) (cond b (r ∷ x ∷ t) (x ∷ insert r t))
    go true i = in_front
    go false i = further i

module _ {r : Row} where
  inserts-new : {t u : Table} → Inserts r t u → Memᴰ r u
  inserts-new in_front = Memᴰ.head refl
  inserts-new (further i) = Memᴰ.tail (inserts-new i)

  inserts-old : {y : Row} {t u : Table} → Inserts r t u → Memᴰ y t → Memᴰ y u
  inserts-old in_front k = Memᴰ.tail k
  inserts-old (further i) (Memᴰ.head q) = Memᴰ.head q
  inserts-old (further i) (Memᴰ.tail k) = Memᴰ.tail (inserts-old i k)

  inserts-mem : {y : Row} {t u : Table} → Inserts r t u → Memᴰ y u → (y ≡ r) ⊎ Memᴰ y t
  inserts-mem in_front k = Memᴰ.cases_cons k
  inserts-mem (further i) (Memᴰ.head q) = inr (Memᴰ.head q)
  inserts-mem (further i) (Memᴰ.tail k) = ⊎_map (λ q. q) (λ j. Memᴰ.tail j) (inserts-mem i k)

-- sorting keeps the members
pub sort-same : (t : Table) → SameMembers (sort t) t
unfolding sort
sort-same [] = record { to = λ i. i; from = λ i. i }
sort-same (r ∷ t) = record { to = λ i. to (sort-same t) (inserts-mem (insert-inserts r (sort t)) i); from = λ i. from (sort-same t) i }
  where
    to : {y : Row} → SameMembers (sort t) t → (y ≡ r) ⊎ Memᴰ y (sort t) → Memᴰ y (r ∷ t)
    to s (inl q) = Memᴰ.head q
    to s (inr i) = Memᴰ.tail (s.to i)

    from : {y : Row} → SameMembers (sort t) t → Memᴰ y (r ∷ t) → Memᴰ y (insert r (sort t))
    from s (Memᴰ.head q) = Memᴰ.cast q (inserts-new (insert-inserts r (sort t)))
    from s (Memᴰ.tail i) = inserts-old (insert-inserts r (sort t)) (s.from i)

sorted_insert : (r : Row) {t : Table} → ((x : Row) → Memᴰ x t → r.0 ≢ x.0) → Sorted t → Sorted (insert r t)
unfolding insert
sorted_insert r n asc_nil = asc_cons (λ x i. absurd (Memᴰ.not-nil i)) asc_nil
sorted_insert r n (asc_cons {r = x} {t} f s) = go (order r.0 x.0) (sorted_insert r (λ y i. n y (Memᴰ.tail i)) s)
  where
    beyond : Below r.0 x.0 → (y : Row) → (y ≡ x) ⊎ Memᴰ y t → Below r.0 y.0
    beyond h y (inl q) = rw q h
    beyond h y (inr i) = below-trans h (f y i)

    past : Below x.0 r.0 → (y : Row) → (y ≡ r) ⊎ Memᴰ y t → Below x.0 y.0
    past h y (inl q) = rw q h
    past h y (inr i) = f y i

    go : Order r.0 x.0 → Sorted (insert r t) → Sorted (cond (lt_key r.0 x.0) (r ∷ x ∷ t) (x ∷ insert r t))
    go (less h) below = rw (lt_key-below h) (asc_cons (λ y i. beyond h y (Memᴰ.cases_cons i)) (asc_cons f s))
    go (level q) below = absurd (n x (Memᴰ.head refl) q)
    go (more h) below = rw (lt_key-above h) (asc_cons (λ y i. past h y (inserts-mem (insert-inserts r t) i)) below)

lacks-mem : {a : Key} {t : Table} → Lacks a t → (x : Row) → Memᴰ x t → a ≢ x.0
lacks-mem {a = a} lacks_nil x h e = elim h [ ]
lacks-mem (lacks_cons n l) x (Memᴰ.head q) e = n (e ∙ ap (λ r. r.0) q)
lacks-mem (lacks_cons n l) x (Memᴰ.tail i) e = lacks-mem l x i e

mem-lacks : {a : Key} {t : Table} → ((x : Row) → Memᴰ x t → a ≢ x.0) → Lacks a t
mem-lacks {t = []} n = lacks_nil
mem-lacks {t = r ∷ t} n = lacks_cons (n r (Memᴰ.head refl)) (mem-lacks (λ x i. n x (Memᴰ.tail i)))

pub sorted_sort : {t : Table} → Distinct t → Sorted (sort t)
unfolding sort
sorted_sort distinct_nil = asc_nil
sorted_sort (distinct_cons {r} {t} l d) = sorted_insert r (λ x i. lacks-mem l x ((sort-same t).to i)) (sorted_sort d)

pub sorted-distinct : {t : Table} → Sorted t → Distinct t
sorted-distinct asc_nil = distinct_nil
sorted-distinct (asc_cons {r} f s) = distinct_cons (mem-lacks (λ x i q. below_irrefl (subst (λ (k : Key). Below k x.0) q (f x i)))) (sorted-distinct s)

accounts-to : {a : Key} {t u : Table} → Distinct t → Covered t u → Memᴰ a (accounts t) → Memᴰ a (accounts u)
accounts-to {t} d c i =
    let y = Memᴰ.of_map (λ (r : Row). r.0) t i in
    let k = c.cover (row_has {a = y.0.0} {m = y.0.1} d y.1) in
    Memᴰ.cast (sym y.2) (Memᴰ.map (λ (r : Row). r.0) (row-of-has k.1))

-- sorted tables with the same accounts have them in one order
pub same-accounts : {t u : Table} → Sorted t → Sorted u → Covered t u → Covered u t → accounts t ≡ accounts u
same-accounts st su c d =
    ascending-unique
    (ascending-map (λ r. r.0) (λ a. a) st)
    (ascending-map (λ r. r.0) (λ a. a) su)
    (record { to = λ i. accounts-to (sorted-distinct st) c i; from = λ i. accounts-to (sorted-distinct su) d i })
