-- What the search finds, also in a longer table: the first row of the account, if there is one. Assumes nothing.
use mathlib.Core.Path.{◌≡◌, refl, sym, ◌∙◌, Σ_path}
use mathlib.Core.Logic.{◌≢◌, ◌⊎◌, inl, inr, by_cases}
use mathlib.Core.Option.{Option, none, some}
use mathlib.Core.List.{[], ◌∷◌, Memᴰ}
use Rattle.wire.proofs.Same.{same-eq, same-ne}
use Rattle.wire.proofs.Order.{key?}
use Rattle.ids.specs.Keys.{Key}
use Rattle.evidence.specs.Table.{Has, Lacks, Table, add, has_here, has_there, lacks_cons, lacks_nil, lookup}

-- what a search says of the table
pub data Found (t : Table) (a : Key) : Option Key → Type 0 where
  at : {m : Key} → Has a m t → Found t a (some m)
  nowhere : Lacks a t → Found t a none

module _ {a : Key} where
  pub has-lookup : {m : Key} {t : Table} → Has a m t → lookup t a ≡ some m
  unfolding lookup
  has-lookup (has_here e f) = rw (same-eq e, f)
  has-lookup (has_there n h) = rw (same-ne n, has-lookup h)

  pub lacks-lookup : {t : Table} → Lacks a t → lookup t a ≡ none
  unfolding lookup
  lacks-lookup lacks_nil = refl
  lacks-lookup (lacks_cons n l) = rw (same-ne n, lacks-lookup l)

  -- every search ends in one of the two
  pub found : (t : Table) → Found t a (lookup t a)
  unfolding lookup
  found [] = nowhere lacks_nil
  found (r ∷ t) =
      by_cases
      (key? a r.0)
      (λ e. rw (same-eq e) (at (has_here e refl)))
      (λ n. rw (same-ne n) (up n (found t)))
    where
      up : {o : Option Key} → a ≢ r.0 → Found t a o → Found (r ∷ t) a o
      up n (at h) = at (has_there n h)
      up n (nowhere l) = nowhere (lacks_cons n l)

  pub lookup-has : (t : Table) {m : Key} → lookup t a ≡ some m → Has a m t
  lookup-has t {m} q = go (rw q at (found t))
    where
      go : Found t a (some m) → Has a m t
      go (at h) = h

  pub lookup-lacks : (t : Table) → lookup t a ≡ none → Lacks a t
  lookup-lacks t q = go (rw q at (found t))
    where
      go : Found t a none → Lacks a t
      go (nowhere l) = l

  -- the two cases of an account
  pub has-or-lacks : (t : Table) → ((m : Key) × Has a m t) ⊎ Lacks a t
  has-or-lacks t = go (found t)
    where
      go : {o : Option Key} → Found t a o → ((m : Key) × Has a m t) ⊎ Lacks a t
      go (at {m} h) = inl (m, h)
      go (nowhere l) = inr l

  pub has_one : {m k : Key} {t : Table} → Has a m t → Has a k t → m ≡ k
  has_one (has_here e f) (has_here e' f') = f ∙ sym f'
  has_one (has_here e f) (has_there n h) = absurd (n e)
  has_one (has_there n h) (has_here e f) = absurd (n e)
  has_one (has_there n h) (has_there n' h') = has_one h h'

  pub has-not-lacks : {m : Key} {t : Table} → Has a m t → ¬ Lacks a t
  has-not-lacks (has_here e f) (lacks_cons n l) = n e
  has-not-lacks (has_there n h) (lacks_cons n' l) = has-not-lacks h l

  -- what is found stands in a row
  pub row-of-has : {m : Key} {t : Table} → Has a m t → Memᴰ (a, m) t
  row-of-has (has_here e f) = Memᴰ.head (Σ_path e f)
  row-of-has (has_there n h) = Memᴰ.tail (row-of-has h)

  -- a row more changes nothing that is found
  pub has-add : {m : Key} {t : Table} (b k : Key) → Has a m t → Has a m (add t b k)
  has-add b k (has_here e f) = has_here e f
  has-add b k (has_there n h) = has_there n (has-add b k h)

  -- the row that is added for a new account is found
  pub has_new : {t : Table} (m : Key) → Lacks a t → Has a m (add t a m)
  has_new m lacks_nil = has_here refl refl
  has_new m (lacks_cons n l) = has_there n (has_new m l)

  pub lacks-add : {t : Table} {b : Key} (k : Key) → a ≢ b → Lacks a t → Lacks a (add t b k)
  lacks-add k d lacks_nil = lacks_cons d lacks_nil
  lacks-add k d (lacks_cons n l) = lacks_cons n (lacks-add k d l)

-- what is found in a table with one row more, for a new account
pub add-cases : {a b k m : Key} {t : Table} → Lacks b t → Has a k (add t b m) → Has a k t ⊎ ((a ≡ b) × (k ≡ m))
add-cases {a} {b} {k} {m} {t} l h = go (has-or-lacks t)
  where
    new : (a ≡ b) → Has b k (add t b m)
    new e = rw e at h

    go : ((j : Key) × Has a j t) ⊎ Lacks a t → Has a k t ⊎ ((a ≡ b) × (k ≡ m))
    go (inl (j, i)) = inl (rw (has_one h (has-add b m i)) i)
    go (inr n) = by_cases (key? a b) (λ e. inr (e, has_one (new e) (has_new m l))) (λ d. absurd (has-not-lacks h (lacks-add m d n)))
