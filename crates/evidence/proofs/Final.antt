-- What the final table keeps: every row with a mint, sorted, and nothing else, since sorting keeps the members and an ambiguous row is left out. Assumes
-- nothing.
use mathlib.Core.Path.{◌≡◌, sym, ◌∙◌, ap}
use mathlib.Core.Logic.{◌≢◌, by_cases}
use mathlib.Core.List.Memᴰ
use mathlib.Core.List.{[], ◌∷◌, Memᴰ}
use Rattle.wire.proofs.Same.{same-eq, same-ne}
use Rattle.wire.proofs.Order.{key?}
use Rattle.ids.specs.Keys.{Key, zero_key}
use Rattle.evidence.specs.Table.{Row, Table, Has, Lacks, lacks_cons}
use Rattle.evidence.proofs.Table.{row-of-has}
use Rattle.evidence.proofs.Distinct.{Distinct, distinct_cons, row_has}
use Rattle.evidence.proofs.Sorted.{Sorted, sort-same, sorted_sort, sorted-distinct}
use Rattle.evidence.specs.Final.{clean, final}

-- u is t without its ambiguous rows
pub data Cleans : Table → Table → Type 0 where
  none_left : Cleans [] []
  dropped : {r : Row} {t u : Table} → r.1 ≡ zero_key → Cleans t u → Cleans (r ∷ t) u
  stays : {r : Row} {t u : Table} → r.1 ≢ zero_key → Cleans t u → Cleans (r ∷ t) (r ∷ u)

pub cleans : (t : Table) → Cleans t (clean t)
unfolding clean
cleans [] = none_left
cleans (r ∷ t) = by_cases (key? r.1 zero_key) (λ z. rw (same-eq z) (dropped z (cleans t))) (λ n. rw (same-ne n) (stays n (cleans t)))

cleans-lacks : {a : Key} {t u : Table} → Cleans t u → Lacks a t → Lacks a u
cleans-lacks none_left l = l
cleans-lacks (dropped z c) (lacks_cons n l) = cleans-lacks c l
cleans-lacks (stays z c) (lacks_cons n l) = lacks_cons n (cleans-lacks c l)

cleans-distinct : {t u : Table} → Cleans t u → Distinct t → Distinct u
cleans-distinct none_left d = d
cleans-distinct (dropped z c) (distinct_cons l d) = cleans-distinct c d
cleans-distinct (stays z c) (distinct_cons l d) = distinct_cons (cleans-lacks c l) (cleans-distinct c d)

pub cleans-mem : {x : Row} {t u : Table} → Cleans t u → Memᴰ x u → Memᴰ x t × (x.1 ≢ zero_key)
cleans-mem none_left i = absurd (Memᴰ.not-nil i)
cleans-mem (dropped z c) i = let k = cleans-mem c i in (Memᴰ.tail k.0, k.1)
cleans-mem (stays n c) (Memᴰ.head q) = (Memᴰ.head q, λ z. n (sym (ap (λ (y : Row). y.1) q) ∙ z))
cleans-mem (stays n c) (Memᴰ.tail i) = let k = cleans-mem c i in (Memᴰ.tail k.0, k.1)

pub mem-cleans : {x : Row} {t u : Table} → Cleans t u → x.1 ≢ zero_key → Memᴰ x t → Memᴰ x u
mem-cleans none_left n i = i
mem-cleans (dropped z c) n (Memᴰ.head q) = absurd (n (ap (λ (y : Row). y.1) q ∙ z))
mem-cleans (dropped z c) n (Memᴰ.tail i) = mem-cleans c n i
mem-cleans (stays d c) n (Memᴰ.head q) = Memᴰ.head q
mem-cleans (stays d c) n (Memᴰ.tail i) = Memᴰ.tail (mem-cleans c n i)

-- the rows of the final table are the mints that the table gives
module _ {t : Table} (d : Distinct t) where
  pub final-sorted : Sorted (final t)
  unfolding final
  final-sorted = sorted_sort (cleans-distinct (cleans t) d)

  pub final-has : {a m : Key} → Memᴰ (a, m) (final t) → Has a m t × (m ≢ zero_key)
  unfolding final
  final-has i = let k = cleans-mem (cleans t) ((sort-same (clean t)).to i) in (row_has d k.0, k.1)

  pub has-final : {a m : Key} → Has a m t → m ≢ zero_key → Memᴰ (a, m) (final t)
  unfolding final
  has-final h n = (sort-same (clean t)).from (mem-cleans (cleans t) n (row-of-has h))

-- a search of the final table finds the mints that the table gives
module _ {t : Table} (d : Distinct t) where
  pub final-gives : {a m : Key} → Has a m (final t) → Has a m t × (m ≢ zero_key)
  final-gives h = final-has d (row-of-has h)

  pub gives-final : {a m : Key} → Has a m t → m ≢ zero_key → Has a m (final t)
  gives-final h n = row_has (sorted-distinct (final-sorted d)) (has-final d h n)
