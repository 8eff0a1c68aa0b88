-- Tables with no two rows for one account: recording keeps them so, because it adds a row only where the search finds none, and they are counted by their
-- accounts. Assumes nothing.
use mathlib.Core.Path.{◌≡◌, refl, sym, ◌∙◌, ap}
use mathlib.Core.Logic.{◌≢◌, by_cases}
use mathlib.Core.List.{List, [], ◌∷◌, map, Memᴰ}
use Prim.Native.Nat.{suc, ◌≤◌}
use native.Mathlib.Omega.{arith}
use lib.ListN.{length, length-map}
use Rattle.wire.proofs.Same.{same-eq, same-ne}
use Rattle.wire.proofs.Order.{key?}
use Rattle.ids.specs.Keys.{Key}
use Rattle.evidence.specs.Table.{Row, Table, add, Has, has_here, has_there, Lacks, lacks_nil, lacks_cons}
use Rattle.evidence.proofs.Table.{lacks-add, has-not-lacks}
use Rattle.evidence.specs.Evidence.{Evidence, put, note, note_all, recorded}
use Rattle.evidence.proofs.Recording.{put-other-lacks, note-cases}

-- no two rows have one account
pub data Distinct : Table → Type 0 where
  distinct_nil : Distinct []
  distinct_cons : {r : Row} {t : Table} → Lacks r.0 t → Distinct t → Distinct (r ∷ t)

-- T2: adding a row for a new account, recording one piece, recording all
pub distinct-add : {a : Key} {t : Table} (m : Key) → Lacks a t → Distinct t → Distinct (add t a m)
distinct-add m lacks_nil distinct_nil = distinct_cons lacks_nil distinct_nil
distinct-add m (lacks_cons n k) (distinct_cons l d) = distinct_cons (lacks-add m (λ e. n (sym e)) l) (distinct-add m k d)

distinct-put : {t : Table} (a m : Key) → Distinct t → Distinct (put t a m)
unfolding put
distinct-put a m distinct_nil = distinct_cons lacks_nil distinct_nil
distinct-put a m (distinct_cons {r} l d) =
    by_cases
    (key? a r.0)
    (λ e. rw (same-eq e) (distinct_cons l d))
    (λ n. rw (same-ne n) (distinct_cons (put-other-lacks (λ e. n (sym e)) m l) (distinct-put a m d)))

distinct-note : {t : Table} (x : Row) → Distinct t → Distinct (note t x)
distinct-note {t} x d = note-cases Distinct x t d (distinct-put x.0 x.1 d)

distinct-note_all : {t : Table} (e : Evidence) → Distinct t → Distinct (note_all t e)
unfolding note_all
distinct-note_all [] d = d
distinct-note_all {t = t} (x ∷ e) d = distinct-note_all {t = note t x} e (distinct-note x d)

pub distinct-recorded : (e : Evidence) → Distinct (recorded e)
unfolding recorded
distinct-recorded e = distinct-note_all e distinct_nil

-- each row of a distinct table is found
pub row_has : {a m : Key} {t : Table} → Distinct t → Memᴰ (a, m) t → Has a m t
row_has {a = a} {m = m} distinct_nil h = elim h [ ]
row_has (distinct_cons l d) (Memᴰ.head q) = has_here (ap (λ r. r.0) q) (ap (λ r. r.1) q)
row_has {a} {m} (distinct_cons {r} {t} l d) (Memᴰ.tail i) = has_there (λ e. has-not-lacks (row_has d i) (rw e l)) (row_has d i)

-- u is t without its first row for a
data Drops (a : Key) : Table → Table → Type 0 where
  drop_here : {r : Row} {t : Table} → a ≡ r.0 → Drops a (r ∷ t) t
  drop_there : {r : Row} {t u : Table} → Drops a t u → Drops a (r ∷ t) (r ∷ u)

drops-length : {a : Key} {t u : Table} → Drops a t u → length t ≡ suc (length u)
drops-length (drop_here e) = refl
drops-length (drop_there d) = ap suc (drops-length d)

has-drops : {a m : Key} {t : Table} → Has a m t → (u : Table) × Drops a t u
has-drops (has_here {t} e f) = (t, drop_here e)
has-drops (has_there {r} n h) = (r ∷ (has-drops h).0, drop_there (has-drops h).1)

drops-has : {a b m : Key} {t u : Table} → b ≢ a → Drops a t u → Has b m t → Has b m u
drops-has n (drop_here e) (has_here f g) = absurd (n (f ∙ sym e))
drops-has n (drop_here e) (has_there f h) = h
drops-has n (drop_there d) (has_here f g) = has_here f g
drops-has n (drop_there d) (has_there f h) = has_there f (drops-has n d h)

-- every account of t has a row in u
pub record Covered (t u : Table) : Type 0 where
  pub cover : {a m : Key} → Has a m t → (k : Key) × Has a k u

-- a distinct table is no longer than a table with all its accounts
pub covered-length : {t u : Table} → Distinct t → Covered t u → length t ≤ length u
covered-length {u} distinct_nil c = omega arith
covered-length {u} (distinct_cons {r} {t} l d) c =
    let v = has-drops (c.cover (has_here refl refl)).1 in
    omega (arith, covered-length d (record { cover = λ h. rest v.1 h }), drops-length v.1)
  where
    rest : {a m : Key} {v : Table} → Drops r.0 u v → Has a m t → (k : Key) × Has a k v
    rest {a} w h =
        let n : a ≢ r.0 = λ e. has-not-lacks h (rw e l) in
        let i = c.cover (has_there n h) in
        (i.0, drops-has n w i.1)

-- the table of a list of keys, each with itself
pub rows : List Key → Table
rows l = map (λ a. (a, a)) l

pub length-rows : (l : List Key) → length (rows l) ≡ length l
unfolding rows
length-rows l = length-map l (λ a. (a, a))

pub mem-rows : {a : Key} {l : List Key} → Memᴰ a l → Has a a (rows l)
unfolding rows
mem-rows (Memᴰ.head e) = has_here e e
mem-rows {a} (Memᴰ.tail {x} i) = by_cases (key? a x) (λ e. has_here e e) (λ n. has_there n (mem-rows i))
