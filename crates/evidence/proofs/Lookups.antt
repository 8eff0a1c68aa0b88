-- For a program that knows what a search finds for each key: what it finds after one piece of evidence, one transfer, and in the final table; each changes
-- the row of one account alone. Assumes nothing.
use mathlib.Core.Path.{◌≡◌, refl, ◌∙◌, ap}
use mathlib.Core.Logic.{◌≢◌, by_cases, ⊎_elim}
use mathlib.Core.Bool.{Bool, true, false, cond, ◌||◌}
use mathlib.Core.Option.{Option, none, some}
use Prim.Native.Nat.{suc}
use lib.ListN.{length}
use Rattle.wire.specs.Same.{same}
use Rattle.wire.proofs.Same.{same-eq, same-ne}
use Rattle.wire.proofs.Order.{key?}
use Rattle.ids.specs.Keys.{Key, zero_key, is_zero}
use Rattle.evidence.specs.Table.{Row, Table, add, lookup, Has, has_here, has_there}
use Rattle.evidence.proofs.Table.{Found, at, nowhere, found, has-lookup, lacks-lookup, lookup-has, lookup-lacks, has-add, has_new, has-not-lacks, has_one, lacks-add}
use Rattle.evidence.specs.Evidence.{Evidence, put, note}
use Rattle.evidence.proofs.Recording.{put_same, put-clash, put-new, put_other, put-other-lacks, note-valid, note-cases}
use Rattle.evidence.proofs.Distinct.{Distinct}
use Rattle.evidence.specs.Passes.{Transfers, fill, spread, step}
use Rattle.evidence.proofs.Passes.{length-add}
use Rattle.evidence.proofs.Infer.{Settled}
use Rattle.evidence.proofs.Chains.{chain-account, rowed}
use Rattle.evidence.specs.Final.{final}
use Rattle.evidence.proofs.Final.{final-gives, gives-final}

-- the account of a row that is added
pub add-here : (t : Table) (a m : Key) → lookup t a ≡ none → lookup (add t a m) a ≡ some m
add-here t a m q = has-lookup (has_new m (lookup-lacks t q))

-- any other account
pub add-other : (t : Table) {a b : Key} (m : Key) → a ≢ b → lookup (add t b m) a ≡ lookup t a
add-other t {a} {b} m n = go (found t)
  where
    go : {o : Option Key} → Found t a o → lookup (add t b m) a ≡ o
    go (at h) = has-lookup (has-add b m h)
    go (nowhere l) = lacks-lookup (lacks-add m n l)

-- the mint of an account after one piece of evidence more
unfoldable pub merge : Option Key → Key → Key
merge none m = m
merge (some k) m = cond (same m k) k zero_key

put-here : (t : Table) (a m : Key) → lookup (put t a m) a ≡ some (merge (lookup t a) m)
unfolding merge
put-here t a m = go (found t)
  where
    go : {o : Option Key} → Found t a o → lookup (put t a m) a ≡ some (merge o m)
    go (nowhere l) = rw (put-new m l) (has-lookup (has_new m l))
    go (at {m = k} h) =
        by_cases
        (key? m k)
        (λ q. rw (same-eq q, put_same (rw (← q) at h)) (has-lookup h))
        (λ n. rw (same-ne n) (has-lookup (put-clash n h)))

put-elsewhere : (t : Table) {a b : Key} (m : Key) → b ≢ a → lookup (put t a m) b ≡ lookup t b
put-elsewhere t {a} {b} m n = go (found t)
  where
    go : {o : Option Key} → Found t b o → lookup (put t a m) b ≡ o
    go (at h) = has-lookup (put_other n m h)
    go (nowhere l) = lacks-lookup (put-other-lacks n m l)

put-length : {a k : Key} {t : Table} (m : Key) → Has a k t → length (put t a m) ≡ length t
unfolding put
put-length m (has_here e f) = rw (same-eq e)
put-length m (has_there n h) = rw (same-ne n, put-length m h)

-- one piece of evidence: its account
pub note-here : (t : Table) (x : Row) → x.0 ≢ zero_key → x.1 ≢ zero_key → lookup (note t x) x.0 ≡ some (merge (lookup t x.0) x.1)
note-here t x n d = rw (note-valid x t n d) (put-here t x.0 x.1)

-- any other account
pub note-other : (t : Table) (x : Row) {a : Key} → a ≢ x.0 → lookup (note t x) a ≡ lookup t a
note-other t x {a} n = note-cases (λ (u : Table). lookup u a ≡ lookup t a) x t refl (put-elsewhere t x.1 n)

-- a row more for an account with none, and as many rows for any other
pub note-first : (t : Table) (x : Row) → x.0 ≢ zero_key → x.1 ≢ zero_key → lookup t x.0 ≡ none → length (note t x) ≡ suc (length t)
note-first t x n d q = rw (note-valid x t n d, put-new x.1 (lookup-lacks t q)) (length-add t x.0 x.1)

pub note-again : (t : Table) (x : Row) {k : Key} → lookup t x.0 ≡ some k → length (note t x) ≡ length t
note-again t x q = note-cases (λ (u : Table). length u ≡ length t) x t refl (put-length x.1 (lookup-has t q))

-- a transfer with the zero key at an end does nothing
pub step-zero : (t : Table) (p : Row) → (is_zero p.0 || is_zero p.1) ≡ true → step t p ≡ t
unfolding step
step-zero t p e = rw e

-- a transfer does what the mints of its ends say
pub step_by : (t : Table) (p : Row) → p.0 ≢ zero_key → p.1 ≢ zero_key → step t p ≡ spread t p (lookup t p.0) (lookup t p.1)
unfolding step
step_by t p n d = rw (same-ne n, same-ne d)

-- the source's mint for a destination that has none, and the other way
pub step-forth : (t : Table) (p : Row) (m : Key) → p.0 ≢ zero_key → p.1 ≢ zero_key → lookup t p.0 ≡ some m → m ≢ zero_key → lookup t p.1 ≡ none → step t p ≡ add t p.1 m
unfolding spread fill
step-forth t p m n d q z o = step_by t p n d ∙ rw (q, o, same-ne z)

pub step_back : (t : Table) (p : Row) (m : Key) → p.0 ≢ zero_key → p.1 ≢ zero_key → lookup t p.0 ≡ none → lookup t p.1 ≡ some m → m ≢ zero_key → step t p ≡ add t p.0 m
unfolding spread fill
step_back t p m n d o q z = step_by t p n d ∙ rw (q, o, same-ne z)

-- nothing happens whatever the keys are, where the mints of the ends ask for nothing
idle : (t : Table) (p : Row) → spread t p (lookup t p.0) (lookup t p.1) ≡ t → step t p ≡ t
unfolding step
idle t p q = go (is_zero p.0 || is_zero p.1)
  where
    go : (b : Bool) → cond b t (spread t p (lookup t p.0) (lookup t p.1)) ≡ t
    go true = refl
    go false = q

-- both ends have a row
pub step-known : (t : Table) (p : Row) (m k : Key) → lookup t p.0 ≡ some m → lookup t p.1 ≡ some k → step t p ≡ t
unfolding spread
step-known t p m k q o = idle t p (rw (q, o))

-- neither has
pub step-unknown : (t : Table) (p : Row) → lookup t p.0 ≡ none → lookup t p.1 ≡ none → step t p ≡ t
unfolding spread
step-unknown t p q o = idle t p (rw (q, o))

-- one is ambiguous and the other has none
pub step-ambiguous : (t : Table) (p : Row) → lookup t p.0 ≡ some zero_key → lookup t p.1 ≡ none → step t p ≡ t
unfolding spread fill
step-ambiguous t p q o = idle t p (rw (q, o, same-eq {a = zero_key} refl))

pub step-ambiguous-back : (t : Table) (p : Row) → lookup t p.0 ≡ none → lookup t p.1 ≡ some zero_key → step t p ≡ t
unfolding spread fill
step-ambiguous-back t p q o = idle t p (rw (q, o, same-eq {a = zero_key} refl))

-- the mint of an account when ambiguous accounts are removed
unfoldable pub known : Option Key → Option Key
known none = none
known (some m) = cond (is_zero m) none (some m)

pub known-mint : (m : Key) → m ≢ zero_key → known (some m) ≡ some m
unfolding known
known-mint m n = rw (same-ne n)

pub known-zero : known (some zero_key) ≡ none
unfolding known
known-zero = rw (same-eq {a = zero_key} refl)

-- what a search of the final table finds
pub final-lookup : {t : Table} → Distinct t → (a : Key) → lookup (final t) a ≡ known (lookup t a)
unfolding known
final-lookup {t} d a = go (found t) (found (final t))
  where
    go : {o q : Option Key} → Found t a o → Found (final t) a q → q ≡ known o
    go (nowhere l) (nowhere k) = refl
    go (nowhere l) (at h) = absurd (has-not-lacks (final-gives d h).0 l)
    go (at {m} i) (nowhere k) = by_cases (key? m zero_key) (λ z. rw (same-eq z)) (λ n. absurd (has-not-lacks (gives-final d i n) k))
    go (at {m} i) (at {m = k} h) =
        let g = final-gives d h in
        let e = has_one g.0 i in
        rw (same-ne (λ z. g.1 (e ∙ z))) (ap some e)

-- the zero key has no row
pub zero-lacks : {e : Evidence} {ps : Transfers} {t : Table} → Settled e ps t → lookup t zero_key ≡ none
zero-lacks {t} s = go (found t)
  where
    go : {o : Option Key} → Found t zero_key o → o ≡ none
    go (nowhere l) = refl
    go (at {m} h) = absurd (⊎_elim (λ c. c.says.account refl) (λ c. chain-account c.1 refl) ((rowed s).0 (m, h)))
