-- T1: after all evidence the table says of each account what the members of the evidence say, since each piece changes the row of its account alone. Assumes
-- nothing.
use mathlib.Core.Path.{◌≡◌, refl, sym, ◌∙◌, ap}
use mathlib.Core.Logic.{◌≢◌, ◌⊎◌, inl, inr, ⊎_elim, by_cases}
use mathlib.Core.Bool.{Bool, true, false, cond, ◌||◌, or-true}
use mathlib.Core.List.Memᴰ
use mathlib.Core.List.{[], ◌∷◌, ◌++◌, append_assoc, append-nil, Memᴰ}
use Rattle.wire.proofs.Same.{same-eq, same-ne}
use Rattle.wire.proofs.Order.{key?}
use Rattle.ids.specs.Keys.{Key, zero_key, is_zero}
use Rattle.evidence.specs.Table.{Row, Table, add, Has, has_here, has_there, Lacks, lacks_nil, lacks_cons, lookup}
use Rattle.evidence.proofs.Table.{has_new, has_one, has-not-lacks, has-lookup, lacks-lookup}
use Rattle.evidence.specs.Evidence.{Evidence, put, note, note_all, recorded, Says, Free, One, Clash}
use Rattle.evidence.proofs.Evidence.{NotedAs, free, one, clash, Agree, free-map, one_map, clash-map}

module _ {a m : Key} where
  pub put_same : {t : Table} → Has a m t → put t a m ≡ t
  unfolding put
  put_same (has_here e f) = rw (same-eq e, same-eq f)
  put_same (has_there n h) = rw (same-ne n, put_same h)

  pub put-clash : {k : Key} {t : Table} → m ≢ k → Has a k t → Has a zero_key (put t a m)
  unfolding put
  put-clash d (has_here {r} e f) = rw (same-eq e, same-ne (λ (g : m ≡ r.1). d (g ∙ sym f))) (has_here e refl)
  put-clash d (has_there n h) = rw (same-ne n) (has_there n (put-clash d h))

pub put-new : {a : Key} {t : Table} (m : Key) → Lacks a t → put t a m ≡ add t a m
unfolding put
put-new m lacks_nil = refl
put-new m (lacks_cons n l) = rw (same-ne n, put-new m l)

-- evidence for one account leaves the others alone
module _ {a b : Key} (n : b ≢ a) (m : Key) where
  pub put_other : {k : Key} {t : Table} → Has b k t → Has b k (put t a m)
  unfolding put
  put_other (has_here {r} {t} e f) = rw (same-ne (λ (g : a ≡ r.0). n (e ∙ sym g))) (has_here e f)
  put_other (has_there {r} {t} d h) = by_cases (key? a r.0) (λ g. rw (same-eq g) (has_there d h)) (λ g. rw (same-ne g) (has_there d (put_other h)))

  pub put-other-lacks : {t : Table} → Lacks b t → Lacks b (put t a m)
  unfolding put
  put-other-lacks lacks_nil = lacks_cons n lacks_nil
  put-other-lacks (lacks_cons {r} {t} d l) = by_cases (key? a r.0) (λ g. rw (same-eq g) (lacks_cons d l)) (λ g. rw (same-ne g) (lacks_cons d (put-other-lacks l)))

pub note-account : (x : Row) (t : Table) → x.0 ≡ zero_key → note t x ≡ t
unfolding note
note-account x t e = rw (same-eq e)

pub note-mint : (x : Row) (t : Table) → x.1 ≡ zero_key → note t x ≡ t
unfolding note
note-mint x t e = rw (same-eq e, or-true (is_zero x.0))

pub note-valid : (x : Row) (t : Table) → x.0 ≢ zero_key → x.1 ≢ zero_key → note t x ≡ put t x.0 x.1
unfolding note
note-valid x t n d = rw (same-ne n, same-ne d)

-- a piece of evidence leaves the table as it is, or puts a mint
pub note-cases : (P : Table → Type 0) (x : Row) (t : Table) → P t → P (put t x.0 x.1) → P (note t x)
unfolding note
note-cases P x t old new = go (is_zero x.0 || is_zero x.1)
  where
    go : (b : Bool) → P (cond b t (put t x.0 x.1))
    go true = old
    go false = new

noted-map : {e e' : Evidence} {a : Key} {t : Table} → Agree e e' a → NotedAs e a t → NotedAs e' a t
noted-map g (free f l) = free (free-map g f) l
noted-map g (one o h) = one (one_map g o) h
noted-map g (clash c h) = clash (clash-map g c) h

put-other-noted : {e : Evidence} {a b : Key} {t : Table} (m : Key) → b ≢ a → NotedAs e b t → NotedAs e b (put t a m)
put-other-noted m n (free f l) = free f (put-other-lacks n m l)
put-other-noted m n (one o h) = one o (put_other n m h)
put-other-noted m n (clash c h) = clash c (put_other n m h)

-- evidence e and one piece x more
module _ {e : Evidence} {a m : Key} (x : Row) where
  says-old : Says e a m → Says (e ++ (x ∷ [])) a m
  says-old s = record { piece = Memᴰ.append_left (x ∷ []) s.piece; account = s.account; mint = s.mint }

  says-cases : Says (e ++ (x ∷ [])) a m → Says e a m ⊎ ((a, m) ≡ x)
  says-cases s = go (Memᴰ.append_cases e s.piece)
    where
      go : Memᴰ (a, m) e ⊎ Memᴰ (a, m) (x ∷ []) → Says e a m ⊎ ((a, m) ≡ x)
      go (inl h) = inl (record { piece = h; account = s.account; mint = s.mint })
      go (inr h) = inr (Memᴰ.eq_of_singleton h)

-- a piece that is no valid evidence for a
agree-skip : (e : Evidence) (x : Row) {a : Key} → ((m : Key) → a ≢ zero_key → m ≢ zero_key → (a, m) ≢ x) → Agree e (e ++ (x ∷ [])) a
agree-skip e x {a} n =
    record {
      to = λ s. says-old x s;
      from = λ s. ⊎_elim (λ h. h) (λ q. absurd (n _ s.account s.mint q)) (says-cases x s);
    }

-- valid evidence for a itself
module _ (e : Evidence) {a m : Key} (va : a ≢ zero_key) (vm : m ≢ zero_key) where
  new : Says (e ++ ((a, m) ∷ [])) a m
  new = record { piece = Memᴰ.append_right e (Memᴰ.head refl); account = va; mint = vm }

  put-noted : {t : Table} → NotedAs e a t → NotedAs (e ++ ((a, m) ∷ [])) a (put t a m)
  put-noted {t} (free f l) = rw (put-new m l) (one (record { says = new; only = only }) (has_new m l))
    where
      only : {k : Key} → Says (e ++ ((a, m) ∷ [])) a k → k ≡ m
      only s = ⊎_elim (λ h. absurd (f.silent h)) (λ q. ap (λ r. r.1) q) (says-cases (a, m) s)
  put-noted {t} (one {m = k} o h) = by_cases (key? m k) same differ
    where
      same : m ≡ k → NotedAs (e ++ ((a, m) ∷ [])) a (put t a m)
      same q = rw (put_same (rw (← q) at h)) (one (record { says = new; only = only }) (rw (← q) at h))
        where
          only : {j : Key} → Says (e ++ ((a, m) ∷ [])) a j → j ≡ m
          only s = ⊎_elim (λ i. o.only i ∙ sym q) (λ p. ap (λ r. r.1) p) (says-cases (a, m) s)

      differ : m ≢ k → NotedAs (e ++ ((a, m) ∷ [])) a (put t a m)
      differ d = clash (record { m = m; k = k; says = new; other = says-old (a, m) o.says; differ = d }) (put-clash d h)
  put-noted {t} (clash c h) =
      clash
      (record { m = c.m; k = c.k; says = says-old (a, m) c.says; other = says-old (a, m) c.other; differ = c.differ })
      (put-clash vm h)

note-noted : (e : Evidence) (x : Row) (t : Table) (a : Key) → NotedAs e a t → NotedAs (e ++ (x ∷ [])) a (note t x)
note-noted e x t a h =
    by_cases
    (key? x.0 zero_key)
    (λ z. rw (note-account x t z) (noted-map (agree-skip e x (λ m va vm q. va (ap (λ r. r.0) q ∙ z))) h))
    (λ va.
    by_cases
    (key? x.1 zero_key)
    (λ z. rw (note-mint x t z) (noted-map (agree-skip e x (λ m _ vm q. vm (ap (λ r. r.1) q ∙ z))) h))
    (λ vm.
    rw
    (note-valid x t va vm)
    (by_cases
    (key? a x.0)
    (λ q. rw q (put-noted e va vm (rw q at h)))
    (λ n. put-other-noted x.1 n (noted-map (agree-skip e x (λ m _ _ q. n (ap (λ r. r.0) q))) h)))))

note_all-noted : (e d : Evidence) (t : Table) (a : Key) → NotedAs e a t → NotedAs (e ++ d) a (note_all t d)
unfolding note_all
note_all-noted e [] t a h = rw append-nil h
note_all-noted e (x ∷ d) t a h = rw (← append_assoc e (x ∷ []) d) (note_all-noted (e ++ (x ∷ [])) d (note t x) a (note-noted e x t a h))

-- T1. After all evidence the table says of each account what the evidence says: nothing, one mint, or that two pieces differ.
pub recorded-noted : (e : Evidence) (a : Key) → NotedAs e a (recorded e)
unfolding recorded
recorded-noted e a = note_all-noted [] e [] a (free (record { silent = λ s. Memᴰ.not-nil s.piece }) lacks_nil)

-- the three cases exclude each other, so each is told by the table
module _ {e : Evidence} {a : Key} where
  one-not-clash : {m : Key} → One e a m → ¬ Clash e a
  one-not-clash o c = c.differ (o.only c.says ∙ sym (o.only c.other))

  pub one_not_zero : {m : Key} → One e a m → m ≢ zero_key
  one_not_zero o = o.says.mint

  pub one_has : {m : Key} → One e a m → Has a m (recorded e)
  one_has {m} o = go (recorded-noted e a)
    where
      go : {t : Table} → NotedAs e a t → Has a m t
      go (free f l) = absurd (f.silent o.says)
      go (one {m = k} p h) = rw (p.only o.says) h
      go (clash c h) = absurd (one-not-clash o c)

  pub has-one-recorded : {m : Key} → Has a m (recorded e) → m ≢ zero_key → One e a m
  has-one-recorded {m} h d = go (recorded-noted e a) h
    where
      go : {t : Table} → NotedAs e a t → Has a m t → One e a m
      go (free f l) i = absurd (has-not-lacks i l)
      go (one {m = k} p j) i = rw (has_one i j) p
      go (clash c j) i = absurd (d (has_one i j))

  pub clash-has : Clash e a → Has a zero_key (recorded e)
  clash-has c = go (recorded-noted e a)
    where
      go : {t : Table} → NotedAs e a t → Has a zero_key t
      go (free f l) = absurd (f.silent c.says)
      go (one p h) = absurd (one-not-clash p c)
      go (clash _ h) = h

  pub has-clash : Has a zero_key (recorded e) → Clash e a
  has-clash h = go (recorded-noted e a) h
    where
      go : {t : Table} → NotedAs e a t → Has a zero_key t → Clash e a
      go (free f l) i = absurd (has-not-lacks i l)
      go (one p j) i = absurd (one_not_zero p (has_one j i))
      go (clash c j) i = c

  pub free-lacks : Free e a → Lacks a (recorded e)
  free-lacks f = go (recorded-noted e a)
    where
      go : {t : Table} → NotedAs e a t → Lacks a t
      go (free _ l) = l
      go (one p h) = absurd (f.silent p.says)
      go (clash c h) = absurd (f.silent c.says)

  pub lacks-free : Lacks a (recorded e) → Free e a
  lacks-free l = go (recorded-noted e a) l
    where
      go : {t : Table} → NotedAs e a t → Lacks a t → Free e a
      go (free f _) i = f
      go (one p h) i = absurd (has-not-lacks h i)
      go (clash c h) i = absurd (has-not-lacks h i)

-- T1 for two orders: evidence that says the same of an account gives it the same search
pub recorded-lookup : {e e' : Evidence} {a : Key} → Agree e e' a → lookup (recorded e) a ≡ lookup (recorded e') a
recorded-lookup {e} {e'} {a} g = go (recorded-noted e a)
  where
    go : {t : Table} → NotedAs e a t → lookup t a ≡ lookup (recorded e') a
    go (free f l) = lacks-lookup l ∙ sym (lacks-lookup (free-lacks (free-map g f)))
    go (one o h) = has-lookup h ∙ sym (has-lookup (one_has (one_map g o)))
    go (clash c h) = has-lookup h ∙ sym (has-lookup (clash-has (clash-map g c)))
