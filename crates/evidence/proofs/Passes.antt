-- What a step and a pass do to a table: it grows by a row that a transfer hands on, or stays, as the two ends' mints decide. Assumes nothing.
use mathlib.Core.Path.{◌≡◌, refl, ◌∙◌, subst}
use mathlib.Core.Logic.{◌≢◌, by_cases}
use mathlib.Core.Bool.{or-true}
use mathlib.Core.Option.{Option}
use mathlib.Core.List.{[], ◌∷◌, Memᴰ}
use Prim.Native.Nat.{suc, ◌≤◌}
use native.Mathlib.Omega.{arith}
use lib.ListN.{length, length-append}
use Rattle.wire.proofs.Same.{same-eq, same-ne}
use Rattle.wire.proofs.Order.{key?}
use Rattle.ids.specs.Keys.{Key, zero_key, is_zero}
use Rattle.evidence.specs.Table.{Row, Table, add, Has, Lacks}
use Rattle.evidence.proofs.Table.{Found, at, nowhere, found, has-not-lacks, has_one}
use Rattle.evidence.specs.Passes.{Ends, Joined, Transfers, back, fill, forth, joined, pass, spread, step}

-- one mint is handed on: a has it, and b has no row
pub record Hands (a b m : Key) (t : Table) : Type 0 where
  pub from : Has a m t
  pub mint : m ≢ zero_key
  pub source : a ≢ zero_key
  pub target : b ≢ zero_key
  pub fresh : Lacks b t

-- neither end of a transfer can hand on a mint
pub record Stuck (t : Table) (p : Row) : Type 0 where
  pub stuck : {a b m : Key} → Ends a b p → ¬ Hands a b m t

-- what a step does: it hands a mint from one end to the other, or neither end can
pub data SteppedTo (t : Table) (p : Row) : Table → Type 0 where
  handed : {a b m : Key} → Ends a b p → Hands a b m t → SteppedTo t p (add t b m)
  still : Stuck t p → SteppedTo t p t

module _ (t : Table) (p : Row) where
  both-stuck : ((m : Key) → ¬ Hands p.0 p.1 m t) → ((m : Key) → ¬ Hands p.1 p.0 m t) → Stuck t p
  both-stuck f g = record { stuck = λ x h. go x h }
    where
      go : {a b m : Key} → Ends a b p → ¬ Hands a b m t
      go {m} (forth q) h = f m (subst (λ (r : Row). Hands r.0 r.1 m t) q h)
      go {m} (back q) h = g m (subst (λ (r : Row). Hands r.1 r.0 m t) q h)

  -- past the zero keys, by what is known of the two ends
  spread-view : {o q : Option Key} → p.0 ≢ zero_key → p.1 ≢ zero_key → Found t p.0 o → Found t p.1 q → SteppedTo t p (spread t p o q)
  unfolding spread fill
  spread-view n d (at h) (at k) = still (both-stuck (λ m i. has-not-lacks k i.fresh) (λ m i. has-not-lacks h i.fresh))
  spread-view n d (at {m} h) (nowhere l) =
      by_cases
      (key? m zero_key)
      (λ z. rw (same-eq z) (still (both-stuck (λ k i. i.mint (has_one i.from h ∙ z)) (λ k i. has-not-lacks h i.fresh))))
      (λ z. rw (same-ne z) (handed (forth refl) (record { from = h; mint = z; source = n; target = d; fresh = l })))
  spread-view n d (nowhere l) (at {m} h) =
      by_cases
      (key? m zero_key)
      (λ z. rw (same-eq z) (still (both-stuck (λ k i. has-not-lacks h i.fresh) (λ k i. i.mint (has_one i.from h ∙ z)))))
      (λ z. rw (same-ne z) (handed (back refl) (record { from = h; mint = z; source = d; target = n; fresh = l })))
  spread-view n d (nowhere l) (nowhere k) = still (both-stuck (λ m i. has-not-lacks i.from l) (λ m i. has-not-lacks i.from k))

  pub step-view : SteppedTo t p (step t p)
  unfolding step
  step-view =
      by_cases
      (key? p.0 zero_key)
      (λ z. rw (same-eq z) (still (both-stuck (λ m i. i.source z) (λ m i. i.target z))))
      (λ n.
      by_cases
      (key? p.1 zero_key)
      (λ z. rw (same-eq z, or-true (is_zero p.0)) (still (both-stuck (λ m i. i.target z) (λ m i. i.source z))))
      (λ d. rw (same-ne n, same-ne d) (spread-view n d (found t) (found t))))

-- u comes from t by handing mints along transfers of ps
pub data Grown (ps : Transfers) (u : Table) : Table → Type 0 where
  grown : Grown ps u u
  grow : {a b m : Key} {t : Table} → Joined ps a b → Hands a b m t → Grown ps u (add t b m) → Grown ps u t

-- no transfer can hand on a mint
pub record Closed (ps : Transfers) (t : Table) : Type 0 where
  pub closed : {a b m : Key} → Joined ps a b → ¬ Hands a b m t

pub grown-trans : {ps : Transfers} {u t v : Table} → Grown ps u t → Grown ps v u → Grown ps v t
grown-trans grown h = h
grown-trans (grow j i g) h = grow j i (grown-trans g h)

module _ {ps : Transfers} where
  pass-grown-from : (t : Table) (qs : Transfers) → ((p : Row) → Memᴰ p qs → Memᴰ p ps) → Grown ps (pass t qs) t
  unfolding pass
  pass-grown-from t [] sub = grown
  pass-grown-from t (p ∷ qs) sub = go (step-view t p) (λ u. pass-grown-from u qs (λ x i. sub x (Memᴰ.tail i)))
    where
      go : {u : Table} → SteppedTo t p u → ((u : Table) → Grown ps (pass u qs) u) → Grown ps (pass u qs) t
      go (handed x h) below = grow (joined x (sub p (Memᴰ.head refl))) h (below _)
      go (still _) below = below _

  pub pass-grown : (t : Table) → Grown ps (pass t ps) t
  pass-grown t = pass-grown-from t ps (λ x i. i)

pub length-add : (t : Table) (a m : Key) → length (add t a m) ≡ suc (length t)
length-add t a m = omega (arith, length-append t ((a, m) ∷ []))

pub grown-length : {ps : Transfers} {u t : Table} → Grown ps u t → length t ≤ length u
grown-length grown = omega arith
grown-length (grow {a} {b} {m} {t} j i g) = omega (arith, grown-length g, length-add t b m)
