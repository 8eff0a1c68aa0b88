-- The array of parents while it is filled from the last invocation backwards: the walk of i stands at each child of i once, and sets its parent there.
-- Assumes nothing.
use mathlib.Core.Path.{◌≡◌, refl, sym, ap, ◌∙◌}
use mathlib.Core.Bool.{Bool, cond}
use mathlib.Core.List.{List}
use mathlib.Core.Logic.{◌⊎◌, inl, inr, ◌≢◌}
use Prim.Native.Nat.{ℕ, zero, suc, ◌+◌, ◌≤◌, ◌<◌}
use native.Mathlib.Nat.{eq-or-lt_of_le}
use native.Mathlib.Numerals.{add-one}
use native.Mathlib.Omega.{arith}
use borrow.Author.Tests.{lt-ltb, le-ltb}
use lib.Dec.{ltb}
use lib.ListN.{length, get_or, set}
use lib.Seq.{get_or-set_same, get_or-set_other}
use Rattle.subtrees.specs.Blocks.{end_at}
use Rattle.subtrees.specs.Parents.{parent_at}
use Rattle.subtrees.specs.Subtrees.{since}
use Rattle.std.proofs.lemmas.Bool.{cases_lt}
use Rattle.subtrees.proofs.Blocks.{after}
use Rattle.subtrees.proofs.Count.{Stands}
use Rattle.subtrees.proofs.Parents.{parent_is, parent-said, parent-le, parent-past}

-- a parent from the first invocation on is one; from p on there is none before it
pub since-first : (p : ℕ) → since 0 p ≡ p
unfolding since
since-first zero = refl
since-first (suc p) = rw (lt-ltb 0 (suc p) (omega arith))

since-late : (i p : ℕ) → p ≤ i → since i p ≡ 0
unfolding since
since-late i p l = rw (le-ltb i p l)

since-now : (i : ℕ) → since i (i + 1) ≡ i + 1
unfolding since
since-now i = rw (lt-ltb i (i + 1) (omega arith))

-- asking i too changes nothing for one whose parent is not i
since-other : (i p : ℕ) → p ≢ suc i → since (i + 1) p ≡ since i p
unfolding since
since-other i p h = go (cases_lt i p)
  where
    go : (i < p) ⊎ (p ≤ i) → cond (ltb (i + 1) p) p 0 ≡ cond (ltb i p) p 0
    go (inl l) = rw (lt-ltb i p l, lt-ltb (i + 1) p (omega arith))
    go (inr l) = rw (le-ltb i p l, le-ltb (i + 1) p (omega arith))

module _ (n : ℕ) (holds : ℕ → ℕ → Bool) where
  -- where the walk of i stands in its block, there is a child of i
  pub child : (i e : ℕ) → i < e → e < end_at n holds i → Stands n holds i e → parent_at n holds e ≡ i + 1
  unfolding Stands
  child i e p q s = parent_is n holds e i p q s ∙ sym (add-one i)

  -- no others are: those in the block of a child, those up to i, those behind its block
  pub inner : (i e x : ℕ) → i < e → e < x → x < end_at n holds e → parent_at n holds x ≢ suc i
  inner i e x p q r h = omega (arith, (parent-said n holds x i h).2 e p q)

  pub before : (i x : ℕ) → x ≤ i → parent_at n holds x ≢ suc i
  before i x l h = omega (arith, (parent-said n holds x i h).0)

  pub behind : (i x : ℕ) → end_at n holds i ≤ x → parent_at n holds x ≢ suc i
  behind i x l h = omega (arith, (parent-said n holds x i h).1)

  -- at x while the walk of i stands at e: the places before e are done for i
  unfoldable pub partly : ℕ → ℕ → ℕ → ℕ
  partly i e x = cond (ltb x e) (since i (parent_at n holds x)) (since (i + 1) (parent_at n holds x))

  done : (i e x : ℕ) → x < e → partly i e x ≡ since i (parent_at n holds x)
  unfolding partly
  done i e x l = rw (lt-ltb x e l)

  due : (i e x : ℕ) → e ≤ x → partly i e x ≡ since (i + 1) (parent_at n holds x)
  unfolding partly
  due i e x l = rw (le-ltb x e l)

  -- before the first walk
  pub parented-none : (x : ℕ) → 0 ≡ since n (parent_at n holds x)
  parented-none x = go (cases_lt x n)
    where
      go : (x < n) ⊎ (n ≤ x) → 0 ≡ since n (parent_at n holds x)
      go (inl l) = sym (since-late n (parent_at n holds x) (omega (arith, parent-le n holds x)))
      go (inr l) = sym (since-late n (parent_at n holds x) (omega (arith, parent-past n holds x l)))

  -- the walk of i begins
  pub parenting-first : (i x : ℕ) → since (i + 1) (parent_at n holds x) ≡ partly i (i + 1) x
  parenting-first i x = go (cases_lt x (i + 1))
    where
      go : (x < i + 1) ⊎ (i + 1 ≤ x) → since (i + 1) (parent_at n holds x) ≡ partly i (i + 1) x
      go (inl l) = since-other i _ (before i x (omega arith)) ∙ sym (done i (i + 1) x l)
      go (inr l) = sym (due i (i + 1) x l)

  -- it sets the parent of e, and passes its block
  pub parenting-jump : (parents : List ℕ) (i e : ℕ) → e < length parents → i < e → e < end_at n holds i → e < n → Stands n holds i e
      → ((x : ℕ) → get_or parents x 0 ≡ partly i e x) → (x : ℕ) → get_or (set parents e (i + 1)) x 0 ≡ partly i (end_at n holds e) x
  parenting-jump parents i e len p q l s f x = go (cases_lt x e)
    where
      w : (e + 1 ≤ end_at n holds e) × (end_at n holds e ≤ n)
      w = after n holds e l

      later : e < x → (x < end_at n holds e) ⊎ (end_at n holds e ≤ x) → since (i + 1) (parent_at n holds x) ≡ partly i (end_at n holds e) x
      later u (inl v) = since-other i _ (inner i e x p u v) ∙ sym (done i (end_at n holds e) x v)
      later u (inr v) = sym (due i (end_at n holds e) x v)

      rest : (e ≡ x) ⊎ (e < x) → get_or (set parents e (i + 1)) x 0 ≡ partly i (end_at n holds e) x
      rest (inl u) =
          rw (← u)
          (get_or-set_same parents e (i + 1) 0 len
          ∙ sym (done i (end_at n holds e) e (omega (arith, w.0)) ∙ ap (since i) (child i e p q s) ∙ since-now i))
      rest (inr u) = get_or-set_other parents e x (i + 1) 0 (omega arith) ∙ f x ∙ due i e x (omega arith) ∙ later u (cases_lt x (end_at n holds e))

      go : (x < e) ⊎ (e ≤ x) → get_or (set parents e (i + 1)) x 0 ≡ partly i (end_at n holds e) x
      go (inl u) =
          get_or-set_other parents e x (i + 1) 0 (omega arith) ∙ f x ∙ done i e x u ∙ sym (done i (end_at n holds e) x (omega (arith, w.0)))
      go (inr u) = rest (eq-or-lt_of_le u)

  -- it is at its end
  pub parenting-out : (i e x : ℕ) → e ≡ end_at n holds i → partly i e x ≡ since i (parent_at n holds x)
  parenting-out i e x h = go (cases_lt x e)
    where
      go : (x < e) ⊎ (e ≤ x) → partly i e x ≡ since i (parent_at n holds x)
      go (inl l) = done i e x l
      go (inr l) = due i e x l ∙ since-other i _ (behind i x (omega arith))
