-- The arrays while they are filled from the last invocation backwards, and when they are full: a step needs only what stands behind it.
-- Assumes nothing.
use mathlib.Core.Path.{◌≡◌, ◌∙◌}
use mathlib.Core.List.{List}
use Prim.Native.Nat.{ℕ, suc, ◌+◌, ◌-◌, ◌≤◌, ◌<◌}
use native.Mathlib.Nat.{sub_self, sub-zero}
use native.Mathlib.Omega.{arith}
use lib.ListN.{length, get_or, set}
use lib.Seq.{get_or-set_other}
use Rattle.wire.specs.Zeros.{zeros}
use Rattle.wire.proofs.Zeros.{zeros-at}
use Rattle.pack.specs.Invocation.{Position}
use Rattle.subtrees.specs.Blocks.{sum_in, tests_at}
use Rattle.subtrees.specs.Subtrees.{within, end_of, inside_of, parent_of, Known, Parented, Stepped, Subtrees}
use Rattle.subtrees.proofs.Arrays.{known_more, are-filled}
use Rattle.subtrees.proofs.Count.{sum-front}
use Rattle.subtrees.proofs.Parents.{parent-past}
use Rattle.subtrees.proofs.Parenting.{since-first, parented-none}

module _ (ps : List Position) (own : List ℕ) where
  -- the invocations from i on are done, with their tests in total
  pub record Filling (ends inside parents : List ℕ) (total i : ℕ) : Type 0 where
    pub known : Known ps own ends inside i
    pub blank : (m : ℕ) → length ps ≤ m → (get_or ends m 0 ≡ 0) × (get_or inside m 0 ≡ 0)
    pub summed : total ≡ sum_in (tests_at (length ps) (within ps)) (length ps - i) i
    pub parented : Parented ps parents i

  pub filling-none : (i : ℕ) → length ps ≡ i → Filling (zeros 1024) (zeros 1024) (zeros 1024) 0 i
  unfolding sum_in
  filling-none i e =
      record {
        known = λ m p q. absurd (omega arith);
        blank = λ m p. (zeros-at 1024 m, zeros-at 1024 m);
        summed = rw (e, sub_self);
        parented = λ x. zeros-at 1024 x ∙ parented-none (length ps) (within ps) x ∙ rw e;
      }

  -- one invocation more
  pub filling-more : (ends inside parents parents' : List ℕ) (total i m e b t : ℕ) → suc m ≡ i → i ≤ length ps → m < length ends → m < length inside
      → Stepped ps own m e b t parents' → Filling ends inside parents total i → Filling (set ends m e) (set inside m b) parents' (total + t) m
  filling-more ends inside parents parents' total i m e b t s l p q r f =
      record {
        known = known_more ps own ends inside m e b p q r.ends r.insides (λ k u v. f.known k (omega arith) v);
        blank =
            λ k u.
            (get_or-set_other ends m k e 0 (omega arith) ∙ (f.blank k u).0, get_or-set_other inside m k b 0 (omega arith) ∙ (f.blank k u).1);
        summed = omega (arith, f.summed, r.counted, sum-front (length ps) (within ps) m i s l);
        parented = r.parented;
      }

  pub filling-all : (ends inside parents : List ℕ) (total : ℕ) → length ps ≤ 1024 → length ends ≡ 1024 → length inside ≡ 1024 → length parents ≡ 1024
      → Filling ends inside parents total 0 → Subtrees ps own total ends inside parents
  filling-all ends inside parents total l p q r f =
      record {
        tests = f.summed ∙ rw sub-zero;
        ends_left = are-filled (end_of ps) (length ps) ends l p (λ m k. (f.known m (omega arith) k).0) (λ m k. (f.blank m k).0);
        inside_left = are-filled (inside_of ps own) (length ps) inside l q (λ m k. (f.known m (omega arith) k).1) (λ m k. (f.blank m k).1);
        parents_left = are-filled (parent_of ps) (length ps) parents l r (λ m k. held m) (λ m k. held m ∙ parent-past (length ps) (within ps) m k);
      }
    where
      held : (x : ℕ) → get_or parents x 0 ≡ parent_of ps x
      held x = f.parented x ∙ since-first (parent_of ps x)
