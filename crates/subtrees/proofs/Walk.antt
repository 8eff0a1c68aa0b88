-- The walk of one step: what holds where it stands, and what each of its ways on makes of that.
-- Assumes nothing.
use mathlib.Core.Path.{◌≡◌, refl, ◌∙◌}
use mathlib.Core.Bool.{true, false}
use mathlib.Core.List.{List}
use Prim.Native.Nat.{ℕ, suc, ◌+◌, ◌-◌, ◌≤◌, ◌<◌}
use native.Mathlib.Nat.{zero-add, sub_self}
use native.Mathlib.Omega.{arith}
use lib.ListN.{length, get_or, set}
use Rattle.pack.specs.Invocation.{Position}
use Rattle.subtrees.specs.Blocks.{end_from}
use Rattle.subtrees.specs.Subtrees.{within, end_of, bits_in, inside_of, joined, Parented, Stepped}
use Rattle.subtrees.proofs.Transitive.{within-trans}
use Rattle.subtrees.proofs.Blocks.{end_ge, after, past, stops, jump}
use Rattle.subtrees.proofs.Count.{tops, Stands, stands-first, stands-next, tops-jump, tests-stop, tests-out}
use Rattle.subtrees.proofs.Inside.{bits_none, bits-jump}
use Rattle.subtrees.proofs.Parenting.{partly, parenting-first, parenting-jump, parenting-out}

module _ (ps : List Position) (own : List ℕ) (i : ℕ) where
  abbrev n : ℕ
  n = length ps

  -- at e, with the bits b of the members passed, after t tests, and the parents that are set by then
  pub record Walk (e b t : ℕ) (parents : List ℕ) : Type 0 where
    pub later : i + 1 ≤ e
    pub ahead : end_from (length ps) (within ps) i e ≡ end_of ps i
    pub tested : t + tops (length ps) (within ps) i e ≡ tops (length ps) (within ps) i (i + 1)
    pub stands : Stands (length ps) (within ps) i e
    pub passed : b ≡ bits_in own (e - (i + 1)) (i + 1)
    pub parenting : (x : ℕ) → get_or parents x 0 ≡ partly (length ps) (within ps) i e x

  pub walk_first : (parents : List ℕ) → Parented ps parents (i + 1) → Walk (i + 1) 0 0 parents
  walk_first parents f =
      record {
        later = omega arith;
        ahead = refl;
        tested = zero-add (tops n (within ps) i (i + 1));
        stands = stands-first n (within ps) i;
        passed = rw sub_self (bits_none own (i + 1));
        parenting = λ x. f x ∙ parenting-first n (within ps) i x;
      }

  -- over the block of a descendant, whose parent is set
  pub walk-jump : (e b t : ℕ) (parents : List ℕ) → e < length ps → e < length parents → within ps i e ≡ true → Walk e b t parents
      → Walk (end_of ps e) (joined b (joined (get_or own e 0) (inside_of ps own e))) (t + 1) (set parents e (i + 1))
  unfolding inside_of bits_in
  walk-jump e b t parents l room h w =
      let v = after n (within ps) e l in
      let p = w.later in
      let a = jump n (within ps) (within-trans ps) i e l h ∙ w.ahead in
      let far : end_of ps e ≤ end_of ps i = omega (arith, end_ge n (within ps) i (end_of ps e), a) in
      let k = tops-jump n (within ps) i e l (omega arith) (omega arith) far w.stands in
      let cut : end_of ps e - (i + 1) ≡ e - (i + 1) + suc (end_of ps e - (e + 1)) = omega arith in
      record {
        later = omega arith;
        ahead = a;
        tested = omega (arith, k, w.tested);
        stands = stands-next n (within ps) (within-trans ps) i e (omega arith) l w.stands;
        passed = rw (w.passed, cut) (bits-jump own (e - (i + 1)) (end_of ps e - (e + 1)) (i + 1) e (omega arith));
        parenting = parenting-jump n (within ps) parents i e room (omega arith) (omega arith) l w.stands w.parenting;
      }

  -- to one that is no descendant
  pub walk-stop : (e b t : ℕ) (parents : List ℕ) → e < length ps → t + 1 ≤ 1024 → length parents ≡ 1024 → within ps i e ≡ false → Walk e b t parents
      → Stepped ps own i e b (t + 1) parents
  unfolding inside_of bits_in
  walk-stop e b t parents l s z h w =
      let a = stops n (within ps) i e l h ∙ w.ahead in
      record {
        ends = a;
        insides = w.passed ∙ rw a;
        counted = tests-stop n (within ps) i e t a l w.tested;
        small = s;
        sized = z;
        parented = λ x. w.parenting x ∙ parenting-out n (within ps) i e x a;
      }

  -- to the last
  pub walk-out : (e b t : ℕ) (parents : List ℕ) → length ps ≤ e → t ≤ 1024 → length parents ≡ 1024 → Walk e b t parents → Stepped ps own i e b t parents
  unfolding inside_of bits_in
  walk-out e b t parents l s z w =
      let a = past n (within ps) i e l ∙ w.ahead in
      record {
        ends = a;
        insides = w.passed ∙ rw a;
        counted = tests-out n (within ps) i e t a l w.tested;
        small = s;
        sized = z;
        parented = λ x. w.parenting x ∙ parenting-out n (within ps) i e x a;
      }
