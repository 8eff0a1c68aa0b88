-- What is proved of the ends, bits, parents and tests of any list of positions, and of the contract of `subtrees`.
-- Assumes nothing.
use mathlib.Core.Path.{◌≡◌, refl, sym, ap₂, ◌∙◌}
use mathlib.Core.Bool.{Bool, true, false, and-false}
use mathlib.Core.Option.{Option, none, some}
use mathlib.Core.Logic.{◌⊎◌, inl, inr}
use mathlib.Core.List.{List, [], Memᴰ}
use Prim.Native.Nat.{ℕ, suc, ◌+◌, ◌*◌, ◌≤◌, ◌<◌}
use native.Mathlib.Omega.{arith}
use lib.Dec.{eqb}
use lib.ListN.{length, get_or}
use Rattle.pack.specs.Invocation.{Position}
use Rattle.subtrees.specs.Descendant.{higher, inners, descendant}
use Rattle.subtrees.specs.Blocks.{sum_in, block_size, in_block}
use Rattle.subtrees.specs.Parents.{holders_at}
use Rattle.subtrees.specs.Subtrees.{position_in, within, has_transfer, has_swap, bits, end_of, inside_of, parent_of, holders_of, line_of, tests_of, insides_of, Subtrees}
use Rattle.subtrees.proofs.Transitive.{within-trans}
use Rattle.subtrees.proofs.Blocks as blocks
use Rattle.subtrees.proofs.Ranges.{any_same}
use Rattle.std.proofs.lemmas.Bool.{cases_lt}
use Rattle.subtrees.proofs.Bound.{bound}
use Rattle.subtrees.proofs.Lasts.{list-in, list_of}
use Rattle.subtrees.proofs.Parents as parents
use Rattle.wire.proofs.Tab.{tab-same}
use Rattle.subtrees.proofs.Arrays.{filled_at}

inners-none : (a : Option ℕ) (up : Bool) → inners a none up ≡ false
unfolding inners
inners-none none up = refl
inners-none (some a) up = refl

module _ (ps : List Position) where
  -- an end lies after its invocation, and is at most n
  pub end_after : (i : ℕ) → i < length ps → (i + 1 ≤ end_of ps i) × (end_of ps i ≤ length ps)
  end_after = blocks.after (length ps) (within ps)

  -- every member of a block is a descendant
  pub member : (i x : ℕ) → i < x → x < end_of ps i → within ps i x ≡ true
  member = blocks.member (length ps) (within ps)

  -- an end before n is none
  pub stop : (i : ℕ) → i < length ps → end_of ps i < length ps → within ps i (end_of ps i) ≡ false
  stop = blocks.stop (length ps) (within ps)

  -- blocks are nested or apart: of two invocations the later stands outside the earlier's block, or it lies in it with all of its own block
  pub nested-or-apart : (i j : ℕ) → i < j → j < length ps → (end_of ps i ≤ j) ⊎ ((j < end_of ps i) × (end_of ps j ≤ end_of ps i))
  nested-or-apart = blocks.nested-or-apart (length ps) (within ps) (within-trans ps)

  -- a parent is an earlier invocation, and its block holds x
  pub parent-holds : (x y : ℕ) → parent_of ps x ≡ suc y → (y < x) × (x < end_of ps y)
  parent-holds x y e = let s = parents.parent-said (length ps) (within ps) x y e in (s.0, s.1)

  -- no block of one between them does, and only the parent is so
  pub parent-nearest : (x y z : ℕ) → parent_of ps x ≡ suc y → y < z → z < x → end_of ps z ≤ x
  parent-nearest x y z e = (parents.parent-said (length ps) (within ps) x y e).2 z

  pub parent-only : (x y : ℕ) → y < x → x < end_of ps y → ((z : ℕ) → y < z → z < x → end_of ps z ≤ x) → parent_of ps x ≡ suc y
  parent-only = parents.parent_is (length ps) (within ps)

  -- its block is the smallest: any other that holds x holds the parent, with all of its block
  pub parent-smallest : (x y z : ℕ) → x < length ps → parent_of ps x ≡ suc y → z < x → x < end_of ps z
      → (z ≡ y) ⊎ ((z < y) × (y < end_of ps z) × (end_of ps y ≤ end_of ps z))
  parent-smallest = parents.smallest (length ps) (within ps) (within-trans ps)

  -- there is no parent exactly where no block holds x
  pub parent-none : (x : ℕ) → parent_of ps x ≡ 0 → (y : ℕ) → y < x → end_of ps y ≤ x
  parent-none = parents.none_said (length ps) (within ps)

  pub none-parent : (x : ℕ) → ((y : ℕ) → y < x → end_of ps y ≤ x) → parent_of ps x ≡ 0
  none-parent = parents.parentless-is (length ps) (within ps)

  -- so a parent's number, one higher, is at most the child's: whoever goes through the invocations has met the parent
  pub parent-le : (x : ℕ) → parent_of ps x ≤ x
  parent-le = parents.parent-le (length ps) (within ps)

  -- going from parent to parent meets exactly the invocations whose blocks hold x, nearest first
  pub parents-line : (x : ℕ) → x < length ps → line_of ps x ≡ holders_of ps x
  parents-line x l = parents.line (length ps) (within ps) (within-trans ps) x x (omega arith) l

  pub holder-listed : (x y : ℕ) → y < x → x < end_of ps y → Memᴰ y (holders_of ps x)
  unfolding holders_at
  holder-listed x y p q = list-in (λ z. in_block (length ps) (within ps) z x) x y p (parents.in-yes (length ps) (within ps) y x p q)

  pub listed-holder : (x y : ℕ) → Memᴰ y (holders_of ps x) → (y < x) × (x < end_of ps y)
  unfolding holders_at
  listed-holder x y i = parents.of-yes (length ps) (within ps) y x (list_of (λ z. in_block (length ps) (within ps) z x) x y i).1

  -- an outer instruction is no descendant, and has no parent
  outer-alone : (i x : ℕ) → (position_in ps x).inner ≡ none → within ps i x ≡ false
  unfolding within descendant
  outer-alone i x e =
      rw (e, inners-none (position_in ps i).inner (higher (position_in ps i).height (position_in ps x).height))
      (and-false (eqb (position_in ps i).outer (position_in ps x).outer))

  pub outer-parentless : (x : ℕ) → (position_in ps x).inner ≡ none → parent_of ps x ≡ 0
  outer-parentless x e = none-parent x (λ y p. go y p (cases_lt x (end_of ps y)))
    where
      go : (y : ℕ) → y < x → (x < end_of ps y) ⊎ (end_of ps y ≤ x) → end_of ps y ≤ x
      go y p (inl q) =
          let yes = member y x p q in
          let no = outer-alone y x e in
          let z : ◌≡◌ {A = ℕ} 0 1 = cc in
          absurd (omega arith)
      go y p (inr q) = q

  -- the tests are at most 2n - 2
  pub tests-bound : 0 < length ps → tests_of ps + 2 ≤ 2 * length ps
  tests-bound = bound (length ps) (within ps) (within-trans ps)

  -- the inside bits look at the own bits of the n invocations alone
  inside-same : (a b : List ℕ) → ((y : ℕ) → y < length ps → get_or a y 0 ≡ get_or b y 0) → (i : ℕ) → i < length ps → inside_of ps a i ≡ inside_of ps b i
  unfolding inside_of
  inside-same a b h i l =
      let w = end_after i l in
      let m = block_size (length ps) (within ps) i in
      ap₂ bits
      (any_same (λ y. has_transfer (get_or a y 0)) (λ y. has_transfer (get_or b y 0)) m (i + 1) (λ y p q. rw (h y (omega arith))))
      (any_same (λ y. has_swap (get_or a y 0)) (λ y. has_swap (get_or b y 0)) m (i + 1) (λ y p q. rw (h y (omega arith))))

  pub insides-same : (a b : List ℕ) → ((y : ℕ) → y < length ps → get_or a y 0 ≡ get_or b y 0) → insides_of ps a ≡ insides_of ps b
  insides-same a b h = tab-same (inside_of ps a) (inside_of ps b) 0 (length ps) (λ i p q. inside-same a b h i (omega arith))

-- no invocation, no test
pub tests-none : tests_of [] ≡ 0
unfolding sum_in
tests-none = refl

module _ {ps : List Position} {own : List ℕ} {r : ℕ} {ends inside parents : List ℕ} (s : Subtrees ps own r ends inside parents) where
  -- what the arrays hold for one invocation
  pub end-at : (i : ℕ) → i < length ps → get_or ends i 0 ≡ end_of ps i
  end-at i l = rw s.ends_left (filled_at (end_of ps) (length ps) i l)

  pub inside-at : (i : ℕ) → i < length ps → get_or inside i 0 ≡ inside_of ps own i
  inside-at i l = rw s.inside_left (filled_at (inside_of ps own) (length ps) i l)

  pub parent-at : (i : ℕ) → i < length ps → get_or parents i 0 ≡ parent_of ps i
  parent-at i l = rw s.parents_left (filled_at (parent_of ps) (length ps) i l)

  -- the contract leaves one result and one content
  pub unique : {r' : ℕ} {ends' inside' parents' : List ℕ} → Subtrees ps own r' ends' inside' parents'
      → (r ≡ r') × (ends ≡ ends') × (inside ≡ inside') × (parents ≡ parents')
  unique t =
      (s.tests ∙ sym t.tests, s.ends_left ∙ sym t.ends_left, s.inside_left ∙ sym t.inside_left, s.parents_left ∙ sym t.parents_left)
