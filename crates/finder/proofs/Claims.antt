-- What is proved of the finder in words: it finds what the fast path leaves, its lists are those of the parents, ascending, and its answers are the only ones.
-- Assumes nothing.
use mathlib.Core.Path.{◌≡◌, refl, sym, ◌∙◌}
use mathlib.Core.List.{List, [], ◌∷◌, ◌++◌, Memᴰ}
use Prim.Native.Nat.{ℕ, zero, suc, ◌+◌, ◌-◌, ◌≤◌, ◌<◌}
use native.Mathlib.Numerals.{add-one}
use borrow.Author.Tests.{eq-eqb, eqb-true}
use lib.Dec.{ltb}
use lib.ListN.{length, get_or}
use Rattle.wire.specs.Zeros.{zeros}
use Rattle.wire.proofs.Zeros.{zeros-at}
use Rattle.pack.specs.Invocation.{Position}
use Rattle.subtrees.specs.Subtrees.{parent_of, ends_of, insides_of, filled, Subtrees}
use Rattle.subtrees.proofs.Claims.{parent-at}
use Rattle.finder.specs.declared.Found.{Found}
use Rattle.finder.specs.Children.{rising_below, is_child, children_of}
use Rattle.finder.specs.Found.{FoundBlock}
use Rattle.finder.proofs.Rising.{rising-few, rising-in, rising-of, rising-rises, rising-up_to}

module _ (ps : List Position) where
  -- x is listed for i exactly where i is its parent
  pub child-listed : (i x : ℕ) → x < length ps → parent_of ps x ≡ suc i → Memᴰ x (children_of ps i)
  unfolding children_of is_child
  child-listed i x l e = rising-in (is_child ps i) (length ps) x l (eq-eqb (parent_of ps x) (i + 1) (e ∙ sym (add-one i)))

  pub listed-child : (i x : ℕ) → Memᴰ x (children_of ps i) → (x < length ps) × (parent_of ps x ≡ suc i)
  unfolding children_of is_child
  listed-child i x m =
      let w = rising-of (is_child ps i) (length ps) x m in
      (w.0, eqb-true (parent_of ps x) (i + 1) w.1 ∙ add-one i)

  -- each child is lower than those listed behind it, so the list ascends and names none twice
  pub children-rise : (i j k : ℕ) → j < k → k < length (children_of ps i) → get_or (children_of ps i) j 0 < get_or (children_of ps i) k 0
  unfolding children_of
  children-rise i = rising-rises (is_child ps i) (length ps)

  -- an array of 1,024 has room for them
  pub children-few : (i : ℕ) → length (children_of ps i) ≤ length ps
  unfolding children_of
  children-few i = rising-few (is_child ps i) (length ps)

  -- those without parent, and the children of the first k invocations
  unfoldable pub met_by : ℕ → List ℕ
  met_by k = rising_below (λ x. ltb (parent_of ps x) (k + 1)) (length ps)

  -- each list adds its own, and all together are no more than there are invocations
  pub met-more : (k : ℕ) → length (met_by (k + 1)) ≡ length (met_by k) + length (children_of ps k)
  unfolding met_by children_of is_child
  met-more k = rising-up_to (parent_of ps) (k + 1) (length ps)

  pub met-few : (k : ℕ) → length (met_by k) ≤ length ps
  unfolding met_by
  met-few k = rising-few (λ x. ltb (parent_of ps x) (k + 1)) (length ps)

-- zeros behind a list change nothing of what stands where
behind : (l : List ℕ) (k i : ℕ) → get_or (l ++ zeros k) i 0 ≡ get_or l i 0
behind [] k i = zeros-at k i
behind (x ∷ l) k zero = refl
behind (x ∷ l) k (suc i) = behind l k i

filled-same : (l : List ℕ) (i : ℕ) → get_or (filled l) i 0 ≡ get_or l i 0
unfolding filled
filled-same l i = behind l (1024 - length l) i

-- what the fast path leaves in its arrays is what is found, and its parents are those of the lists
module _ {ps : List Position} {own : List ℕ} {tests : ℕ} {ends inside parents : List ℕ} (s : Subtrees ps own tests ends inside parents) where
  pub fast-end : (i : ℕ) (r : Found) → FoundBlock ps own i r → r.end ≡ get_or ends i 0
  fast-end i r f = f.ends ∙ sym (rw s.ends_left (filled-same (ends_of ps) i))

  pub fast-inside : (i : ℕ) (r : Found) → FoundBlock ps own i r → r.inside ≡ get_or inside i 0
  fast-inside i r f = f.insides ∙ sym (rw s.inside_left (filled-same (insides_of ps own) i))

  pub fast-child : (i x : ℕ) → x < length ps → get_or parents x 0 ≡ suc i → Memᴰ x (children_of ps i)
  fast-child i x l e = child-listed ps i x l (sym (parent-at s x l) ∙ e)

  pub child-fast : (i x : ℕ) → Memᴰ x (children_of ps i) → get_or parents x 0 ≡ suc i
  child-fast i x m =
      let w = listed-child ps i x m in
      parent-at s x w.0 ∙ w.1

-- the contract leaves one answer
pub unique : {ps : List Position} {own : List ℕ} {i : ℕ} {r r' : Found} → FoundBlock ps own i r → FoundBlock ps own i r'
    → (r.end ≡ r'.end) × (r.inside ≡ r'.inside) × (r.visits ≡ r'.visits)
unique f g = (f.ends ∙ sym g.ends, f.insides ∙ sym g.insides, f.visited ∙ sym g.visited)
