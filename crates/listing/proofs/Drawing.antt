-- Numbers and lines of the tree one after the other, and why the lines by the finder are those of the rows of table 1.
-- Assumes nothing.
use mathlib.Core.Path.{◌≡◌, refl, sym, ap, ◌∙◌}
use mathlib.Core.List.{List, [], ◌∷◌, ◌++◌, append-nil, append_assoc}
use mathlib.Core.Logic.{◌≢◌}
use Prim.Native.Nat.{ℕ, zero, suc, ◌+◌, ◌-◌, ◌≤◌, ◌<◌}
use native.Mathlib.Nat.{zero-add}
use native.Mathlib.Numerals.{add-one}
use native.Mathlib.Omega.{arith}
use borrow.Author.Tests.{eq-eqb, ne_eqb}
use lib.Dec.{eqb}
use lib.ListN.{length, get_or, take, drop, length-replicate}
use lib.Seq.{sets, take-suc, take_at}
use Rattle.wire.specs.Zeros.{zeros}
use Rattle.wire.specs.Tab.{tab}
use Rattle.wire.proofs.Sets.{sets-in}
use Rattle.wire.proofs.Tab.{tab-length, tab-at}
use Rattle.wire.specs.Le.{le}
use Rattle.std.specs.Prelude.{Result, Ok, Err}
use Rattle.std.specs.Result.{result_unwrap_or}
use Rattle.pack.specs.declared.Refusal.{Refusal}
use Rattle.pack.specs.Verdict.{count_in}
use Rattle.pack.specs.declared.position.Place.{Place}
use Rattle.pack.specs.Invocation.{Position}
use Rattle.pack.specs.View.{view_of}
use Rattle.pack.specs.Flatten.{flatten}
use Rattle.pack.specs.Layout.{Flattened}
use Rattle.pack.specs.Verdict.{verdict, refusal_number}
use Rattle.subtrees.specs.Subtrees.{parent_of, positions, filled}
use Rattle.subtrees.proofs.Arrays.{positions-length}
use Rattle.finder.specs.declared.Found.{Found}
use Rattle.finder.specs.Found.{FoundBlock}
use Rattle.finder.specs.Children.{rising_below, is_child, children_of}
use Rattle.finder.proofs.Rising.{rising-same}
use Rattle.route.specs.declared.Answer.{Answer}
use Rattle.route.specs.Tables.{positions_of}
use Rattle.route.specs.Route.{Lent, route}
use Rattle.route.specs.Order.{Succeeds}
use Rattle.route.proofs.Filling.{few, positions-are}
use Rattle.listing.specs.Listing.{spaced, refusal_line, row_in, lent_room, route_of}
use Rattle.listing.specs.Tree.{spaced_all, branch, first_lines, own_in, branch_of, children_in, branch_in, tree_head, drawn, tree}
use Rattle.listing.proofs.Rows.{good, counted, row-end, row_inside, row-parent}

-- one number more
pub spaced-append : (a b : List ℕ) → spaced_all (a ++ b) ≡ spaced_all a ++ spaced_all b
unfolding spaced_all
spaced-append [] b = refl
spaced-append (x ∷ a) b = ap (λ (t : List ℕ). spaced x ++ t) (spaced-append a b) ∙ sym (append_assoc (spaced x) (spaced_all a) (spaced_all b))

pub spaced-more : (l : List ℕ) (k : ℕ) → k < length l → spaced_all (take k l) ++ spaced (get_or l k 0) ≡ spaced_all (take (k + 1) l)
unfolding spaced_all
spaced-more l k h =
    sym (ap (λ (j : ℕ). spaced_all (take j l)) (add-one k) ∙ ap spaced_all (take-suc l k 0 h) ∙ spaced-append (take k l) (get_or l k 0 ∷ []) ∙ rw (append-nil (spaced (get_or l k 0))))

-- the children in an array are read back from it
pub front : (l : List ℕ) → take (length l) (filled l) ≡ l
unfolding filled
front l = take_at l (zeros (1024 - length l)) (length l) refl

-- the line of an invocation, by what was found of it
pub branch-found : (ps : List Position) (own : List ℕ) (i : ℕ) (r : Found) (list : List ℕ) (count : ℕ)
    → FoundBlock ps own i r → list ≡ filled (children_of ps i) → count ≡ length (children_of ps i) → branch r.end r.inside (take count list) ≡ branch_of ps own i
unfolding branch_of
branch-found ps own i r list count f l k = rw (f.ends, f.insides, l, k, front (children_of ps i))

-- one line more
pub branches-more : (f : ℕ → List ℕ) (i : ℕ) → first_lines f (i + 1) ≡ first_lines f i ++ f i
unfolding first_lines
branches-more f i = rw (add-one i)

lines_same : (f g : ℕ → List ℕ) (n : ℕ) → ((i : ℕ) → i < n → f i ≡ g i) → first_lines f n ≡ first_lines g n
unfolding first_lines
lines_same f g zero h = refl
lines_same f g (suc n) h = rw (lines_same f g n (λ i l. h i (omega arith)), h n (omega arith))

-- the lines by the finder are those of the rows that a call leaves, where that is not refused
module _ (names p : List ℕ) (l : Lent) (s : Succeeds (route names p l)) where
  abbrev rows : List ℕ
  rows = (route names p l).invocations

  abbrev n : ℕ
  n = (route names p l).answer.invocations

  abbrev ps : List Position
  ps = positions_of (flatten (view_of p))

  pub row-children : (i : ℕ) → children_of (positions_of (flatten (view_of p))) i ≡ children_in (route names p l).invocations (route names p l).answer.invocations i
  unfolding children_of is_child children_in
  row-children i =
      ap (rising_below (λ x. eqb (parent_of ps x) (i + 1))) (sym (counted names p l s))
      ∙ rising-same (λ x. eqb (parent_of ps x) (i + 1)) (λ x. eqb (le 4 (row_in rows x) 23) (i + 1)) n (λ x h. rw (row-parent names p l s x h))

  pub branches-same : (own : List ℕ) → ((y : ℕ) → y < (route names p l).answer.invocations → get_or own y 0 ≡ own_in (row_in (route names p l).invocations y))
      → first_lines (branch_of (positions_of (flatten (view_of p))) own) (route names p l).answer.invocations
      ≡ first_lines (branch_in (route names p l).invocations (route names p l).answer.invocations) (route names p l).answer.invocations
  unfolding branch_of branch_in
  branches-same own f =
      lines_same (branch_of ps own) (branch_in rows n) n (λ i h. rw (row-end names p l s i h, row_inside names p l s own f i h, row-children i))

-- the tree of an input: of a refusal its line, else the first line and those by the finder
pub tree-refused : (input : List ℕ) → (route_of input).answer.number ≢ 0 → tree input ≡ refusal_line (route_of input).answer.number (route_of input).answer.place
unfolding tree drawn
tree-refused input h = rw (ne_eqb (route_of input).answer.number 0 h)

-- what is flattened, with the count of a pack that is refused as 0
pub flat : (p at : List ℕ) (places : List Place) (r : Result ℕ Refusal) {n : ℕ} → Flattened p (count_in r) at places → n ≡ result_unwrap_or r 0 → Flattened p n at places
flat p at places (Ok m) w e = rw e w
flat p at places (Err x) w e = rw e w

module _ (input : List ℕ) (s : Succeeds (route_of input)) (p : List ℕ) (cut : p ≡ drop 88 input) (n : ℕ) (at : List ℕ) (places : List Place) (w : Flattened p n at places) where
  abbrev rest : List ℕ
  rest = drop 88 input

  abbrev answer : Answer
  answer = (route_of input).answer

  abbrev table : List ℕ
  table = (route_of input).invocations

  meets : refusal_number (verdict p) ≡ 0
  unfolding route_of
  meets = rw cut (good (take 88 input) rest lent_room s)

  pub tree-few : n ≤ 1024
  tree-few = few p n at places meets w

  same : positions_of (flatten (view_of (drop 88 input))) ≡ positions places n
  same = rw (← cut) (positions-are p n at places meets w)

  all : n ≡ (route_of input).answer.invocations
  unfolding route_of
  all = sym (counted (take 88 input) rest lent_room s ∙ ap length same ∙ positions-length places n)

  pub tree-drawn : (own : List ℕ) → own ≡ sets (zeros 1024) 0 (tab (λ i. own_in (row_in (route_of input).invocations i)) 0 n)
      → tree_head (route_of input).answer.invocations ++ first_lines (branch_of (positions places n) own) n ≡ tree input
  unfolding route_of tree drawn
  tree-drawn own e =
      rw (eq-eqb answer.number 0 s, ← same, all)
      (ap (λ (t : List ℕ). tree_head answer.invocations ++ t) (branches-same (take 88 input) rest lent_room s own (λ y h. held y (omega (arith, all)))))
    where
      held : (y : ℕ) → y < n → get_or own y 0 ≡ own_in (row_in (route_of input).invocations y)
      held y h =
          let l = tab-length (λ i. own_in (row_in table i)) 0 n in
          rw e (ap (λ (k : ℕ). get_or (sets (zeros 1024) 0 (tab (λ i. own_in (row_in table i)) 0 n)) k 0) (sym (zero-add y))
          ∙ sets-in (zeros 1024) 0 (tab (λ i. own_in (row_in table i)) 0 n) y (omega (arith, l)) (omega (arith, l, tree-few, length-replicate {A = ℕ} 1024 0))
          ∙ tab-at (λ i. own_in (row_in table i)) 0 0 n y h
          ∙ rw zero-add)
