-- What is promised of the listing and the tree in words: one result and one content, inputs that are too short or too long, refusals, printed examples, and that
-- the finder finds what stands in table 1.
-- Assumes nothing.
use mathlib.Core.Path.{◌≡◌, refl, sym, ◌∙◌}
use mathlib.Core.List.{List, [], ◌∷◌, ◌++◌, Memᴰ}
use mathlib.Core.Logic.{◌≢◌}
use mathlib.Core.Option.{none, some}
use Prim.Native.Nat.{ℕ, suc, ◌%◌, ◌<◌}
use native.Mathlib.Omega.{arith}
use lib.ListN.{length, get_or, take, drop, length-drop}
use lib.Seq.{take_all, length-take-le}
use borrow.Author.Tests.{eq-eqb, ne_eqb}
use Rattle.wire.specs.Le.{le, le_bytes}
use Rattle.pack.specs.View.{view_of}
use Rattle.pack.specs.Flatten.{flatten}
use Rattle.pack.proofs.Cases.{too_long}
use Rattle.finder.specs.declared.Found.{Found}
use Rattle.finder.specs.Children.{rising_below, children_of}
use Rattle.finder.specs.Found.{FoundBlock}
use Rattle.finder.proofs.Claims.{child-listed, listed-child}
use Rattle.route.specs.Tables.{positions_of}
use Rattle.route.specs.Order.{Succeeds}
use Rattle.route.specs.Route.{Lent, judged, route, refused}
use Rattle.route.specs.Row.{flagged, invocation_row}
use Rattle.listing.specs.Decimal.{decimal_in, decimal}
use Rattle.listing.specs.Listing.{spaced, word_number, refusal_line, counts, head, optional, position, line, row_in, lines_from, listed, route_of, listing}
use Rattle.listing.specs.Tree.{spaced_all, branch, first_lines, own_in, children_in, branch_in, tree_head, drawn, tree}
use Rattle.listing.specs.Puts.{PutsText}
use Rattle.listing.proofs.Rows.{counted, row-end, row_inside, row-parent}
use Rattle.listing.proofs.Drawing.{tree-refused}

-- for every input one text
pub unique : {m : ℕ} {text o p : List ℕ} → PutsText m text o → PutsText m text p → o ≡ p
unique x y = x.left ∙ sym y.left

-- less than the names
pub short : (input : List ℕ) → length input < 88 → listing input ≡ refusal_line 1 0
unfolding route_of listing listed route refused
short input h = rw (take_all 88 input (omega arith), ne_eqb (length input) 88 (λ e. omega arith))

-- more than the names and the longest pack
pub long : (input : List ℕ) → 61528 < length input → listing input ≡ refusal_line 2 0
unfolding route_of listing listed route judged refused
long input h =
    let n : length (take 88 input) ≡ 88 = length-take-le 88 input (omega arith) in
    let p : 61440 < length (drop 88 input) = rw (length-drop 88 input) (omega arith) in
    rw (eq-eqb (length (take 88 input)) 88 n, too_long (drop 88 input) p)

-- an outer invocation and two below it, with heights 1, 2 and 3
pub example : listed
    (record { number = 0; place = 0; mints = 0; invocations = 3; transfers = 0; legs = 0; natives = 0; passes = 0; tests = 2 })
    (invocation_row (record { outer = 0; inner = none; height = some 1 }) 3 0 0 0 1
    ++ invocation_row (record { outer = 0; inner = some 0; height = some 2 }) 3 0 0 1 2
    ++ invocation_row (record { outer = 0; inner = some 1; height = some 3 }) 3 0 0 2 5)
    ≡
    111 ∷ 107 ∷ 32 ∷ 48 ∷ 32 ∷ 51 ∷ 32 ∷ 48 ∷ 32 ∷ 48 ∷ 32 ∷ 48 ∷ 32 ∷ 112 ∷ 97 ∷ 115 ∷ 115 ∷ 101 ∷ 115 ∷ 32 ∷ 48 ∷ 32 ∷ 116 ∷ 101 ∷ 115 ∷ 116 ∷ 115 ∷ 32 ∷ 50 ∷ 10 ∷
    48 ∷ 32 ∷ 45 ∷ 32 ∷ 49 ∷ 32 ∷ 51 ∷ 32 ∷ 48 ∷ 32 ∷ 48 ∷ 32 ∷ 49 ∷ 10 ∷
    48 ∷ 32 ∷ 48 ∷ 32 ∷ 50 ∷ 32 ∷ 51 ∷ 32 ∷ 48 ∷ 32 ∷ 49 ∷ 32 ∷ 50 ∷ 10 ∷
    48 ∷ 32 ∷ 49 ∷ 32 ∷ 51 ∷ 32 ∷ 51 ∷ 32 ∷ 48 ∷ 32 ∷ 50 ∷ 32 ∷ 53 ∷ 10 ∷ []
unfolding le le_bytes flagged invocation_row decimal_in decimal spaced word_number counts head optional position line lines_from listed
example = refl

-- a refusal is printed as the listing prints it
pub same-refusal : (input : List ℕ) → (route_of input).answer.number ≢ 0 → tree input ≡ listing input
unfolding listing route_of listed
same-refusal input h = tree-refused input h ∙ sym (rw (ne_eqb (route_of input).answer.number 0 h))

-- the tree of the same three: each has the next one as its only child
pub tree-example : drawn
    (record { number = 0; place = 0; mints = 0; invocations = 3; transfers = 0; legs = 0; natives = 0; passes = 0; tests = 2 })
    (invocation_row (record { outer = 0; inner = none; height = some 1 }) 3 0 0 0 1
    ++ invocation_row (record { outer = 0; inner = some 0; height = some 2 }) 3 0 0 1 2
    ++ invocation_row (record { outer = 0; inner = some 1; height = some 3 }) 3 0 0 2 5)
    ≡
    111 ∷ 107 ∷ 32 ∷ 51 ∷ 10 ∷
    51 ∷ 32 ∷ 48 ∷ 32 ∷ 49 ∷ 32 ∷ 49 ∷ 10 ∷
    51 ∷ 32 ∷ 48 ∷ 32 ∷ 49 ∷ 32 ∷ 50 ∷ 10 ∷
    51 ∷ 32 ∷ 48 ∷ 32 ∷ 48 ∷ 10 ∷ []
unfolding le le_bytes flagged invocation_row decimal_in decimal spaced word_number spaced_all branch first_lines rising_below children_in branch_in tree_head drawn
tree-example = refl

-- what the finder finds is what the fast path left in table 1, in every call that is not refused; what each invocation has itself is taken from its row
module _ (names p : List ℕ) (l : Lent) (s : Succeeds (route names p l)) where
  pub found_left : (own : List ℕ) → ((y : ℕ) → y < (route names p l).answer.invocations → get_or own y 0 ≡ own_in (row_in (route names p l).invocations y))
      → (i : ℕ) (r : Found) → i < (route names p l).answer.invocations → FoundBlock (positions_of (flatten (view_of p))) own i r
      → (r.end ≡ le 4 (row_in (route names p l).invocations i) 14) × (r.inside ≡ get_or (row_in (route names p l).invocations i) 18 0 % 4)
  found_left own f i r h g = (g.ends ∙ sym (row-end names p l s i h), g.insides ∙ sym (row_inside names p l s own f i h))

  -- x is listed for i exactly where its row names i as its parent
  pub child-left : (i x : ℕ) → Memᴰ x (children_of (positions_of (flatten (view_of p))) i)
      → (x < (route names p l).answer.invocations) × (le 4 (row_in (route names p l).invocations x) 23 ≡ suc i)
  child-left i x m =
      let w = listed-child (positions_of (flatten (view_of p))) i x m in
      let h : x < (route names p l).answer.invocations = omega (arith, counted names p l s, w.0) in
      (h, row-parent names p l s x h ∙ w.1)

  pub left-child : (i x : ℕ) → x < (route names p l).answer.invocations → le 4 (row_in (route names p l).invocations x) 23 ≡ suc i
      → Memᴰ x (children_of (positions_of (flatten (view_of p))) i)
  left-child i x h e =
      child-listed (positions_of (flatten (view_of p))) i x (omega (arith, counted names p l s, h)) (sym (row-parent names p l s x h) ∙ e)
