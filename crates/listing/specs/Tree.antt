-- The printed tree on values: of each invocation its end, its inside bits and its direct children, as the rows of table 1 have them.
-- Assumes nothing.
use Rattle.std.specs.Prelude.{ℕ, zero, suc, ◌+◌, ◌/◌, ◌%◌, cond, List, [], ◌∷◌, ◌++◌, eqb, length, get_or}
use Rattle.wire.specs.Le.{le}
use Rattle.pack.specs.Invocation.{Position}
use Rattle.subtrees.specs.Subtrees.{odd, bits, ends_of, insides_of}
use Rattle.finder.specs.Children.{rising_below, children_of}
use Rattle.route.specs.declared.Answer.{Answer}
use Rattle.listing.specs.Decimal.{decimal}
use Rattle.listing.specs.Listing.{newline, spaced, word_number, refusal_line, row_in, route_of}

-- numbers, each with a space in front
unfoldable pub spaced_all : List ℕ → List ℕ
spaced_all [] = []
spaced_all (x ∷ l) = spaced x ++ spaced_all l

-- the line of an invocation: its end, its inside bits, how many children it has, and which
unfoldable pub branch : ℕ → ℕ → List ℕ → List ℕ
branch end inside children = decimal end ++ spaced inside ++ spaced (length children) ++ spaced_all children ++ newline

-- the first n lines
unfoldable pub first_lines : (ℕ → List ℕ) → ℕ → List ℕ
first_lines f zero = []
first_lines f (suc n) = first_lines f n ++ f n

-- what the invocation of a row has itself, by bits 32 and 16 of the row: 1 a transfer, 2 a swap
unfoldable pub own_in : List ℕ → ℕ
own_in row = bits (odd (get_or row 18 0 / 32)) (odd (get_or row 18 0 / 16))

-- the line of invocation i by what the finder finds: ps are the positions, own is what each invocation has itself
unfoldable pub branch_of : List Position → List ℕ → ℕ → List ℕ
branch_of ps own i = branch (get_or (ends_of ps) i 0) (get_or (insides_of ps own) i 0) (children_of ps i)

-- the children of invocation i among n rows: those that name it as their parent, ascending
unfoldable pub children_in : List ℕ → ℕ → ℕ → List ℕ
children_in rows n i = rising_below (λ x. eqb (le 4 (row_in rows x) 23) (i + 1)) n

-- the line of invocation i: the end and the two lowest bits of its row, and its children
unfoldable pub branch_in : List ℕ → ℕ → ℕ → List ℕ
branch_in rows n i = branch (le 4 (row_in rows i) 14) (get_or (row_in rows i) 18 0 % 4) (children_in rows n i)

-- the first line of a success: `ok`, and how many invocations there are
unfoldable pub tree_head : ℕ → List ℕ
tree_head n = word_number (111 ∷ 107 ∷ []) n ++ newline

-- what is printed of an answer and the rows of table 1
unfoldable pub drawn : Answer → List ℕ → List ℕ
drawn a rows =
    cond (eqb a.number 0)
    (tree_head a.invocations ++ first_lines (branch_in rows a.invocations) a.invocations)
    (refusal_line a.number a.place)

-- the tree of an input
unfoldable pub tree : List ℕ → List ℕ
tree input = drawn (route_of input).answer (route_of input).invocations
