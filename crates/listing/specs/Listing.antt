-- The printed listing on values: an input, names and then a pack, gives the bytes that are printed.
-- Assumes nothing.
use Rattle.std.specs.Prelude.{ℕ, Option, None, Some, zero, suc, ◌+◌, ◌*◌, cond, List, [], ◌∷◌, ◌++◌, eqb, get_or, take, drop}
use Rattle.wire.specs.Le.{le}
use Rattle.route.specs.declared.Answer.{Answer}
use Rattle.route.specs.Widths.{mint_width, invocation_width, transfer_width, leg_width, action_width}
use Rattle.route.specs.Route.{Lent, Routed, route}
use Rattle.listing.specs.Decimal.{decimal}

-- the end of a line
abbrev pub newline : List ℕ
newline = 10 ∷ []

-- a number with a space in front
unfoldable pub spaced : ℕ → List ℕ
spaced x = 32 ∷ decimal x

-- a word, and a number behind it
unfoldable pub word_number : List ℕ → ℕ → List ℕ
word_number text x = text ++ spaced x

-- a refusal: `refusal_line`, its number and its place
unfoldable pub refusal_line : ℕ → ℕ → List ℕ
refusal_line number place = word_number (114 ∷ 101 ∷ 102 ∷ 117 ∷ 115 ∷ 101 ∷ 100 ∷ []) number ++ spaced place ++ newline

-- the rows of tables 0 to 4
unfoldable pub counts : Answer → List ℕ
counts a = spaced a.mints ++ spaced a.invocations ++ spaced a.transfers ++ spaced a.legs ++ spaced a.natives

-- the first line of a success: `ok`, the rows, ` passes` and their number, ` tests` and theirs
unfoldable pub head : Answer → List ℕ
head a =
    (111 ∷ 107 ∷ []) ++ counts a ++ word_number (32 ∷ 112 ∷ 97 ∷ 115 ∷ 115 ∷ 101 ∷ 115 ∷ []) a.passes ++ word_number (32 ∷ 116 ∷ 101 ∷ 115 ∷ 116 ∷ 115 ∷ []) a.tests
    ++ newline

-- a number of a row behind its flag, with a space in front: ` -` where the flag is 0
unfoldable pub optional : List ℕ → ℕ → List ℕ
optional row flag = cond (eqb (get_or row flag 0) 0) (32 ∷ 45 ∷ []) (spaced (le 4 row (flag + 1)))

-- a number that may be absent, with a space in front: ` -` where it is
unfoldable pub optional_text : Option ℕ → List ℕ
optional_text None = 32 ∷ 45 ∷ []
optional_text (Some x) = spaced x

-- where the invocation of a row of table 1 stands: outer, inner, height
unfoldable pub position : List ℕ → List ℕ
position row = decimal (le 4 row 0) ++ optional row 4 ++ optional row 9

-- its line: where it stands, its end, its bits, its parent, why it gave no transfer
unfoldable pub line : List ℕ → List ℕ
line row = position row ++ spaced (le 4 row 14) ++ spaced (get_or row 18 0) ++ spaced (le 4 row 23) ++ spaced (get_or row 27 0) ++ newline

-- the lines of n rows from row i on
unfoldable pub lines_from : List ℕ → ℕ → ℕ → List ℕ
lines_from rows zero i = []
lines_from rows (suc n) i = line (take invocation_width (drop (i * invocation_width) rows)) ++ lines_from rows n (suc i)

-- what is printed of an answer and the rows of table 1
unfoldable pub listed : Answer → List ℕ → List ℕ
listed a rows = cond (eqb a.number 0) (head a ++ lines_from rows a.invocations 0) (refusal_line a.number a.place)

-- the lent tables: room for 256, 1,024, 400, 250 and 500 rows
abbrev pub lent_room : Lent
lent_room =
    record {
      mints = 256 * mint_width;
      invocations = 1024 * invocation_width;
      transfers = 400 * transfer_width;
      legs = 250 * leg_width;
      natives = 500 * action_width;
    }

-- the listing of an input: 88 bytes of names, and the rest is the pack
unfoldable pub listing : List ℕ → List ℕ
listing input = let r = route (take 88 input) (drop 88 input) lent_room in listed r.answer r.invocations

-- the call of that listing, for the tree
unfoldable pub route_of : List ℕ → Routed
route_of input = route (take 88 input) (drop 88 input) lent_room

-- row i of table 1
abbrev pub row_in : List ℕ → ℕ → List ℕ
row_in rows i = take invocation_width (drop (i * invocation_width) rows)
