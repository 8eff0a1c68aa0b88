-- Small packs, and which refusal the definitions give each of them, by computation.
-- Assumes nothing.
use mathlib.Core.Path.{◌≡◌, refl}
use mathlib.Core.Bool.{Bool, true, ◌&&◌}
use mathlib.Core.List.{List, [], ◌∷◌, ◌++◌}
use Prim.Native.Nat.{ℕ, ◌<◌}
use borrow.Author.Tests.{lt-leb, le-leb}
use native.Mathlib.Omega.{arith}
use lib.Dec.{eqb}
use lib.ListN.{length}
use Rattle.wire.specs.Le.{le, le_bytes}
use Rattle.wire.specs.Same.{same}
use Rattle.wire.specs.Zeros.{zeros}
use Rattle.std.specs.Prelude.{Err}
use Rattle.pack.specs.declared.Refusal.TheVariants.{Mark}
use Rattle.pack.specs.Invocation.{instruction_at}
use Rattle.pack.specs.Sections.{mark, marked, start_of, ordered, has_section, section_of}
use Rattle.pack.specs.Items.{rows, rows_fill, keys_fill, item_end, outers_from, outers_fill, height_at, height_good, inners_end, inners_good, inners_from, group_end, group_good, group_at, groups_from, groups_fill}
use Rattle.pack.specs.View.{keys_in, balances_in, balances_named, outer_in, groups_in, pools_in, view_of}
use Rattle.pack.specs.Flatten.{numbered, inside, flatten_from, flatten}
use Rattle.pack.specs.Verdict.{verdict, refusal_number, place_of}

-- a pack of five sections
abbrev pub packed : List ℕ → List ℕ → List ℕ → List ℕ → List ℕ → List ℕ
packed a b c d e =
    let s = a ++ b ++ c ++ d ++ e in
    s ++ le_bytes 4 0 ++ le_bytes 4 (length a) ++ le_bytes 4 (length (a ++ b)) ++ le_bytes 4 (length (a ++ b ++ c)) ++ le_bytes 4 (length (a ++ b ++ c ++ d)) ++ mark

-- a trailer alone, with these starts
abbrev pub trailer : ℕ → ℕ → ℕ → ℕ → ℕ → List ℕ
trailer a b c d e = le_bytes 4 a ++ le_bytes 4 b ++ le_bytes 4 c ++ le_bytes 4 d ++ le_bytes 4 e ++ mark

-- an instruction without accounts and data, one of a group, and a group
abbrev pub plain : ℕ → List ℕ
plain program = le_bytes 4 program ++ zeros 4

abbrev pub inner : ℕ → ℕ → ℕ → List ℕ
inner flag height program = flag ∷ le_bytes 4 height ++ plain program

abbrev pub group : ℕ → ℕ → List ℕ
group index count = le_bytes 4 index ++ le_bytes 2 count

-- a key of 32 bytes, a mint, and a balance row
abbrev one_key : List ℕ
one_key = 1 ∷ zeros 32

abbrev one_mint : List ℕ
one_mint = 9 ∷ zeros 31

abbrev balance : ℕ → List ℕ → List ℕ
balance index mint = le_bytes 4 index ++ mint

-- a pack, and the number and place of its refusal
pub record Case : Type 0 where
  pub bytes : List ℕ
  pub number : ℕ
  pub place : ℕ

abbrev case : List ℕ → ℕ → ℕ → Case
case p n k = record { bytes = p; number = n; place = k }

unfoldable pub right : Case → Bool
right c = eqb (refusal_number (verdict c.bytes)) c.number && eqb (place_of (verdict c.bytes)) c.place

unfoldable pub all_right : List Case → Bool
all_right [] = true
all_right (c ∷ cs) = right c && all_right cs

unfoldable pub cases : List Case
cases =
    -- no trailer, no mark; a mark and nothing else
    case [] 2 0 ∷ case (zeros 23) 2 0 ∷ case (zeros 24) 2 0 ∷ case (trailer 0 0 0 0 0) 0 0 ∷
    -- the first start is not 0, a start falls, a start passes the trailer
    case (0 ∷ trailer 1 1 1 1 1) 3 0 ∷ case (0 ∷ trailer 0 1 0 1 1) 3 0 ∷ case (trailer 0 0 0 0 1) 3 0 ∷
    -- a partial row of each section, and the lowest of two
    case (packed (1 ∷ []) [] [] [] []) 4 0 ∷ case (packed [] (1 ∷ []) [] [] []) 4 1 ∷ case (packed [] [] (zeros 7) [] []) 4 2 ∷ case (packed [] [] [] (zeros 5) []) 4 3 ∷
    case (packed [] [] [] [] (1 ∷ [])) 4 4 ∷ case (packed [] (1 ∷ []) [] (zeros 5) []) 4 1 ∷
    -- a key's flag: 1, 2
    case (packed one_key [] [] [] []) 0 0 ∷ case (packed (2 ∷ zeros 32) [] [] [] []) 4 0 ∷
    -- the balance of the one key, and of a key that is not there: the mint zero or not, the index 1, 256, 65,536 or the greatest, in the first row or the last
    case (packed one_key (balance 0 (zeros 32)) [] [] []) 0 0 ∷ case (packed one_key (balance 1 (zeros 32)) [] [] []) 11 1 ∷ case (packed one_key (balance 1 one_mint) [] [] []) 11 1 ∷
    case (packed one_key (balance 256 one_mint) [] [] []) 11 1 ∷ case (packed one_key (balance 65536 one_mint) [] [] []) 11 1 ∷ case (packed one_key (balance 4294967295 one_mint) [] [] []) 11 1 ∷
    case (packed one_key (balance 1 one_mint ++ balance 0 one_mint) [] [] []) 11 1 ∷ case (packed one_key (balance 0 one_mint ++ balance 1 one_mint) [] [] []) 11 1 ∷
    -- no keys at all: no index names one
    case (packed [] (balance 0 (zeros 32)) [] [] []) 11 1 ∷
    -- a partial row of the last section comes before it
    case (packed [] (balance 0 (zeros 32)) [] [] (1 ∷ [])) 4 4 ∷
    -- 65,535 accounts in a section of 9 bytes
    case (packed [] [] (zeros 4 ++ le_bytes 2 65535 ++ zeros 3) [] []) 4 2 ∷
    -- a group that holds two, and one that is cut off in its second instruction, though no outer instruction has its index
    case (packed [] [] [] (group 7 2 ++ inner 1 2 0 ++ inner 1 2 0) []) 0 0 ∷ case (packed [] [] [] (group 7 2 ++ inner 1 2 0 ++ (1 ∷ zeros 11)) []) 4 3 ∷
    -- a height flag of 2, a height without a flag, a known height of 0
    case (packed [] [] (plain 0) (group 0 1 ++ inner 2 0 0) []) 4 3 ∷ case (packed [] [] (plain 0) (group 0 1 ++ inner 0 1 0) []) 4 3 ∷ case (packed [] [] (plain 0) (group 0 1 ++ inner 1 0 0) []) 0 0 ∷
    []

pub refusals : all_right cases ≡ true
unfolding cases right all_right verdict marked mark same start_of ordered has_section section_of le le_bytes rows rows_fill keys_fill item_end outers_from outers_fill height_at height_good inners_end inners_good inners_from group_end group_good group_at groups_from groups_fill keys_in balances_in balances_named outer_in groups_in pools_in view_of numbered inside flatten_from flatten instruction_at
refusals = refl

-- packs of every size that is not taken
pub too_short : (p : List ℕ) → length p < 24 → verdict p ≡ Err Mark
unfolding verdict marked
too_short p h = rw (lt-leb 24 (length p) h)

pub too_long : (p : List ℕ) → 61440 < length p → verdict p ≡ Err Mark
unfolding verdict marked
too_long p h = rw (le-leb 24 (length p) (omega arith), lt-leb (length p) 61440 h)
