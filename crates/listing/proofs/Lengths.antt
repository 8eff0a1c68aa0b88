-- How long what is printed can be: the numbers of a row and of an answer are of 32 bits, and each invocation is at most one other's child.
-- Assumes nothing.
use Rattle.std.proofs.Common.{◌≡◌, ◌∙◌, ℕ, zero, suc, ◌+◌, ◌*◌, ◌^◌, ◌≤◌, ◌<◌, Bool, true, false, List, [], ◌∷◌, ◌++◌, length, get_or, take, drop, arith, length-append}
use mathlib.Core.Bool.{cond}
use lib.Dec.{eqb}
use native.Mathlib.Nat.{zero-add}
use Rattle.wire.specs.Le.{le}
use Rattle.wire.proofs.Tab.{tab-at}
use Rattle.pack.specs.Invocation.{Position}
use Rattle.subtrees.specs.Subtrees.{end_of, inside_of, ends_of, insides_of}
use Rattle.subtrees.proofs.Claims.{end_after}
use Rattle.finder.specs.Children.{rising_below, is_child, children_of}
use Rattle.finder.proofs.Claims.{children-few, met_by, met-more, met-few}
use Rattle.route.specs.declared.Answer.{Answer}
use Rattle.route.specs.Widths.{invocation_width}
use Rattle.listing.specs.Listing.{spaced, word_number, refusal_line, counts, head, optional, position, line, row_in, lines_from, listed}
use Rattle.listing.specs.Tree.{spaced_all, branch, branch_of, first_lines, tree_head}
use Rattle.listing.proofs.Decimal.{decimal-few, decimal-ten}
use Rattle.listing.specs.Puts.{PutsText}
use Rattle.listing.proofs.Rows.{inside-le}
use Rattle.listing.proofs.Drawing.{spaced-append}
use native.Mathlib.Numerals.{add-one}

-- every element is a byte
abbrev pub Bytes : List ℕ → Type 0
Bytes s = (k : ℕ) → get_or s k 0 < 256

-- a number of 32 bits
abbrev pub Word : ℕ → Type 0
Word x = x < 4294967296

pub spaced-few : (k x : ℕ) → x < 10 ^ suc k → length (spaced x) ≤ suc k + 1
unfolding spaced
spaced-few k x h = omega (arith, decimal-few k x h)

pub spaced-ten : (x : ℕ) → Word x → length (spaced x) ≤ 11
unfolding spaced
spaced-ten x h = omega (arith, decimal-ten x h)

word-few : (word : List ℕ) (x : ℕ) → Word x → length (word_number word x) ≤ length word + 11
unfolding word_number
word-few word x h = simp length-append (omega (arith, spaced-ten x h))

le-word : (s : List ℕ) (at : ℕ) → Bytes s → Word (le 4 s at)
unfolding le
le-word s at h = omega (arith, h (at + 0), h (at + 1), h (at + 2), h (at + 3))

pub refusal-few : (number place : ℕ) → Word number → Word place → length (refusal_line number place) ≤ 30
unfolding refusal_line
refusal-few number place h g = simp length-append (omega (arith, word-few (114 ∷ 101 ∷ 102 ∷ 117 ∷ 115 ∷ 101 ∷ 100 ∷ []) number h, spaced-ten place g))

-- the numbers of an answer are of 32 bits
pub record Words (a : Answer) : Type 0 where
  pub number : Word a.number
  pub place : Word a.place
  pub mints : Word a.mints
  pub invocations : Word a.invocations
  pub transfers : Word a.transfers
  pub legs : Word a.legs
  pub natives : Word a.natives
  pub passes : Word a.passes
  pub tests : Word a.tests

head-few : (a : Answer) → Words a → length (head a) ≤ 93
unfolding counts head
head-few a w =
    simp length-append
    (omega (
      arith,
      spaced-ten a.mints w.mints,
      spaced-ten a.invocations w.invocations,
      spaced-ten a.transfers w.transfers,
      spaced-ten a.legs w.legs,
      spaced-ten a.natives w.natives,
      word-few (32 ∷ 112 ∷ 97 ∷ 115 ∷ 115 ∷ 101 ∷ 115 ∷ []) a.passes w.passes,
      word-few (32 ∷ 116 ∷ 101 ∷ 115 ∷ 116 ∷ 115 ∷ []) a.tests w.tests,
    ))

optional-few : (row : List ℕ) (flag : ℕ) → Bytes row → length (optional row flag) ≤ 11
unfolding optional
optional-few row flag h = go (eqb (get_or row flag 0) 0)
  where
    go : (b : Bool) → length (cond b (32 ∷ 45 ∷ []) (spaced (le 4 row (flag + 1)))) ≤ 11
    go true = omega arith
    go false = spaced-ten (le 4 row (flag + 1)) (le-word row (flag + 1) h)

byte-few : (row : List ℕ) (at : ℕ) → Bytes row → length (spaced (get_or row at 0)) ≤ 4
byte-few row at h = spaced-few 2 (get_or row at 0) (omega (arith, h at))

line-few : (row : List ℕ) → Bytes row → length (line row) ≤ 63
unfolding position line
line-few row h =
    simp length-append
    (omega (
      arith,
      decimal-ten (le 4 row 0) (le-word row 0 h),
      optional-few row 4 h,
      optional-few row 9 h,
      spaced-ten (le 4 row 14) (le-word row 14 h),
      byte-few row 18 h,
      spaced-ten (le 4 row 23) (le-word row 23 h),
      byte-few row 27 h,
    ))

taken-bytes : (n : ℕ) (s : List ℕ) → Bytes s → Bytes (take n s)
taken-bytes zero s h k = omega arith
taken-bytes (suc n) [] h k = omega arith
taken-bytes (suc n) (x ∷ s) h zero = h zero
taken-bytes (suc n) (x ∷ s) h (suc k) = taken-bytes n s (λ j. h (suc j)) k

left-bytes : (n : ℕ) (s : List ℕ) → Bytes s → Bytes (drop n s)
left-bytes zero s h k = h k
left-bytes (suc n) [] h k = omega arith
left-bytes (suc n) (x ∷ s) h k = left-bytes n s (λ j. h (suc j)) k

lines-few : (rows : List ℕ) (n i : ℕ) → Bytes rows → length (lines_from rows n i) ≤ n * 63
unfolding lines_from
lines-few rows zero i h = omega arith
lines-few rows (suc n) i h =
    simp length-append (omega (arith, line-few (row_in rows i) (taken-bytes invocation_width _ (left-bytes (i * invocation_width) rows h)), lines-few rows n (suc i) h))

-- no listing is longer
pub listed-few : (a : Answer) (rows : List ℕ) → Words a → a.invocations ≤ 1024 → Bytes rows → length (listed a rows) ≤ 65536
unfolding listed
listed-few a rows w few h = go (eqb a.number 0)
  where
    go : (b : Bool) → length (cond b (head a ++ lines_from rows a.invocations 0) (refusal_line a.number a.place)) ≤ 65536
    go true = simp length-append (omega (arith, head-few a w, lines-few rows a.invocations 0 h))
    go false = omega (arith, refusal-few a.number a.place w.number w.place)

-- numbers below 1,024
rising-few : (f : ℕ → Bool) (n : ℕ) → n ≤ 1024 → length (spaced_all (rising_below f n)) ≤ length (rising_below f n) * 11
unfolding spaced_all rising_below
rising-few f zero h = omega arith
rising-few f (suc n) h = go (f n) (rising-few f n (omega arith))
  where
    go : (b : Bool) → length (spaced_all (rising_below f n)) ≤ length (rising_below f n) * 11
        → length (spaced_all (cond b (rising_below f n ++ (n ∷ [])) (rising_below f n))) ≤ length (cond b (rising_below f n ++ (n ∷ [])) (rising_below f n)) * 11
    go true before = rw (spaced-append (rising_below f n) (n ∷ [])) (simp length-append (omega (arith, before, spaced-ten n (omega arith))))
    go false before = before

branch-few : (ps : List Position) (own : List ℕ) (i : ℕ) → i < length ps → length ps ≤ 1024 → length (branch_of ps own i) ≤ 33 + length (children_of ps i) * 11
unfolding children_of branch branch_of
branch-few ps own i h few =
    let e : get_or (ends_of ps) i 0 ≡ end_of ps i = tab-at (end_of ps) 0 0 (length ps) i h ∙ rw zero-add in
    let k : get_or (insides_of ps own) i 0 ≡ inside_of ps own i = tab-at (inside_of ps own) 0 0 (length ps) i h ∙ rw zero-add in
    rw (e, k)
    (simp length-append
    (omega (
      arith,
      decimal-ten (end_of ps i) (omega (arith, end_after ps i h)),
      spaced-ten (inside_of ps own i) (omega (arith, inside-le ps own i)),
      spaced-ten (length (children_of ps i)) (omega (arith, children-few ps i)),
      rising-few (is_child ps i) (length ps) few,
    )))

-- each invocation is at most one other's child
branches-few : (ps : List Position) (own : List ℕ) (n : ℕ) → n ≤ length ps → length ps ≤ 1024 → length (first_lines (branch_of ps own) n) ≤ n * 33 + length (met_by ps n) * 11
unfolding first_lines
branches-few ps own zero h few = omega arith
branches-few ps own (suc n) h few =
    let m : length (met_by ps (suc n)) ≡ length (met_by ps n) + length (children_of ps n) = rw (add-one n) at (met-more ps n) in
    simp length-append (omega (arith, m, branches-few ps own n (omega arith) few, branch-few ps own n (omega arith) few))

-- no tree is longer
pub drawn-few : (ps : List Position) (own : List ℕ) (n k : ℕ) → n ≤ length ps → length ps ≤ 1024 → Word k → length (tree_head k ++ first_lines (branch_of ps own) n) ≤ 65536
unfolding tree_head
drawn-few ps own n k h few w =
    simp length-append (omega (arith, word-few (111 ∷ 107 ∷ []) k w, branches-few ps own n h few, met-few ps n))

-- a text that is no longer is what is promised
pub puts : {most : ℕ} {text made : List ℕ} → made ≡ text → length text ≤ most → PutsText most text made
puts e h = record { left = e; within = rw e h }
