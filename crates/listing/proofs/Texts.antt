-- What `write!` makes of the pieces of a line is the line. It puts the pieces together from the right, and the definitions do from the left.
-- Assumes nothing.
use Rattle.std.proofs.Common.{◌≡◌, refl, sym, ap, ap₂, ◌∙◌, ℕ, ◌+◌, ◌<◌, List, [], ◌∷◌, ◌++◌, length, codes, append_assoc}
use Rattle.std.specs.Fmt as std
use Rattle.route.specs.declared.Answer.{Answer}
use Rattle.listing.specs.Decimal.{decimal}
use Rattle.listing.specs.Listing.{newline, spaced, word_number, refusal_line, counts, head, optional, position, line}
use Rattle.listing.specs.Tree.{spaced_all, branch, tree_head}
use Rattle.listing.proofs.Decimal.{std-decimal}
use Rattle.wire.specs.Le.{le}
use lib.ListN.{get_or, take}
use Rattle.listing.proofs.Drawing.{spaced-more}

-- a number of 64 bits
abbrev pub Short : ℕ → Type 0
Short x = x < 18446744073709551616

cons-append : (x : ℕ) (a b : List ℕ) → (x ∷ a) ++ b ≡ x ∷ (a ++ b)
cons-append x a b = refl

pub spaced-text : (x : ℕ) → Short x → codes " " ++ std.decimal x ≡ spaced x
unfolding spaced
spaced-text x h = rw (std-decimal x h)

pub refused-text : (number place : ℕ) → Short number → Short place
    → codes "refused " ++ (std.decimal number ++ (codes " " ++ (std.decimal place ++ codes "\n"))) ≡ refusal_line number place
unfolding refusal_line word_number spaced
refused-text number place h g = rw (std-decimal number h, std-decimal place g) (simp (append_assoc, cons-append))

-- the rows of the tables behind the word
first-text : (a : Answer) → Short a.mints → Short a.invocations → Short a.transfers → Short a.legs → Short a.natives
    → codes "ok " ++ (std.decimal a.mints ++ (codes " " ++ (std.decimal a.invocations ++ (codes " " ++ (std.decimal a.transfers ++ (codes " " ++ (std.decimal a.legs
    ++ (codes " " ++ std.decimal a.natives))))))))
    ≡ (111 ∷ 107 ∷ []) ++ counts a
unfolding counts spaced
first-text a m i t l n =
    rw (std-decimal a.mints m, std-decimal a.invocations i, std-decimal a.transfers t, std-decimal a.legs l, std-decimal a.natives n)
    (ap (λ (x : List ℕ). 111 ∷ 107 ∷ x) (sym (parts (32 ∷ decimal a.mints) (32 ∷ decimal a.invocations) (32 ∷ decimal a.transfers) (32 ∷ decimal a.legs) (32 ∷ decimal a.natives))))
  where
    parts : (m i t l n : List ℕ) → m ++ i ++ t ++ l ++ n ≡ m ++ (i ++ (t ++ (l ++ n)))
    parts m i t l n = simp append_assoc

-- the passes and the tests
second-text : (passes tests : ℕ) → Short passes → Short tests
    → codes " passes " ++ (std.decimal passes ++ (codes " tests " ++ (std.decimal tests ++ codes "\n")))
    ≡ word_number (32 ∷ 112 ∷ 97 ∷ 115 ∷ 115 ∷ 101 ∷ 115 ∷ []) passes ++ (word_number (32 ∷ 116 ∷ 101 ∷ 115 ∷ 116 ∷ 115 ∷ []) tests ++ newline)
unfolding word_number spaced
second-text passes tests p t = rw (std-decimal passes p, std-decimal tests t)

pub head-text : (a : Answer) → Short a.mints → Short a.invocations → Short a.transfers → Short a.legs → Short a.natives → Short a.passes → Short a.tests
    → (codes "ok " ++ (std.decimal a.mints ++ (codes " " ++ (std.decimal a.invocations ++ (codes " " ++ (std.decimal a.transfers ++ (codes " " ++ (std.decimal a.legs
    ++ (codes " " ++ std.decimal a.natives)))))))))
    ++ (codes " passes " ++ (std.decimal a.passes ++ (codes " tests " ++ (std.decimal a.tests ++ codes "\n"))))
    ≡ head a
unfolding head
head-text a m i t l n p e = ap₂ ◌++◌ (first-text a m i t l n) (second-text a.passes a.tests p e) ∙ sym (parts (111 ∷ 107 ∷ []) (counts a) _ _ newline)
  where
    parts : (o c p t n : List ℕ) → o ++ c ++ p ++ t ++ n ≡ (o ++ c) ++ (p ++ (t ++ n))
    parts o c p t n = simp append_assoc

pub line-text : (row : List ℕ) (outer end bits parent reason : ℕ) (inner height : List ℕ)
    → outer ≡ le 4 row 0 → inner ≡ optional row 4 → height ≡ optional row 9 → end ≡ le 4 row 14 → bits ≡ get_or row 18 0 → parent ≡ le 4 row 23 → reason ≡ get_or row 27 0
    → Short outer → Short end → Short bits → Short parent → Short reason
    → std.decimal outer ++ (inner ++ (height ++ (codes " " ++ (std.decimal end ++ (codes " " ++ (std.decimal bits ++ (codes " " ++ (std.decimal parent
    ++ (codes " " ++ (std.decimal reason ++ codes "\n"))))))))))
    ≡ line row
unfolding spaced position line
line-text row outer end bits parent reason inner height o i k e b p r so se sb sp sr =
    rw (← o, ← i, ← k, ← e, ← b, ← p, ← r, std-decimal outer so, std-decimal end se, std-decimal bits sb, std-decimal parent sp, std-decimal reason sr) (simp (append_assoc, cons-append))

pub tree_head-text : (n : ℕ) → Short n → codes "ok " ++ (std.decimal n ++ codes "\n") ≡ tree_head n
unfolding word_number spaced tree_head
tree_head-text n h = rw (std-decimal n h) (simp (append_assoc, cons-append))

pub branch-text : (end inside : ℕ) (children : List ℕ) → Short end → Short inside → Short (length children)
    → std.decimal end ++ (codes " " ++ (std.decimal inside ++ (codes " " ++ (std.decimal (length children) ++ (spaced_all children ++ codes "\n")))))
    ≡ branch end inside children
unfolding spaced branch
branch-text end inside children e i l = rw (std-decimal end e, std-decimal inside i, std-decimal (length children) l) (simp (append_assoc, cons-append))

-- one number more
pub spaced-written : (l : List ℕ) (k : ℕ) → k < length l → Short (get_or l k 0) → spaced_all (take k l) ++ (codes " " ++ std.decimal (get_or l k 0)) ≡ spaced_all (take (k + 1) l)
spaced-written l k h s = rw (spaced-text (get_or l k 0) s) (spaced-more l k h)
