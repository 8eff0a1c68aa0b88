-- The last four bytes against the mark, once the size is taken.
-- Assumes nothing.
use Rattle.std.proofs.Common.{◌≡◌, refl, ℕ, ◌-◌, Bool, true, false, ◌&&◌, length, drop, arith, Some, List, [], ◌∷◌}
use mathlib.Core.Path.{◌∙◌}
use Rattle.std.specs.Ordering.{partial_le, nat_cmp}
use Rattle.std.proofs.lemmas.Bool.Decides.{nat_tests}
use Rattle.pack.specs.Sections.{marked, mark}
use Rattle.wire.specs.Same.{same}
use lib.Dec.{leb, eqb}
use lib.Pointwise.{pointwise}
use Rattle.pack.proofs.trailer.marked.Goals as goal

le-is : (a b : ℕ) → partial_le (λ x y. Some (nat_cmp x y)) a b ≡ leb a b
le-is a b = grind (arith, nat_tests)

turned : (x y : ℕ) → eqb x y ≡ eqb y x
turned x y = grind (arith, nat_tests)

same-is : (xs ys : List ℕ) → pointwise eqb ys xs ≡ same xs ys
unfolding same
same-is [] [] = refl
same-is [] (y ∷ ys) = refl
same-is (x ∷ xs) [] = refl
same-is (x ∷ xs) (y ∷ ys) = rw (turned y x, same-is xs ys)

-- the size is taken, or not
taken : (t a b s : Bool) → t ≡ (a && b) → t ≡ true → s ≡ (a && (b && s))
taken t true true s e q = refl
taken t true false s e q = cc
taken t false b s e q = cc

refused : (t a b s : Bool) → t ≡ (a && b) → t ≡ false → t ≡ (a && (b && s))
refused t true true s e q = cc
refused t true false s e q = q
refused t false b s e q = q

pub returns-then-contains : goal.returns-then-contains
unfolding marked mark
returns-then-contains c =
    let p = c.args.pack.now in
    let n = length p in
    let w = c.new.ensures in
    let size : c.contains.result ≡ (leb 24 n && leb n 61440) = c.contains.ensures.value ∙ rw (w.start, w.end, w.exhausted, le-is 24 n, le-is n 61440) in
    let s : Bool = same (drop (n - 4) p) mark in
    (c.ends_with.ensures.value ∙ same-is (drop (n - 4) p) mark) ∙ taken c.contains.result (leb 24 n) (leb n 61440) s size c.if-contains.true

pub returns-else-contains : goal.returns-else-contains
unfolding marked mark
returns-else-contains c =
    let p = c.args.pack.now in
    let n = length p in
    let w = c.new.ensures in
    let size : c.contains.result ≡ (leb 24 n && leb n 61440) = c.contains.ensures.value ∙ rw (w.start, w.end, w.exhausted, le-is 24 n, le-is n 61440) in
    refused c.contains.result (leb 24 n) (leb n 61440) (same (drop (n - 4) p) mark) size c.if-contains.false
