-- A section that the starts allow is a part of the pack before the trailer.
-- Assumes nothing.
use Rattle.pack.specs.Sections.{section_of, has_section, start_of}
use Rattle.pack.proofs.Slices.{shown}
use Prim.Native.Nat.{ℕ, zero, suc, ◌+◌, ◌-◌, ◌<◌}
use native.Mathlib.Nat.{zero-sub}
use native.Mathlib.Omega.{arith}
use mathlib.Core.Path.{◌≡◌, refl, ap, ◌∙◌}
use mathlib.Core.Bool.{Bool, true, false, cond, ◌&&◌, and-false}
use mathlib.Core.List.{List, []}
use borrow.Author.Tests.{lt-ltb, le-ltb, lt-leb, leb-false}
use lib.Dec.{leb, ltb}
use lib.ListN.{length, take, drop}
use Rattle.pack.proofs.trailer.section.Goals as goal

-- no part ends before the first byte
none : (p : List ℕ) (from to : ℕ) → cond (leb from to && leb to 0) (take (to - from) (drop from p)) [] ≡ []
none p from zero = rw (zero-sub from) (either (leb from 0))
  where
    empty : List ℕ
    empty = []

    either : (t : Bool) → cond (t && true) empty empty ≡ empty
    either true = refl
    either false = refl
none p from (suc to) = rw (lt-leb (suc to) 0 (omega arith), and-false (leb from (suc to)))

-- so a pack that is too short for a trailer has no part before it
long : (p : List ℕ) (from to : ℕ) (k : ℕ) → k < 5 → cond (leb from to && leb to (length p - 24)) (take (to - from) (drop from p)) []
    ≡ cond (leb 24 (length p) && (ltb k 5 && (leb from to && leb to (length p - 24)))) (take (to - from) (drop from p)) []
long p from to k h = rw (lt-ltb k 5 h) (go (leb 24 (length p)) refl)
  where
    go : (t : Bool) → leb 24 (length p) ≡ t → cond (leb from to && leb to (length p - 24)) (take (to - from) (drop from p)) [] ≡ cond (t && (leb from to && leb to (length p - 24))) (take (to - from) (drop from p)) []
    go true e = refl
    go false e = let z : length p - 24 ≡ 0 = omega (arith, leb-false 24 (length p) e) in rw z (none p from to)

pub returns-then-k-ge5 : goal.returns-then-k-ge5
unfolding section_of has_section
returns-then-k-ge5 c = rw (le-ltb _ _ c.if-k-ge5.true, and-false (leb 24 (length c.args.pack.now)))

pub returns : goal.returns
unfolding section_of has_section
returns c =
    let p = c.args.pack.now in
    let part = shown p c.trailer_at.result c.start.result c.start-2.result (omega (arith, c.trailer_at.ensures)) c.get.result _ refl c.get.ensures.lookup in
    ap (λ (b : _). b.now) c.unwrap_or.ensures ∙ part ∙ rw (c.trailer_at.ensures, c.start.ensures, c.start-2.ensures) (long p (start_of p c.args.k) (start_of p (c.args.k + 1)) c.args.k c.if-k-ge5.false)
