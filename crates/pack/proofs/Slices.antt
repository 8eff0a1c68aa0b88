-- What stands in a part of a pack stands in the pack, as much further on as the part starts.
-- Assumes nothing.
use mathlib.Core.Path.{◌≡◌, refl, sym, ap, ◌∙◌}
use mathlib.Core.Bool.{cond, ◌&&◌, and-false}
use mathlib.Core.List.{List, []}
use mathlib.Core.Logic.{◌⊎◌, inl, inr}
use denote.Ref.{Bor}
use Rattle.std.specs.Prelude.{Option, Some, None, unwrap_or}
use Rattle.std.specs.Slice.{IsGetRangeResult}
use Rattle.std.proofs.lemmas.List.{drop-take, take-take}
use borrow.Author.Tests.{lt-leb, le-leb}
use lib.Dec.{leb}
use Prim.Native.Nat.{ℕ, zero, suc, ◌+◌, ◌-◌, ◌≤◌, ◌<◌}
use native.Mathlib.Nat.{add_assoc}
use native.Mathlib.Omega.{arith}
use lib.ListN.{length, get_or, take, drop, length-take, length-drop}
use lib.Seq.{get_or-take, get_or-drop, ext_get_or, length-take-le}
use Rattle.wire.specs.Le.{le}
use Rattle.pack.specs.Invocation.{instruction_at}
use Rattle.pack.specs.Items.{item_end}

-- a number that stands behind the first bytes
pub le_from : (p : List ℕ) (from k at : ℕ) → le k (drop from p) at ≡ le k p (from + at)
unfolding le
le_from p from zero at = refl
le_from p from (suc k) at = rw (le_from p from k at, get_or-drop from p (at + k) 0, ← add_assoc from at k)

module _ (p : List ℕ) (from n : ℕ) where
  abbrev pub slice : List ℕ
  slice = take n (drop from p)

  within : (length slice ≤ n) × (length slice ≤ length p - from)
  within = simp (length-take, length-drop) (omega arith, omega arith)

  pub le_in : (k at : ℕ) → at + k ≤ length slice → le k slice at ≡ le k p (from + at)
  unfolding le
  le_in zero at h = refl
  le_in (suc k) at h =
      let e : get_or slice (at + k) 0 ≡ get_or p (from + at + k) 0 =
      get_or-take n (drop from p) (at + k) 0 (omega (arith, within.0)) ∙ get_or-drop from p (at + k) 0 ∙ ap (λ (j : ℕ). get_or p j 0) (sym (add_assoc from at k)) in
      rw (le_in k at (omega arith), e)

  part_in : (k at : ℕ) → at + k ≤ length slice → take k (drop at slice) ≡ take k (drop (from + at) p)
  part_in k at h =
      let a = length-take-le k (drop at slice) (simp length-drop (omega arith)) in
      let b = length-take-le k (drop (from + at) p) (simp length-drop (omega (arith, within.1))) in
      ext_get_or 0 (take k (drop at slice)) (take k (drop (from + at) p)) (a ∙ sym b)
      (λ i l.
      let i<k : i < k = omega arith in
      get_or-take k (drop at slice) i 0 i<k ∙ get_or-drop at slice i 0 ∙ get_or-take n (drop from p) (at + i) 0 (omega (arith, within.0)) ∙ get_or-drop from p (at + i) 0
      ∙ ap (λ (j : ℕ). get_or p j 0) (sym (add_assoc from at i)) ∙ sym (get_or-take k (drop (from + at) p) i 0 i<k ∙ get_or-drop (from + at) p i 0))

  -- an instruction that lies in it
  pub instruction-in : (at : ℕ) → item_end slice at ≤ length slice → instruction_at slice at ≡ instruction_at p (from + at)
  unfolding instruction_at item_end
  instruction-in at h =
      let a : le 4 slice at ≡ le 4 p (from + at) = le_in 4 at (omega arith) in
      let b : le 2 slice (at + 4) ≡ le 2 p (from + at + 4) = le_in 2 (at + 4) (omega arith) ∙ ap (le 2 p) (sym (add_assoc from at 4)) in
      let c : le 2 slice (at + 6) ≡ le 2 p (from + at + 6) = le_in 2 (at + 6) (omega arith) ∙ ap (le 2 p) (sym (add_assoc from at 6)) in
      let x : from + (at + 8) ≡ from + at + 8 = omega arith in
      let y : from + (at + 8 + le 2 slice (at + 4)) ≡ from + at + 8 + le 2 slice (at + 4) = omega arith in
      rw (a, part_in (le 2 slice (at + 4)) (at + 8) (omega arith), part_in (le 2 slice (at + 6)) (at + 8 + le 2 slice (at + 4)) (omega arith), x, y, b, c)

-- a part that `get` shows of the first t bytes, or no bytes where it shows none
pub shown : (p : List ℕ) (t from to : ℕ) → t ≤ length p → (r : Option (Bor (List ℕ))) (d : Bor (List ℕ)) → d.now ≡ [] → IsGetRangeResult (take t p) from to r
    → (unwrap_or r d).now ≡ cond (leb from to && leb to t) (take (to - from) (drop from p)) []
shown p t from to h None d e g = rw e (go g.0)
  where
    long : length (take t p) ≡ t
    long = length-take-le t p h

    go : (to < from) ⊎ (length (take t p) < to) → [] ≡ cond (leb from to && leb to t) (take (to - from) (drop from p)) []
    go (inl l) = rw (lt-leb from to l)
    go (inr l) = rw (lt-leb to t (omega (arith, long)), and-false (leb from to))
shown p t from to h (Some x) d e g =
    let long = length-take-le t p h in
    let a : from ≤ to = g.0.0 in
    let b : to ≤ t = omega (arith, long, g.0.1) in
    let n : from + (t - from) ≡ t = omega arith in
    let part : drop from (take t p) ≡ take (t - from) (drop from p) = rw n at (drop-take from (t - from) p) in
    rw (le-leb from to a, le-leb to t b) (g.0.2 ∙ rw (part, take-take (to - from) (t - from) (drop from p) (omega arith)))
