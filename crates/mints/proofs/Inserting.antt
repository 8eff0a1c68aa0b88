-- A row number put in between others: those from its place on move up by one, the last first, so none is lost.
-- Assumes nothing.
use mathlib.Core.Path.{◌≡◌, ap, ◌∙◌}
use mathlib.Core.List.{List, ◌∷◌, ◌++◌}
use Prim.Native.Nat.{ℕ, suc, ◌+◌, ◌-◌, ◌≤◌, ◌<◌}
use native.Mathlib.Omega.{arith}
use lib.ListN.{length, get_or, set, take, drop, length-append, length-take, length-drop}
use lib.Seq.{sets, drop-cons, sets-eq, take_at, take-take, take-add, drop_at, length-take-le}
use Rattle.wire.proofs.Sets.{sets-before, sets-front}

module _ (o : List ℕ) where
  -- one element more moved to the right
  pub shift-more : (k i : ℕ) → 0 < i → i ≤ k → k < length o
      → set (sets o (i + 1) (take (k - i) (drop i o))) (i - 1 + 1) (get_or (sets o (i + 1) (take (k - i) (drop i o))) (i - 1) 0) ≡ sets o (i - 1 + 1) (take (k - (i - 1)) (drop (i - 1) o))
  shift-more k i h p q =
      let e : i - 1 + 1 ≡ i = omega arith in
      let f : k - (i - 1) ≡ suc (k - i) = omega arith in
      let g : suc (i - 1) ≡ i = omega arith in
      rw (e, f, sets-before o (i + 1) (take (k - i) (drop i o)) (i - 1) (omega arith), drop-cons o (i - 1) 0 (omega arith), g)
      (sets-front o (i + 1) i (take (k - i) (drop i o)) (get_or o (i - 1) 0) (omega arith))

  pub drop-take : (j k : ℕ) → j ≤ k → j ≤ length o → drop j (take k o) ≡ take (k - j) (drop j o)
  drop-take j k h q =
      let e : k ≡ j + (k - j) = omega arith in
      ap (λ (n : ℕ). drop j (take n o)) e ∙ rw (take-add j (k - j) o) (drop_at (take j o) (take (k - j) (drop j o)) j (length-take-le j o q))

  -- what stands before and after the element that is put in
  pub inserted : (j k r : ℕ) → j ≤ k → k < length o
      → take (suc k) (set (sets o (j + 1) (take (k - j) (drop j o))) j r) ≡ take j (take k o) ++ (r ∷ drop j (take k o))
  inserted j k r h q =
      let n : length (take j o ++ (r ∷ take (k - j) (drop j o))) ≡ suc k = simp (length-append, length-take, length-drop) (omega arith) in
      rw (sets-front o (j + 1) j (take (k - j) (drop j o)) r (omega arith), sets-eq (r ∷ take (k - j) (drop j o)) o j (simp (length-take, length-drop) (omega arith)), take_at (take j o ++ (r ∷ take (k - j) (drop j o))) (drop (j + length (r ∷ take (k - j) (drop j o))) o) (suc k) n, take-take j k o h, drop-take j k h (omega arith))
