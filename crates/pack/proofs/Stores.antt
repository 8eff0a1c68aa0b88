-- Laws of `sets l i vs`, the list l with vs stored from place i on, for lists of anything.
-- Assumes nothing.
use mathlib.Core.Path.{◌≡◌}
use mathlib.Core.List.{List, [], ◌∷◌, ◌++◌}
use Prim.Native.Nat.{ℕ, suc, ◌+◌, ◌≤◌, ◌<◌}
use native.Mathlib.Nat.{add-zero, add-suc, suc-add}
use native.Mathlib.Numerals.{add-one}
use native.Mathlib.Omega.{arith}
use lib.ListN.{length, get_or, drop, set}
use lib.Seq.{sets, sets-eq}
use Rattle.std.proofs.lemmas.List.{get_or_append_left}

module _ {A : Type 0} where
  -- the first of a run of stores
  pub sets-cons : (l : List A) (n : ℕ) (x : A) (xs : List A) → sets l n (x ∷ xs) ≡ sets (set l n x) (n + 1) xs
  sets-cons l n x xs = rw (add-one n)

  -- a run of stores in two runs
  sets-append : (l : List A) (i : ℕ) (a b : List A) → sets l i (a ++ b) ≡ sets (sets l i a) (i + length a) b
  sets-append l i [] b = rw add-zero
  sets-append l i (x ∷ a) b = rw (sets-append (set l i x) (suc i) a b, suc-add, add-suc)

  -- stores right after a run of stores
  pub sets-next : (l : List A) (i : ℕ) (a b : List A) (m : ℕ) → i + length a ≡ m → sets (sets l i a) m b ≡ sets l i (a ++ b)
  sets-next l i a b m e = rw (sets-append, e)

  -- a list laid over an array, read back
  pub laid-at : (l vs : List A) (k : ℕ) (d : A) → length vs ≤ length l → k < length vs → get_or (sets l 0 vs) k d ≡ get_or vs k d
  laid-at l vs k d h q = rw (sets-eq vs l 0 (omega arith)) (get_or_append_left vs (drop (0 + length vs) l) d k q)
