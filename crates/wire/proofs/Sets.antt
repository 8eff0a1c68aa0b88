-- Laws of `sets l i vs`, the list l with vs stored from place i on: the form of a promise on a lent table.
-- Assumes nothing.
use mathlib.Core.Path.{◌≡◌, refl, sym, ap, ◌∙◌}
use mathlib.Core.List.{List, [], ◌∷◌, ◌++◌, append-nil, append_assoc}
use Prim.Native.Nat.{ℕ, zero, suc, ◌+◌, ◌≤◌, ◌<◌}
use native.Mathlib.Nat.{zero-add, add-zero, add-suc, suc-add}
use native.Mathlib.Numerals.{add-one}
use native.Mathlib.Omega.{arith}
use lib.ListN.{length, get_or, take, drop, set, length-set, take-append-drop}
use borrow.Rule.Slice.PartMut.{put_mid}
use lib.Seq.{sets, sets-eq, drop-length, drop-drop, length-sets, set_out, set_comm, take-suc, length-take-le, get_or-set_same, get_or-set_other}

-- a run of stores in two runs
pub sets-append : (l : List ℕ) (i : ℕ) (a b : List ℕ) → sets l i (a ++ b) ≡ sets (sets l i a) (i + length a) b
sets-append l i [] b = rw add-zero
sets-append l i (x ∷ a) b = rw (sets-append (set l i x) (suc i) a b, suc-add, add-suc)

-- stores right after a run of stores
pub sets-next : (l : List ℕ) (i : ℕ) (a b : List ℕ) (m : ℕ) → i + length a ≡ m → sets (sets l i a) m b ≡ sets l i (a ++ b)
sets-next l i a b m e = rw (sets-append, e)

-- the first n of a run of stores, and then the rest
pub sets-rest : (l : List ℕ) (i : ℕ) (vs : List ℕ) (n : ℕ) → n ≤ length vs → sets (sets l i (take n vs)) (i + n) (drop n vs) ≡ sets l i vs
sets-rest l i vs n h = sets-next l i (take n vs) (drop n vs) (i + n) (rw (length-take-le n vs h)) ∙ ap (sets l i) (take-append-drop n vs)

-- one store more
pub sets_more : (l : List ℕ) (i : ℕ) (s : List ℕ) (j : ℕ) → j < length s → set (sets l i (take j s)) (i + j) (get_or s j 0) ≡ sets l i (take (j + 1) s)
sets_more l i s j h = rw (add-one, take-suc s j 0 h, sets-append, length-take-le j s (omega arith))

-- a place before the stores is as it was
pub sets-before : (l : List ℕ) (i : ℕ) (vs : List ℕ) (k : ℕ) → k < i → get_or (sets l i vs) k 0 ≡ get_or l k 0
sets-before l i [] k h = refl
sets-before l i (v ∷ vs) k h = sets-before (set l i v) (suc i) vs k (omega arith) ∙ get_or-set_other l i k v 0 (omega arith)

-- and so is one after them
pub sets-after : (l : List ℕ) (i : ℕ) (vs : List ℕ) (k : ℕ) → i + length vs ≤ k → get_or (sets l i vs) k 0 ≡ get_or l k 0
sets-after l i [] k h = refl
sets-after l i (v ∷ vs) k h = sets-after (set l i v) (suc i) vs k (omega arith) ∙ get_or-set_other l i k v 0 (omega arith)

-- a place among them has what was stored
pub sets-in : (l : List ℕ) (i : ℕ) (vs : List ℕ) (j : ℕ) → j < length vs → i + length vs ≤ length l → get_or (sets l i vs) (i + j) 0 ≡ get_or vs j 0
sets-in l i [] j h f = absurd (omega arith)
sets-in l i (v ∷ vs) zero h f = rw add-zero (sets-before (set l i v) (suc i) vs i (omega arith) ∙ get_or-set_same l i v 0 (omega arith))
sets-in l i (v ∷ vs) (suc j) h f = rw (add-suc, ← suc-add i j) (sets-in (set l i v) (suc i) vs j (omega arith) (simp length-set (omega arith)))

-- a store before the stores
pub sets-set : (l : List ℕ) (i : ℕ) (vs : List ℕ) (j x : ℕ) → j < i → set (sets l i vs) j x ≡ sets (set l j x) i vs
sets-set l i [] j x h = refl
sets-set l i (v ∷ vs) j x h = sets-set (set l i v) (suc i) vs j x (omega arith) ∙ rw (set_comm l i j v x (omega arith))

-- one value more, in front of the stores
pub sets-front : (l : List ℕ) (i m : ℕ) (vs : List ℕ) (x : ℕ) → suc m ≡ i → set (sets l i vs) m x ≡ sets l m (x ∷ vs)
sets-front l i m vs x e = rw (← e) (sets-set l (suc m) vs m x (omega arith))

-- stores past the end do nothing
pub sets-past : (l : List ℕ) (i : ℕ) (vs : List ℕ) → length l ≤ i → sets l i vs ≡ l
sets-past l i [] h = refl
sets-past l i (v ∷ vs) h = rw (set_out l i v h) (sets-past l (suc i) vs (omega arith))

-- stores that run past the end
pub sets-cut : (l : List ℕ) (i : ℕ) (vs : List ℕ) (n : ℕ) → i + n ≡ length l → n ≤ length vs → sets l i (take n vs) ≡ sets l i vs
sets-cut l i vs n e h =
    sym (sets-past (sets l i (take n vs)) (i + n) (drop n vs) (rw length-sets (omega arith))) ∙ sets-rest l i vs n h

-- stores over the whole of a list leave what was stored
pub sets-whole : (l vs : List ℕ) → length vs ≡ length l → sets l 0 vs ≡ vs
sets-whole l vs e =
    sets-eq vs l 0 (omega arith) ∙ rw (zero-add, e, drop-length l) (append-nil vs)

-- a part of a slice that now holds what was stored
pub sets-part : (l vs : List ℕ) (i n : ℕ) → n ≡ length vs → i + n ≤ length l → put_mid i n l vs ≡ sets l i vs
sets-part l vs i n e h = rw (e, drop-drop, sets-eq vs l i (omega arith), append_assoc)
