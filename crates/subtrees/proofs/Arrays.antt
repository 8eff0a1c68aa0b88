-- The positions that places stand for, and arrays filled from the last place backwards: lists with the same elements are the same.
-- Assumes nothing.
use mathlib.Core.Path.{◌≡◌, sym, ap, ◌∙◌}
use mathlib.Core.Bool.{Bool}
use mathlib.Core.Logic.{◌⊎◌, inl, inr}
use mathlib.Core.List.{List, ◌++◌}
use mathlib.Core.Option.{none}
use Prim.Native.Nat.{ℕ, ◌+◌, ◌-◌, ◌≤◌, ◌<◌, min}
use native.Mathlib.Nat.{zero-add, eq-or-lt_of_le}
use native.Mathlib.Omega.{arith}
use borrow.Author.Tests.{le-ltb}
use Rattle.std.proofs.lemmas.Bool.Decides.{nat_tests}
use lib.ListN.{length, get_or, set, length-append, length-replicate, get_or-append}
use lib.Seq.{ext_get_or, get_or-append-add, get_or-set_same, get_or-set_other}
use Rattle.wire.specs.Zeros.{zeros}
use Rattle.wire.proofs.Zeros.{zeros-at}
use Rattle.wire.proofs.Tab.{tab-length, tab-at}
use Rattle.pack.specs.declared.position.Place.{Place}
use Rattle.pack.specs.Invocation.{Position, position_in_places}
use Rattle.subtrees.specs.Descendant.{descendant}
use Rattle.std.proofs.lemmas.Bool.{cases_lt}
use Rattle.subtrees.proofs.Blocks.{after}
use Rattle.wire.specs.Tab.{tab}
use Rattle.subtrees.specs.Subtrees.{position_in, within, end_of, inside_of, positions, taken, filled, Known}

module _ (places : List Place) (n : ℕ) where
  pub positions-length : length (positions places n) ≡ n
  unfolding positions
  positions-length = tab-length (position_in_places places) 0 n

  place_at : (k : ℕ) → k < n → position_in (positions places n) k ≡ position_in_places places k
  unfolding position_in positions
  place_at k l = tab-at (position_in_places places) (record { outer = 0; inner = none; height = none }) 0 n k l ∙ rw zero-add

  -- the relation by what the array holds
  pub within-at : (i x : ℕ) (r : Bool) → i < n → x < n
      → r ≡ descendant (position_in_places places i) (position_in_places places x) → within (positions places n) i x ≡ r
  unfolding within
  within-at i x r l k e = rw (place_at i l, place_at x k) (sym e)

  -- a known end lies after its invocation, and is at most n
  pub known-end : (own ends inside : List ℕ) (at e : ℕ) → Known (positions places n) own ends inside at → at ≤ e → e < n
      → (e + 1 ≤ get_or ends e 0) × (get_or ends e 0 ≤ n)
  known-end own ends inside at e known p l =
      let ps = positions places n in
      let len : length ps ≡ n = positions-length in
      let w = after (length ps) (within ps) e (omega arith) in
      let k = known e p (omega arith) in
      (omega arith, omega arith)

-- what is stored at i is known from i on
pub known_more : (ps : List Position) (own ends inside : List ℕ) (i e b : ℕ) → i < length ends → i < length inside
    → e ≡ end_of ps i → b ≡ inside_of ps own i → Known ps own ends inside (i + 1) → Known ps own (set ends i e) (set inside i b) i
known_more ps own ends inside i e b p q x y known m im mn = go (eq-or-lt_of_le im)
  where
    go : (i ≡ m) ⊎ (i < m) → (get_or (set ends i e) m 0 ≡ end_of ps m) × (get_or (set inside i b) m 0 ≡ inside_of ps own m)
    go (inl z) = rw (← z) (get_or-set_same ends i e 0 p ∙ x, get_or-set_same inside i b 0 q ∙ y)
    go (inr l) =
        let k = known m (omega arith) mn in
        (get_or-set_other ends i m e 0 (omega arith) ∙ k.0, get_or-set_other inside i m b 0 (omega arith) ∙ k.1)

-- an array with f at its first n places and zeros after them
pub are-filled : (f : ℕ → ℕ) (n : ℕ) (a : List ℕ) → n ≤ 1024 → length a ≡ 1024
    → ((m : ℕ) → m < n → get_or a m 0 ≡ f m) → ((m : ℕ) → n ≤ m → get_or a m 0 ≡ 0) → a ≡ filled (tab f 0 n)
unfolding filled
are-filled f n a l e g h = ext_get_or 0 a (t ++ z) (rw (length-append, zl, tl) (omega arith)) (λ m w. at m (cases_lt m n))
  where
    t : List ℕ
    t = tab f 0 n

    z : List ℕ
    z = zeros (1024 - length t)

    tl : length t ≡ n
    tl = tab-length f 0 n

    zl : length z ≡ 1024 - length t
    zl = length-replicate (1024 - length t) 0

    at : (m : ℕ) → (m < n) ⊎ (n ≤ m) → get_or a m 0 ≡ get_or (t ++ z) m 0
    at m (inl w) = g m w ∙ sym (get_or-append t z 0 m (omega (arith, tl)) ∙ tab-at f 0 0 n m w ∙ rw zero-add)
    at m (inr w) =
        let s : m ≡ length t + (m - n) = omega (arith, tl) in
        h m w ∙ sym (ap (λ (k : ℕ). get_or (t ++ z) k 0) s ∙ get_or-append-add t z (m - n) 0 ∙ zeros-at (1024 - length t) (m - n))

-- what such an array holds
pub filled_at : (f : ℕ → ℕ) (n k : ℕ) → k < n → get_or (filled (tab f 0 n)) k 0 ≡ f k
unfolding filled
filled_at f n k l =
    get_or-append (tab f 0 n) (zeros (1024 - length (tab f 0 n))) 0 k (omega (arith, tab-length f 0 n)) ∙ tab-at f 0 0 n k l ∙ rw zero-add

-- up to 1,024 invocations all are taken
pub taken-all : (n : ℕ) → n ≤ 1024 → taken n ≡ n
unfolding taken
taken-all n l = rw (le-ltb 1024 n l)

-- how the code says it
pub taken_min : (n : ℕ) → min n 1024 ≡ taken n
unfolding taken
taken_min n = grind (arith, nat_tests)
