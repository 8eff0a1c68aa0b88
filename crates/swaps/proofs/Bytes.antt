-- A discriminator is compared as one number. That is the original's comparison of eight bytes with eight bytes, since no two runs of bytes are one number.
-- Assumes nothing.
use mathlib.Core.Path.{◌≡◌, refl, sym, ap, ◌∙◌}
use mathlib.Core.Bool.{Bool, true, false, ◌&&◌}
use mathlib.Core.List.{List, [], ◌∷◌}
use Prim.Native.Nat.{ℕ, zero, suc, ◌+◌, ◌≤◌, ◌<◌}
use native.Mathlib.Nat.{zero-add}
use native.Mathlib.Omega.{arith}
use borrow.Author.Tests.{leb-true, eq-eqb, ne_eqb}
use lib.Dec.{leb, eqb}
use lib.ListN.{length, get_or, take, drop, length-drop}
use lib.Seq.{get_or-take, get_or-drop, take_all, length-take-le}
use Rattle.wire.specs.Le.{le, le_bytes}
use Rattle.wire.specs.Same.{same}
use Rattle.wire.proofs.Same.{same_true, same_refl}
use Rattle.wire.proofs.Laws.{le-back}
use Rattle.swaps.specs.Discriminators.{eight}
use Rattle.swaps.specs.Data.{is, is_number, discriminator, when}
use Rattle.std.specs.Prelude.{Some}

-- every element is a byte
abbrev pub AllBytes : List ℕ → Type 0
AllBytes s = (i : ℕ) → get_or s i 0 < 256

-- the bytes of the number are the bytes that it was read from
back : (n : ℕ) (s : List ℕ) (at : ℕ) → AllBytes s → at + n ≤ length s → le_bytes n (le n s at) ≡ take n (drop at s)
back n s at h f = le-back n s at (λ k l. h (at + k)) f

-- bytes past the eighth do not count
within : (n m : ℕ) (s : List ℕ) → n ≤ m → le n (take m s) 0 ≡ le n s 0
unfolding le
within zero m s h = refl
within (suc n) m s h = rw (within n m s (omega arith), get_or-take m s (0 + n) 0 (omega arith))

same_number : (d x : List ℕ) → AllBytes d → AllBytes x → 8 ≤ length d → length x ≡ 8 → eqb (le 8 d 0) (le 8 x 0) ≡ same (take 8 d) x
same_number d x hd hx h e = go (same (take 8 d) x) refl
  where
    go : (t : Bool) → same (take 8 d) x ≡ t → eqb (le 8 d 0) (le 8 x 0) ≡ t
    go true f = eq-eqb (le 8 d 0) (le 8 x 0) (sym (within 8 8 d (omega arith)) ∙ ap (λ (l : List ℕ). le 8 l 0) (same_true (take 8 d) x f))
    go false f =
        ne_eqb (le 8 d 0) (le 8 x 0) (λ k.
        let eq : take 8 d ≡ x = sym (back 8 d 0 hd (omega arith)) ∙ (ap (le_bytes 8) k ∙ (back 8 x 0 hx (omega arith) ∙ take_all 8 x (omega arith))) in
        let y : same (take 8 d) x ≡ true = rw eq (same_refl x) in
        let z : ◌≡◌ {A = ℕ} 0 1 = cc in
        omega arith)

-- `disc == Some(&x[..])`
pub is-bytes : (d x : List ℕ) → AllBytes d → AllBytes x → length x ≡ 8 → is d (le 8 x 0) ≡ (leb 8 (length d) && same (take 8 d) x)
unfolding is discriminator
is-bytes d x hd hx e = go (leb 8 (length d)) refl
  where
    go : (t : Bool) → leb 8 (length d) ≡ t → is_number (when t (Some (le 8 d 0))) (le 8 x 0) ≡ (t && same (take 8 d) x)
    go true f = same_number d x hd hx (leb-true 8 (length d) f) e
    go false f = refl

-- the number of eight bytes that are written out
pub eight-bytes : (a b c d e f g h : ℕ) → le 8 (a ∷ b ∷ c ∷ d ∷ e ∷ f ∷ g ∷ h ∷ []) 0 ≡ eight a b c d e f g h
unfolding le
eight-bytes a b c d e f g h = omega arith

after : (n : ℕ) (s : List ℕ) (k : ℕ) → le n (drop k s) 0 ≡ le n s k
unfolding le
after zero s k = refl
after (suc n) s k = rw (after n s k, get_or-drop k s (0 + n) 0, zero-add n)

-- the same for a discriminator that stands in the names
pub lent-bytes : (names d : List ℕ) (k : ℕ) → AllBytes d → AllBytes (take 8 (drop k names)) → k + 8 ≤ length names
    → is d (le 8 names k) ≡ (leb 8 (length d) && same (take 8 d) (take 8 (drop k names)))
lent-bytes names d k hd hx h =
    ap (is d) (sym (within 8 8 (drop k names) (omega arith) ∙ after 8 names k))
    ∙ is-bytes d (take 8 (drop k names)) hd hx (length-take-le 8 (drop k names) (simp length-drop (omega arith)))
