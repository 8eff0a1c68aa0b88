-- What the numbers of the library, read from bytes and stored as bytes, are by `le` and `le_bytes`.
-- Assumes nothing.
use mathlib.Core.Path.{◌≡◌, refl, sym, ap, ap₂, ◌∙◌}
use mathlib.Core.List.{List, ◌∷◌}
use Prim.Native.Nat.{ℕ, zero, suc, ◌+◌, ◌/◌, ◌^◌, ◌≤◌, ◌<◌}
use native.Mathlib.Nat.{mul-le-mul_left, mod-eq_of_lt, div-one, div-div-eq-div-mul, pow-suc}
use native.Mathlib.Omega.{arith}
use lib.ListN.{length, get_or, take, drop, length-drop, get_or-eq_default}
use lib.Seq.{length-take-le}
use mathlib.Core.Logic.{by_cases}
use native.Mathlib.Decide.{dec_lt}
use Rattle.std.proofs.lemmas.Nat.{be_bytes_8}
use Rattle.std.proofs.lemmas.List.{get_or-take, get_or-drop}
use Rattle.std.specs.Int.{w64, byte_worth, bytes_low_first, from_be_bytes, to_be_bytes, sum_through}
use Rattle.wire.specs.Le.{le, le_bytes, swapped, Bytes}
use Rattle.wire.proofs.Laws.{le-back}
use Rattle.wire.proofs.Word.{swapped-eight}

-- n + 1 bytes, each by its weight
pub worth-le : (n : ℕ) (bs s : List ℕ) (at : ℕ) → ((k : ℕ) → k < suc n → get_or bs k 0 ≡ get_or s (at + k) 0) → sum_through (λ i. byte_worth i (get_or bs i 0)) n ≡ le (suc n) s at
unfolding le
worth-le zero bs s at h = rw (h 0 (omega arith)) (omega arith)
worth-le (suc n) bs s at h = rw (worth-le n bs s at (λ k l. h k (omega arith)), h (suc n) (omega arith))

-- n bytes of a number from byte i on
low-le : (i n x : ℕ) → bytes_low_first i n x ≡ le_bytes n (x / 256 ^ i)
unfolding le_bytes
low-le i zero x = refl
low-le zero (suc n) x = ap₂ ◌∷◌ (rw div-one) (rw (low-le 1 n x, div-one))
low-le (suc i) (suc n) x = ap₂ ◌∷◌ refl (rw (low-le (suc (suc i)) n x, div-div-eq-div-mul, ← pow-suc 256 (suc i)))

-- the n low bytes of a number
pub bytes-le : (n x : ℕ) → bytes_low_first 0 n x ≡ le_bytes n x
bytes-le n x = low-le 0 n x ∙ rw div-one

-- a part of a run has its bytes
pub part-at : (n : ℕ) (s : List ℕ) (at k : ℕ) → k < n → get_or (take n (drop at s)) k 0 ≡ get_or s (at + k) 0
part-at n s at k h = get_or-take n (drop at s) k 0 h ∙ get_or-drop at s k 0

-- n bytes are a number below 256 ^ n
pub le-lt : (n : ℕ) (s : List ℕ) (at : ℕ) → Bytes s at n → le n s at < 256 ^ n
unfolding le
le-lt zero s at h = omega arith
le-lt (suc n) s at h =
    let top : get_or s (at + n) 0 < 256 = h n (omega arith) in
    let low = le-lt n s at (λ k l. h k (omega arith)) in
    rw (pow-suc 256 n) (omega (arith, mul-le-mul_left (256 ^ n) top))

-- eight bytes with the first as the greatest are the number of these bytes swapped
pub high-le : (s : List ℕ) (at : ℕ) → Bytes s at 8 → at + 8 ≤ length s → from_be_bytes w64 (take 8 (drop at s)) ≡ swapped 8 (le 8 s at)
high-le s at b f =
    let x = le 8 s at in
    let low : x < 2 ^ 64 = le-lt 8 s at b in
    let top : x / 72057594037927936 < 256 = omega arith in
    ap (from_be_bytes w64) (sym (bytes-le 8 x ∙ le-back 8 s at b f)) ∙ rw (mod-eq_of_lt top) (swapped-eight x low)

-- runs of eight bytes that are one such number are the same
pub same-high : (a b : List ℕ) (i : ℕ) → ((k : ℕ) → get_or a k 0 < 256) → ((k : ℕ) → get_or b k 0 < 256) → i + 8 ≤ length a → i + 8 ≤ length b → from_be_bytes w64 (take 8 (drop i a)) ≡ from_be_bytes w64 (take 8 (drop i b)) → take 8 (drop i a) ≡ take 8 (drop i b)
same-high a b i h g la lb e = sym (back a h la) ∙ (ap (to_be_bytes w64) e ∙ back b g lb)
  where
    back : (s : List ℕ) → ((k : ℕ) → get_or s k 0 < 256) → i + 8 ≤ length s → to_be_bytes w64 (from_be_bytes w64 (take 8 (drop i s))) ≡ take 8 (drop i s)
    back s f l = be_bytes_8 (take 8 (drop i s)) _ (length-take-le 8 (drop i s) (rw length-drop (omega arith))) small refl
      where
        small : (k : ℕ) → get_or (take 8 (drop i s)) k 0 < 256
        small k = by_cases (dec_lt k 8)
            (λ m. rw (part-at 8 s i k m) (f (i + k)))
            (λ n. rw (get_or-eq_default (take 8 (drop i s)) 0 {n = k} (rw (length-take-le 8 (drop i s) (rw length-drop (omega arith))) (omega arith))) (omega arith))
