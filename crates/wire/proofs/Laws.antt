-- Laws of `le` and `le_bytes`, over the width n: a number is its low bytes and its high bytes by their weight, so that one is read and stored by halves; what
-- was written is read back.
-- Assumes nothing.
use mathlib.Core.Path.{◌≡◌, refl, sym, ap, subst, ◌∙◌}
use mathlib.Core.List.{List, [], ◌∷◌, ◌++◌}
use Prim.Native.Nat.{ℕ, zero, suc, ◌+◌, ◌*◌, ◌/◌, ◌%◌, ◌^◌, ◌≤◌, ◌<◌}
use native.Mathlib.Nat.{add-zero, add-suc, add_assoc, zero-mul, add-mul, mul_assoc, mul_comm, pow-suc, pow-succ', zero-add, suc-add, div-one, div-div-eq-div-mul, mod-eq_of_lt, one-le-pow}
use native.Mathlib.Omega.{arith}
use lib.ListN.{length, get_or, take, drop, get_or-eq_default}
use lib.Seq.{drop-cons, get_or-append-add}
use lib.Pow.{pow-add}
use lib.Arith.{digits_div, digits_mod, mod-mul}
use Rattle.wire.specs.Le.{le, le_bytes, Bytes}

-- all of it past the end: 0
pub le-past : (n : ℕ) (s : List ℕ) (at : ℕ) → length s ≤ at → le n s at ≡ 0
unfolding le
le-past zero s at h = refl
le-past (suc n) s at h = rw (le-past n s at h, get_or-eq_default s 0 {n = at + n} (omega arith), zero-mul)

-- n + m bytes: the low n, and the m after them
pub le_split : (n m : ℕ) (s : List ℕ) (at : ℕ) → le (n + m) s at ≡ le n s at + le m s (at + n) * 256 ^ n
unfolding le
le_split n zero s at = simp (add-zero, zero-mul)
le_split n (suc m) s at =
    rw (add-suc, le_split n m s at) (simp (add-mul, pow-add, ← add_assoc, mul_assoc, mul_comm (256 ^ n) (256 ^ m)))

-- as many bytes as were asked for
pub le_bytes-length : (n x : ℕ) → length (le_bytes n x) ≡ n
unfolding le_bytes
le_bytes-length zero x = refl
le_bytes-length (suc n) x = ap suc (le_bytes-length n (x / 256))

-- n + m bytes: the low n, and the m after them
pub le_bytes-split : (n m x : ℕ) → le_bytes (n + m) x ≡ le_bytes n x ++ le_bytes m (x / 256 ^ n)
unfolding le_bytes
le_bytes-split zero m x = rw (zero-add, div-one)
le_bytes-split (suc n) m x = rw (suc-add, le_bytes-split n m (x / 256), div-div-eq-div-mul, ← pow-succ' 256 n)

-- only the low n bytes of x count
pub le_bytes-low : (n x : ℕ) → le_bytes n (x % 256 ^ n) ≡ le_bytes n x
unfolding le_bytes
le_bytes-low zero x = refl
le_bytes-low (suc n) x =
    let low : x % 256 < 256 = omega arith in
    rw (pow-suc, mod-mul x {m = 256 ^ n} {c = 256} (one-le-pow n 256 (omega arith)) (omega arith), digits_div (x / 256 % 256 ^ n) low, digits_mod (x / 256 % 256 ^ n) low, le_bytes-low n (x / 256))

-- n + 1 bytes: the first, and the n after it
le-first : (n : ℕ) (s : List ℕ) (at : ℕ) → le (suc n) s at ≡ get_or s at 0 + le n s (suc at) * 256
unfolding le
le-first zero s at = rw add-zero (omega arith)
le-first (suc n) s at = rw (le-first n s at, add-suc, suc-add, pow-succ' 256 n) (omega arith)

-- a byte below others: its value, and theirs
first_of : (b y : ℕ) → b < 256 → (b + y * 256) % 256 ≡ b
first_of b y h = omega arith

rest_of : (b y : ℕ) → b < 256 → (b + y * 256) / 256 ≡ y
rest_of b y h = omega arith

-- the bytes of the number are those that it was read from
pub le-back : (n : ℕ) (s : List ℕ) (at : ℕ) → Bytes s at n → at + n ≤ length s → le_bytes n (le n s at) ≡ take n (drop at s)
unfolding le_bytes
le-back zero s at h f = refl
le-back (suc n) s at h f =
    let low : get_or s at 0 < 256 = subst (λ (k : ℕ). get_or s k 0 < 256) (add-zero at) (h 0 (omega arith)) in
    rw
    (le-first n s at, first_of (get_or s at 0) (le n s (suc at)) low, rest_of (get_or s at 0) (le n s (suc at)) low, le-back n s (suc at) (λ k l. rw (suc-add at k, ← (add-suc at k)) (h (suc k) (omega arith))) (omega arith), drop-cons s at 0 (omega arith))

-- bytes that are one number are the same bytes
pub le_same : (n : ℕ) (a b : List ℕ) (at : ℕ) → Bytes a at n → Bytes b at n → at + n ≤ length a → at + n ≤ length b → le n a at ≡ le n b at → take n (drop at a) ≡ take n (drop at b)
le_same n a b at h g la lb e = sym (le-back n a at h la) ∙ (ap (le_bytes n) e ∙ le-back n b at g lb)

-- bytes in front move the place
pub le-behind : (n : ℕ) (p s : List ℕ) (m at : ℕ) → length p ≡ m → le n (p ++ s) (m + at) ≡ le n s at
unfolding le
le-behind zero p s m at e = refl
le-behind (suc n) p s m at e =
    rw (le-behind n p s m at e, ← e, add_assoc (length p) at n, get_or-append-add p s (at + n) 0)

le-one : (x : ℕ) (s : List ℕ) → le 1 (x ∷ s) 0 ≡ x
unfolding le
le-one x s = omega arith

le-none : (x : ℕ) (s : List ℕ) → le 0 s 0 ≡ x % 256 ^ 0
unfolding le
le-none x s = omega arith

-- the number that n bytes were written of
le-front : (n x : ℕ) (s : List ℕ) → le n (le_bytes n x ++ s) 0 ≡ x % 256 ^ n
unfolding le_bytes
le-front zero x s = le-none x s
le-front (suc n) x s =
    let l = le_bytes n (x / 256) ++ s in
    let e : suc n ≡ 1 + n = omega arith in
    let q : x % 256 ^ suc n ≡ (x / 256 % 256 ^ n) * 256 + x % 256 = rw (pow-suc 256 n) (mod-mul x {m = 256 ^ n} {c = 256} (one-le-pow n 256 (omega arith)) (omega arith)) in
    ap (λ (k : ℕ). le k (x % 256 ∷ l) 0) e
    ∙ le_split 1 n (x % 256 ∷ l) 0
    ∙ rw (le-one (x % 256) l, le-behind n (x % 256 ∷ []) l 1 0 refl, le-front n (x / 256) s, q) (omega arith)

-- it is read back from where it was written
pub le-written : (n x : ℕ) (p s : List ℕ) (m : ℕ) → length p ≡ m → x < 256 ^ n → le n (p ++ (le_bytes n x ++ s)) m ≡ x
le-written n x p s m e h =
    ap (λ (k : ℕ). le n (p ++ (le_bytes n x ++ s)) k) (sym (add-zero m))
    ∙ le-behind n p (le_bytes n x ++ s) m 0 e
    ∙ le-front n x s
    ∙ mod-eq_of_lt h
