-- Runs that begin with n bytes each: as numbers whose first byte is the greatest they stand to each other as the runs do, since the bytes behind a byte
-- never weigh as much as one of it.
-- Assumes nothing.
use mathlib.Core.Path.{◌≡◌, sym, ap₂, ◌∙◌}
use mathlib.Core.Logic.{◌≢◌, by_cases}
use mathlib.Core.List.{List, ◌++◌}
use Prim.Native.Nat.{ℕ, zero, suc, ◌+◌, ◌*◌, ◌/◌, ◌%◌, ◌^◌, ◌≤◌, ◌<◌}
use native.Mathlib.Nat.{le_of_lt, pow-suc, pow-succ', div-div-eq-div-mul, add_assoc, add-zero, mod-eq_of_lt, pow-zero, mul-one}
use native.Mathlib.Decide.{ℕ_discrete, dec_lt}
use native.Mathlib.Omega.{arith}
use lib.Arith.{digits_lt}
use lib.Dec.{ltb}
use lib.ListN.{length, drop, take-append-drop}
use borrow.Author.Tests.{eq-eqb, ne_eqb, lt-ltb, le-ltb}
use Rattle.wire.proofs.Laws.{le-back}
use Rattle.wire.specs.Le.{le, le_bytes, swapped, Bytes}
use Rattle.wire.specs.Order.{lt_key}

-- n bytes are a number below 256 ^ n
pub swapped-lt : (n x : ℕ) → swapped n x < 256 ^ n
unfolding swapped
swapped-lt zero x = omega arith
swapped-lt (suc n) x = let low : x % 256 < 256 = omega arith in rw (pow-succ' 256 n) (digits_lt low (swapped-lt n (x / 256)))

-- a greater first byte makes the greater number
first-lt : (P p q u v : ℕ) → p < q → u < P → p * P + u < q * P + v
first-lt P p q u v h k = let d = digits_lt h k in omega arith

-- what both begin with
ltb-behind : (k u v : ℕ) → ltb (k + u) (k + v) ≡ ltb u v
ltb-behind k u v = by_cases (dec_lt u v) (λ l. rw (lt-ltb _ _ l, lt-ltb (k + u) (k + v) (omega arith))) (λ n. rw (le-ltb u v (omega arith), le-ltb (k + u) (k + v) (omega arith)))

-- numbers of n bytes that differ, each with what follows it
lt_key-swapped : (n x y : ℕ) (p q : List ℕ) → x < 256 ^ n → y < 256 ^ n → x ≢ y → lt_key (le_bytes n x ++ p) (le_bytes n y ++ q) ≡ ltb (swapped n x) (swapped n y)
unfolding swapped le_bytes lt_key
lt_key-swapped zero x y p q hx hy d = absurd (d (omega arith))
lt_key-swapped (suc n) x y p q hx hy d =
    let P : 256 ^ suc n ≡ 256 ^ n * 256 = pow-suc 256 n in
    let u = swapped-lt n (x / 256) in
    let v = swapped-lt n (y / 256) in
    by_cases (dec_lt (x % 256) (y % 256))
    (λ l. rw (lt-ltb _ _ l, lt-ltb _ _ (first-lt (256 ^ n) _ _ _ (swapped n (y / 256)) l u)))
    (λ nl. by_cases (ℕ_discrete (x % 256) (y % 256))
    (λ e. rw (le-ltb (x % 256) (y % 256) (omega arith), eq-eqb _ _ e, lt_key-swapped n (x / 256) (y / 256) p q (omega arith) (omega arith) (λ f. d (omega arith)), e) (sym (ltb-behind (y % 256 * 256 ^ n) (swapped n (x / 256)) (swapped n (y / 256)))))
    (λ ne. rw (le-ltb (x % 256) (y % 256) (omega arith), ne_eqb _ _ ne) (sym (le-ltb _ _ (le_of_lt (first-lt (256 ^ n) _ _ _ (swapped n (x / 256)) (omega arith) v))))))

-- the first n bytes of two runs decide, where they differ
pub less-word : (n : ℕ) (a b : List ℕ) (i : ℕ) → Bytes a i n → Bytes b i n → i + n ≤ length a → i + n ≤ length b → le n a i < 256 ^ n → le n b i < 256 ^ n → le n a i ≢ le n b i
    → lt_key (drop i a) (drop i b) ≡ ltb (swapped n (le n a i)) (swapped n (le n b i))
less-word n a b i h g la lb x y d =
    let p : drop i a ≡ le_bytes n (le n a i) ++ drop n (drop i a) = rw (le-back n a i h la) (sym (take-append-drop n (drop i a))) in
    let q : drop i b ≡ le_bytes n (le n b i) ++ drop n (drop i b) = rw (le-back n b i g lb) (sym (take-append-drop n (drop i b))) in
    ap₂ lt_key p q ∙ lt_key-swapped n (le n a i) (le n b i) (drop n (drop i a)) (drop n (drop i b)) x y d

-- eight bytes one by one
pub swapped-eight : (x : ℕ) → x < 2 ^ 64
    → x % 256 * 72057594037927936 + x / 256 % 256 * 281474976710656 + x / 65536 % 256 * 1099511627776 + x / 16777216 % 256 * 4294967296 + x / 4294967296 % 256 * 16777216 + x / 1099511627776 % 256 * 65536 + x / 281474976710656 % 256 * 256 + x / 72057594037927936 ≡ swapped 8 x
unfolding swapped
swapped-eight x h =
    let top : x / 72057594037927936 < 256 = omega arith in
    simp (div-div-eq-div-mul, add_assoc, add-zero, mod-eq_of_lt top, pow-zero, mul-one)
