-- A number added to one of 128 bits kept as two of 64. Assumes nothing.
use Rattle.std.proofs.Common.{◌≡◌, ℕ, ◌+◌, ◌-◌, ◌*◌, ◌/◌, ◌%◌, ◌^◌, ◌<◌, ◌≤◌, Bool, true, false, cond, ltb, List, ◌++◌, sym, refl, ap, ◌∙◌, ap₂, lt_of_le_of_lt, lt_of_mul-lt-mul_right, arith, le-ltb, lt-ltb}
use mir.Val.{bool_byte}
use mathlib.Core.Logic.{by_cases}
use native.Mathlib.Decide.{dec_lt}
use Rattle.wire.specs.Le.{le, le_bytes}
use Rattle.wire.proofs.Laws.{le_split, le_bytes-split, le_bytes-low}
use Rattle.month.specs.Wide.{wide, low_after, carry}

mod-small : (n : ℕ) → n < 2 ^ 64 → n % 2 ^ 64 ≡ n
mod-small n h = omega arith

mod-once : (n : ℕ) → 2 ^ 64 ≤ n → n < 2 * 2 ^ 64 → n % 2 ^ 64 ≡ n - 2 ^ 64
mod-once n h k = omega arith

-- the test whether a sum came out smaller, as a number, is the carry
pub bool-carry : {sum first low : ℕ} (x : ℕ) → sum ≡ low_after low x → first ≡ low → bool_byte (ltb sum first) ≡ carry low x
bool-carry {sum} {first} x e f = rw (← e, ← f) (go (ltb sum first))
  where
    go : (b : Bool) → bool_byte b ≡ cond b 1 0
    go true = refl
    go false = refl

-- the carry tells which of the two it was
pub carry-right : (low x : ℕ) → low < 2 ^ 64 → x < 2 ^ 64 → low_after low x + carry low x * 2 ^ 64 ≡ low + x
carry-right low x h k = by_cases (dec_lt (low + x) (2 ^ 64)) small large
  where
    small : low + x < 2 ^ 64 → low_after low x + carry low x * 2 ^ 64 ≡ low + x
    small s = rw (mod-small (low + x) s, le-ltb (low + x) low (omega arith)) (omega arith)

    large : ¬ (low + x < 2 ^ 64) → low_after low x + carry low x * 2 ^ 64 ≡ low + x
    large s = rw (mod-once (low + x) (omega arith) (omega arith), lt-ltb (low + x - 2 ^ 64) low (omega arith)) (omega arith)

-- x added to a number of 128 bits: the low half wraps, the high half takes the carry
pub wide-add : (low high x : ℕ) → low < 2 ^ 64 → x < 2 ^ 64 → wide (low_after low x) (high + carry low x) ≡ wide low high + x
wide-add low high x h k = omega (arith, carry-right low x h k)

-- the halves fit as long as the sum does
pub low_fits : (low x : ℕ) → low_after low x < 2 ^ 64
low_fits low x = omega arith

pub high_fits : (low high x : ℕ) → low < 2 ^ 64 → x < 2 ^ 64 → wide low high + x < 2 ^ 128 → high + carry low x < 2 ^ 64
high_fits low high x h k s = lt_of_mul-lt-mul_right (2 ^ 64) (lt_of_le_of_lt (omega (arith, carry-right low x h k)) s)

-- 16 bytes are two numbers of 8
pub wide_read : (s : List ℕ) (at : ℕ) → le 16 s at ≡ wide (le 8 s at) (le 8 s (at + 8))
wide_read s at = le_split 8 8 s at

pub wide-written : (low high : ℕ) → low < 2 ^ 64 → le_bytes 16 (wide low high) ≡ le_bytes 8 low ++ le_bytes 8 high
wide-written low high h =
    let q : wide low high / 256 ^ 8 ≡ high = omega arith in
    let m : wide low high % 256 ^ 8 ≡ low = omega arith in
    le_bytes-split 8 8 (wide low high)
    ∙ ap₂ ◌++◌ (sym (le_bytes-low 8 (wide low high)) ∙ ap (le_bytes 8) m) (ap (le_bytes 8) q)

-- below 2 to the 96th: by the high half alone
pub wide-small : (low high : ℕ) → low < 2 ^ 64 → ltb (wide low high) (2 ^ 96) ≡ ltb high (2 ^ 32)
wide-small low high h = by_cases (dec_lt high (2 ^ 32)) small large
  where
    small : high < 2 ^ 32 → ltb (wide low high) (2 ^ 96) ≡ ltb high (2 ^ 32)
    small k = rw (lt-ltb high (2 ^ 32) k) (lt-ltb (wide low high) (2 ^ 96) (omega arith))

    large : ¬ (high < 2 ^ 32) → ltb (wide low high) (2 ^ 96) ≡ ltb high (2 ^ 32)
    large k = rw (le-ltb high (2 ^ 32) (omega arith)) (le-ltb (wide low high) (2 ^ 96) (omega arith))
