-- What the rows of a report can bear: each transfer fed takes less than 2 to the 64th of a sum, three times at most, or 1 of a count.
-- Assumes nothing.
use Rattle.std.proofs.Common.{◌≡◌, ℕ, suc, ◌+◌, ◌-◌, ◌*◌, ◌^◌, ◌<◌, ◌≤◌, Bool, true, false, List, [], ◌∷◌, length, refl, arith, leb-true}
use mathlib.Core.List.Memᴰ
use Rattle.month.specs.Transfers.{FedTransfer, Line, summed, own, source_line, destination_line, rest_of, Formed, AllFormed}
use Rattle.month.specs.Sums.{Within, nothing}
use Rattle.month.specs.Report.{Report, Sorted, fed_into}
use Rattle.month.specs.Adding.{add_row, add_rows, whole_part, source_part, destination_part, apart_part}
use Rattle.month.specs.Lookup.{empty_rows}
use Rattle.month.specs.Standing.{Bears}
use Rattle.month.proofs.Reports.{fed-sorted, fed-nothing}
use Rattle.month.proofs.Feeding.{fed-cons, fed-three, fed-one}
use Rattle.month.proofs.Totals.{summed-fee}
use Rattle.month.proofs.Bound.{widen, add-within}

-- numbers up to 2 to the 128th
sub-most : (b a c : ℕ) → a ≤ c → b - c ≤ b - a
sub-most b a c h = omega arith

sub-above : (b a : ℕ) → a < b → 0 < b - a
sub-above b a h = omega arith

add-above : (b c : ℕ) → 0 < b → 0 < b + c
add-above b c h = omega arith

lt-le : (a b c : ℕ) → a < b → b ≤ c → a < c
lt-le a b c h l = omega arith

sub-thrice : (b a k c : ℕ) → k + a < b → c + c + c ≤ k → b - (k + a) + c + c + c ≤ b - a
sub-thrice b a k c h l = omega arith

sub_once : (b a k : ℕ) → b - (k + a) + 0 ≤ b - a
sub_once b a k = omega arith

-- what so many transfers may add
part-fits : (n : ℕ) → n ≤ 4294967295 → n * (3 * 2 ^ 64) < 2 ^ 128
part-fits n h = lt-le (n * (3 * 2 ^ 64)) (2 ^ 98) (2 ^ 128) (omega arith) (leb-true (2 ^ 98) (2 ^ 128) refl)

part-less : (m n : ℕ) → m ≤ n → m * (3 * 2 ^ 64) ≤ n * (3 * 2 ^ 64)
part-less m n h = omega arith

part-next : (n : ℕ) → suc n * (3 * 2 ^ 64) ≡ 3 * 2 ^ 64 + n * (3 * 2 ^ 64)
part-next n = omega arith

part-above : (n : ℕ) → n ≤ 4294967295 → 0 < 2 ^ 128 - n * (3 * 2 ^ 64)
part-above n h = sub-above (2 ^ 128) (n * (3 * 2 ^ 64)) (part-fits n h)

thrice : (left : ℕ) → left < 4294967295
    → 2 ^ 128 - suc left * (3 * 2 ^ 64) + 18446744073709551615 + 18446744073709551615 + 18446744073709551615 ≤ 2 ^ 128 - left * (3 * 2 ^ 64)
thrice left h =
    rw (part-next left)
    (sub-thrice (2 ^ 128) (left * (3 * 2 ^ 64)) (3 * 2 ^ 64) 18446744073709551615 (rw (part-next left) at (part-fits (suc left) h)) (omega arith))

once : (left : ℕ) → 2 ^ 128 - suc left * (3 * 2 ^ 64) + 0 ≤ 2 ^ 128 - left * (3 * 2 ^ 64)
once left = rw (part-next left) (sub_once (2 ^ 128) (left * (3 * 2 ^ 64)) (3 * 2 ^ 64))

-- a row that bears some transfers bears fewer
pub bears-less : (m n : ℕ) (r : Report) → m ≤ n → Bears n r → Bears m r
bears-less m n r h w x i = widen (w x i) (sub-most (2 ^ 128) (m * (3 * 2 ^ 64)) (n * (3 * 2 ^ 64)) (part-less m n h)) (omega arith)

-- the parts of a transfer
whole-within : {t : FedTransfer} → Formed t → summed t ≡ true → Within (suc 18446744073709551615) 0 (whole_part t)
unfolding rest_of
whole-within {t} f e =
    record {
      debits_below = omega (arith, f.amount_bits);
      credits_below = omega (arith, f.amount_bits);
      fees_below = omega (arith, f.amount_bits, summed-fee t e);
      apart_most = omega arith;
    }

source-within : {t : FedTransfer} → Formed t → Within (suc 18446744073709551615) 0 (source_part t)
source-within {t} f = record { debits_below = omega (arith, f.amount_bits); credits_below = omega arith; fees_below = omega arith; apart_most = omega arith }

destination-within : {t : FedTransfer} → Formed t → summed t ≡ true → Within (suc 18446744073709551615) 0 (destination_part t)
unfolding rest_of
destination-within {t} f e =
    record {
      debits_below = omega arith;
      credits_below = omega (arith, f.amount_bits);
      fees_below = omega (arith, f.amount_bits, summed-fee t e);
      apart_most = omega arith;
    }

apart-within : Within (suc 0) 1 apart_part
apart-within = record { debits_below = omega arith; credits_below = omega arith; fees_below = omega arith; apart_most = omega arith }

-- one transfer fed: each row bears one less
pub bears-fed : {t : FedTransfer} {r : Report} (left : ℕ) → Formed t → Sorted r → left < 4294967295 → Bears (suc left) r → Bears left (fed_into r (t ∷ []))
bears-fed {t} {r} left f s h w = go (summed t) refl
  where
    go : (b : Bool) → summed t ≡ b → Bears left (fed_into r (t ∷ []))
    go true e x i =
        widen
        (add-within {c = 18446744073709551615} (destination_line t, destination_part t)
        (add-within {c = 18446744073709551615} (source_line t, source_part t)
        (add-within {c = 18446744073709551615} (own t, whole_part t) w (whole-within f e) (part-above (suc left) h))
        (source-within f)
        (add-above (2 ^ 128 - suc left * (3 * 2 ^ 64)) 18446744073709551615 (part-above (suc left) h)))
        (destination-within f e)
        (add-above (2 ^ 128 - suc left * (3 * 2 ^ 64) + 18446744073709551615) 18446744073709551615 (add-above (2 ^ 128 - suc left * (3 * 2 ^ 64)) 18446744073709551615 (part-above (suc left) h)))
        x
        (rw (fed-three t s e) at i))
        (thrice left h)
        (omega arith)
    go false e x i = widen (add-within {c = 0} (own t, apart_part) w apart-within (part-above (suc left) h) x (rw (fed-one t s e) at i)) (once left) (omega arith)

-- some transfers fed: each row bears so many less
pub bears-all : (ts : List FedTransfer) (r : Report) (left : ℕ) → AllFormed ts → Sorted r → left + length ts ≤ 4294967295 → Bears (left + length ts) r → Bears left (fed_into r ts)
bears-all [] r left f s h w = rw (fed-nothing s) (bears-less left (left + 0) r (omega arith) w)
bears-all (t ∷ ts) r left f s h w =
    rw (fed-cons r t ts)
    (bears-all ts (fed_into r (t ∷ [])) left (λ u i. f u (Memᴰ.tail i)) (fed-sorted r (t ∷ [])) (omega arith)
    (bears-fed (left + length ts) (f t (Memᴰ.head refl)) s (omega arith) (bears-less (suc (left + length ts)) (left + suc (length ts)) r (omega arith) w)))

sub-none : (n : ℕ) → n + 0 ≤ n
sub-none n = omega arith

none_within : Within (suc 0) 0 nothing
unfolding nothing
none_within = record { debits_below = omega arith; credits_below = omega arith; fees_below = omega arith; apart_most = omega arith }

-- rows without sums bear all
pub bears-empty : (ks : List Line) (r : Report) (left : ℕ) → left ≤ 4294967295 → Bears left r → Bears left (add_rows r (empty_rows ks))
unfolding add_rows
bears-empty [] r left h w = w
bears-empty (k ∷ ks) r left h w =
    bears-empty ks (add_row r (k, nothing)) left h
    (λ x i. widen (add-within {c = 0} (k, nothing) w none_within (part-above left h) x i) (sub-none (2 ^ 128 - left * (3 * 2 ^ 64))) (omega arith))
