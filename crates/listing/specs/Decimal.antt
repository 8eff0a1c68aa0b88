-- Numbers in decimal, as ASCII bytes.
-- Assumes nothing.
use Rattle.std.specs.Prelude.{ℕ, zero, suc, ◌+◌, ◌*◌, ◌-◌, ◌/◌, ◌%◌, ◌≤◌, cond, List, [], ◌∷◌, ◌++◌, ltb}

-- x in decimal, the most significant digit first, in at most so many digits
unfoldable pub decimal_in : ℕ → ℕ → List ℕ
decimal_in zero x = []
decimal_in (suc most) x = let front = decimal_in most (x / 10) in cond (ltb x 10) [] front ++ ((48 + x % 10) ∷ [])

-- x in decimal, which never takes more than x + 1 digits
unfoldable pub decimal : ℕ → List ℕ
decimal x = decimal_in (suc x) x

-- the number that digits are, read from the left behind those that are n
unfoldable pub value_from : ℕ → List ℕ → ℕ
value_from n [] = n
value_from n (d ∷ ds) = value_from (n * 10 + (d - 48)) ds

-- digits alone, from `0` to `9`
pub data Digits : List ℕ → Type 0 where
  none : Digits []
  more : {d : ℕ} {ds : List ℕ} → 48 ≤ d → d ≤ 57 → Digits ds → Digits (d ∷ ds)
