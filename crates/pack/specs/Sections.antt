-- The trailer of a pack, and the five sections that it points back to.
-- Assumes nothing.
use Rattle.std.specs.Prelude.{ℕ, ◌+◌, ◌-◌, ◌*◌, Bool, cond, ◌&&◌, List, [], ◌∷◌, leb, ltb, eqb, length, take, drop}
use Rattle.wire.specs.Le.{le}
use Rattle.wire.specs.Same.{same}
use Rattle.wire.specs.Below.{all_below}

-- `RTP1` in ASCII
unfoldable pub mark : List ℕ
mark = 82 ∷ 84 ∷ 80 ∷ 49 ∷ []

-- what refusal 2 asks: 24 to 61,440 bytes, the mark last
unfoldable pub marked : List ℕ → Bool
marked p = leb 24 (length p) && (leb (length p) 61440 && same (drop (length p - 4) p) mark)

-- where section k starts, by the trailer of the last 24 bytes; the trailer itself for k = 5
unfoldable pub start_of : List ℕ → ℕ → ℕ
start_of p k = cond (ltb k 5) (le 4 p (length p - 24 + k * 4)) (length p - 24)

-- what refusal 3 asks: the first start is 0, no start falls, and the last does not pass the trailer
unfoldable pub ordered : List ℕ → Bool
ordered p = eqb (start_of p 0) 0 && all_below (λ k. leb (start_of p k) (start_of p (k + 1))) 5

-- there is a section k, and it lies before the trailer
unfoldable pub has_section : List ℕ → ℕ → Bool
has_section p k = leb 24 (length p) && (ltb k 5 && (leb (start_of p k) (start_of p (k + 1)) && leb (start_of p (k + 1)) (length p - 24)))

-- section k: from its start to the next one, the last to the trailer; no bytes where there is none
unfoldable pub section_of : List ℕ → ℕ → List ℕ
section_of p k = cond (has_section p k) (take (start_of p (k + 1) - start_of p k) (drop (start_of p k) p)) []
