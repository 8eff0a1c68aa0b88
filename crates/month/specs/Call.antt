-- What a call promises. Assumes nothing.
use Rattle.std.specs.Prelude.{◌≡◌, ℕ, List}
use Rattle.month.specs.Bytes.{feed}
use Rattle.month.specs.declared.MonthAnswer.{MonthAnswer}

-- the answer and the buffer left are those of `feed`; no refusal is about a place
pub record Feeds (b : List ℕ) (n m : ℕ) (t : List ℕ) (a : MonthAnswer) (b' : List ℕ) : Type 0 where
  pub number : a.number ≡ (feed b n m t).number
  pub place : a.place ≡ 0
  pub rows : a.rows ≡ (feed b n m t).rows
  pub fed : a.fed ≡ (feed b n m t).transfers
  pub left : b' ≡ (feed b n m t).buffer
