-- What is promised of the text that is printed.
-- Assumes nothing.
use Rattle.std.specs.Prelude.{ℕ, ◌≤◌, ◌≡◌, List, length}

-- the text, of at most so many bytes, is what is made
pub record PutsText (most : ℕ) (text made : List ℕ) : Type 0 where
  pub left : made ≡ text
  pub within : length made ≤ most
