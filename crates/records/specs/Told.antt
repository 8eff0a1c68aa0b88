-- What is written of stored calls that are made again.
-- Assumes nothing.
use Rattle.std.specs.Prelude.{ℕ, ◌+◌, ◌≤◌, ◌<◌, List, [], ◌∷◌, ◌++◌, Option, codes, decimal}
use Rattle.std.specs.Io.KnownBytes.{Appends}

-- the last line, without its end: how many answers there were and how many differ
abbrev pub totals : ℕ → ℕ → List ℕ
totals answers different = decimal answers ++ (codes " answers, " ++ (decimal different ++ codes " different"))

-- the line of record k, which differs in what the text says
abbrev pub line : ℕ → List ℕ → List ℕ
line k difference = codes "record " ++ (decimal k ++ (codes ": " ++ (difference ++ 10 ∷ [])))

-- the lines of so many records, of which so many differ: of the first ten of these it is told in what
pub data Told : ℕ → ℕ → List ℕ → Type 0 where
  none : Told 0 0 []
  same : {answers different : ℕ} {text : List ℕ} → Told answers different text → Told (answers + 1) different text
  told : {answers different : ℕ} {text : List ℕ} (difference : List ℕ) → different < 10 → Told answers different text
      → Told (answers + 1) (different + 1) (text ++ line answers difference)
  counted : {answers different : ℕ} {text : List ℕ} → 10 ≤ different → Told answers different text → Told (answers + 1) (different + 1) text

-- the line of record k is written, whatever the text
pub record TellsOf (old new : Option (List ℕ)) (k : ℕ) : Type 0 where
  pub difference : List ℕ
  pub written : Appends old new (line k difference)

-- so much is written that the lines of the one records become those of the others
pub record Goes (old new : Option (List ℕ)) (answers different answers' different' : ℕ) : Type 0 where
  pub more : List ℕ
  pub written : Appends old new more
  pub tells : (text : List ℕ) → Told answers different text → Told answers' different' (text ++ more)

-- the lines of some records are written, and the last line
pub record TellsAll (old new : Option (List ℕ)) : Type 0 where
  pub answers : ℕ
  pub different : ℕ
  pub lines : List ℕ
  pub told : Told answers different lines
  pub written : Appends old new (lines ++ (totals answers different ++ 10 ∷ []))
