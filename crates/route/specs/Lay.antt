-- Rows of a table: made item by item, placed one after the other.
-- Assumes nothing.
use Rattle.std.specs.Prelude.{ℕ, suc, ◌*◌, List, [], ◌∷◌, ◌++◌}
use Rattle.std.proofs.lemmas.List.Edits.{sets}
use Rattle.wire.specs.Zeros.{zeros}

-- the rows that f gives each item, the items numbered from i on
unfoldable pub rows_of : {A : Type 0} → (ℕ → A → List (List ℕ)) → ℕ → List A → List (List ℕ)
rows_of f i [] = []
rows_of f i (x ∷ l) = f i x ++ rows_of f (suc i) l

-- rows of w bytes in a table, one after the other from row k on
unfoldable pub placed : ℕ → ℕ → List (List ℕ) → List ℕ → List ℕ
placed w k [] t = t
placed w k (r ∷ rs) t = placed w (suc k) rs (sets t (k * w) r)

-- a table of n bytes with rows of w bytes: the rows, and zeros behind them
abbrev pub written : ℕ → List (List ℕ) → ℕ → List ℕ
written w rows n = placed w 0 rows (zeros n)
