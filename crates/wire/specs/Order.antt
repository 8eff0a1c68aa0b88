-- The order of runs of bytes: keys, and the beginnings of rows.
-- Assumes nothing.
use Rattle.std.specs.Prelude.{◌≡◌, Bool, true, false, ◌&&◌, ◌||◌, List, [], ◌∷◌, ℕ, ◌<◌, eqb, ltb}

-- the first byte that differs decides, and a shorter run stands before its continuations
pub data Below : List ℕ → List ℕ → Type 0 where
  shorter : {y : ℕ} {b : List ℕ} → Below [] (y ∷ b)
  here : {x y : ℕ} {a b : List ℕ} → x < y → Below (x ∷ a) (y ∷ b)
  next : {x y : ℕ} {a b : List ℕ} → x ≡ y → Below a b → Below (x ∷ a) (y ∷ b)

-- whether a run stands below another
unfoldable pub lt_key : List ℕ → List ℕ → Bool
lt_key [] [] = false
lt_key [] (y ∷ b) = true
lt_key (x ∷ a) [] = false
lt_key (x ∷ a) (y ∷ b) = ltb x y || eqb x y && lt_key a b
