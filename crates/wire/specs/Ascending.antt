-- Lists ascending by a key, which is a run of bytes.
-- Assumes nothing.
use mathlib.Core.List.{List, [], ◌∷◌, Memᴰ}
use Rattle.std.specs.Prelude.{ℕ}
use Rattle.wire.specs.Order.{Below}

-- each element is below all that follow it, so no key stands twice
pub data Ascending {A : Type 0} (key : A → List ℕ) : List A → Type 0 where
  asc_nil : Ascending key []
  asc_cons : {r : A} {t : List A} → ((x : A) → Memᴰ x t → Below (key r) (key x)) → Ascending key t → Ascending key (r ∷ t)
