-- What `flatten` promises leaves one count and one content of its two arrays, since each part of the promise is an equation.
-- Assumes nothing.
use Prim.Native.Nat.{ℕ}
use mathlib.Core.Path.{◌≡◌, sym, ◌∙◌}
use mathlib.Core.List.{List}
use Rattle.pack.specs.declared.position.Place.{Place}
use Rattle.pack.specs.Layout.{Flattened}

pub flattened-once : (p : List ℕ) {r r' : ℕ} {at at' : List ℕ} {places places' : List Place}
    → Flattened p r at places → Flattened p r' at' places' → (r ≡ r') × (at ≡ at') × (places ≡ places')
flattened-once p x y = (x.count ∙ sym y.count, x.ats ∙ sym y.ats, x.runs ∙ sym y.runs)
