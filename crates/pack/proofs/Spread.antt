-- One outer instruction more: it, its groups, and the rest stand one behind the other, so what is written of the rest from here is what was left of all.
-- Assumes nothing.
use mathlib.Core.Path.{◌≡◌, sym, ◌∙◌}
use mathlib.Core.List.{List, [], ◌∷◌, ◌++◌, map}
use Prim.Native.Nat.{ℕ, suc, ◌+◌, ◌-◌, ◌≤◌, ◌<◌}
use native.Mathlib.Numerals.{add-one}
use lib.ListN.{length, set}
use lib.Seq.{sets}
use Rattle.pack.specs.Invocation.{Position}
use Rattle.pack.specs.Group.{Group}
use Rattle.pack.specs.Items.{item_end, outers_from}
use Rattle.pack.specs.Flatten.{inside, outermost, flatten_from}
use Rattle.pack.proofs.Stores.{sets-cons}
use Rattle.pack.proofs.Places.{outers-cons, outers-nil}
use Rattle.pack.proofs.Chains.{wrote-more}

-- the outer instructions from outer i on, which stands at `to` of their section; r reads each from its offset
abbrev pub rest_from : (ℕ → ℕ) → List ℕ → List (Group ℕ) → ℕ → ℕ → List (Position × ℕ)
rest_from r outs gs i to = flatten_from i (map r (outers_from outs (suc (length outs) - i) to)) gs

module _ (r : ℕ → ℕ) (outs : List ℕ) (gs : List (Group ℕ)) (i to : ℕ) (few : i ≤ length outs) where
  pub rest-cons : to < length outs → rest_from r outs gs i to ≡ (outermost i, r to) ∷ (inside i gs ++ rest_from r outs gs (i + 1) (item_end outs to))
  unfolding flatten_from
  rest-cons h = rw (outers-cons outs i to few h, add-one i)

  pub rest-nil : length outs ≤ to → rest_from r outs gs i to ≡ []
  unfolding flatten_from
  rest-nil h = rw (outers-nil outs i to few h)

-- an outer instruction is written at place n, and its groups behind it
pub wrote-outer : {A : Type 0} (f : Position × ℕ → A) (l l₁ : List A) (n m : ℕ) (v : A) (x : Position × ℕ) (ys zs ws : List (Position × ℕ)) → v ≡ f x
    → l₁ ≡ sets (set l n v) (n + 1) (map f ys) → m ≡ n + 1 + length ys → ws ≡ x ∷ (ys ++ zs) → sets l₁ m (map f zs) ≡ sets l n (map f ws)
wrote-outer f l l₁ n m v x ys zs ws e q c w =
    wrote-more f (set l n v) l₁ (n + 1) m ys zs q c ∙ rw (e, w) (sym (sets-cons l n (f x) (map f (ys ++ zs))))
