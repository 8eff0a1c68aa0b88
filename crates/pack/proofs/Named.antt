-- In a pack that no refusal meets every balance row names a key, so nothing has to stand in for one.
-- Assumes nothing.
use mathlib.Core.Path.{◌≡◌, sym, subst}
use mathlib.Core.List.{List, [], ◌∷◌, Memᴰ}
use Prim.Native.Nat.{ℕ, zero, suc, ◌<◌}
use native.Mathlib.Omega.{arith}
use borrow.Author.Tests.{ltb-true, lt-ltb}
use lib.Dec.{ltb}
use lib.ListN.{length, get_or}
use Rattle.wire.proofs.Below.{below_at}
use Rattle.ids.specs.Keys.{Key, key_count, key_at}
use Rattle.pack.specs.Sections.{section_of}
use Rattle.pack.specs.View.{balances_named, view_of}
use Rattle.pack.specs.Verdict.{refusal_number, verdict}
use Rattle.pack.proofs.Sizes.{keys_length}
use Rattle.pack.proofs.Good.{passed}

-- what holds at every place of a list holds of its members
at_places : {A : Type 0} (P : A → Type 0) (d : A) (l : List A) → ((i : ℕ) → i < length l → P (get_or l i d)) → {x : A} → Memᴰ x l → P x
at_places P d [] h m = elim m [ ]
at_places P d (y ∷ l) h (Memᴰ.head e) = subst P (sym e) (h zero (omega arith))
at_places P d (y ∷ l) h (Memᴰ.tail m) = at_places P d l (λ i k. h (suc i) (omega arith)) m

module _ (p : List ℕ) (e : refusal_number (verdict p) ≡ 0) where
  -- the account index of a balance row is below the number of keys
  pub named : {b : ℕ × Key} → Memᴰ b (view_of p).balances → b.0 < length (view_of p).keys
  unfolding balances_named
  named m =
      let bs = (view_of p).balances in
      let keys = length (view_of p).keys in
      at_places (λ (b : ℕ × Key). b.0 < keys) (0, []) bs
      (λ i h. ltb-true _ _ (below_at (λ i. ltb (get_or bs i (0, [])).0 keys) (length bs) (passed p e).named i h)) m

  -- so its key is the same, whatever is taken for one that is missing
  pub named-key : {b : ℕ × Key} → Memᴰ b (view_of p).balances → (z z' : Key) → key_at (section_of p 0) z b.0 ≡ key_at (section_of p 0) z' b.0
  named-key {b} m z z' = rw (lt-ltb b.0 (key_count (section_of p 0)) (omega (arith, named m, keys_length p)))
