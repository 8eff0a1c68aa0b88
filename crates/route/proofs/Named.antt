-- Every balance row of a pack that is taken names a key: what the rows say of mints is the same, whatever is put for a key that is missing.
-- Assumes nothing.
use mathlib.Core.Path.{◌≡◌, refl}
use mathlib.Core.Bool.{Bool, true, false}
use mathlib.Core.List.{List, [], ◌∷◌, ◌++◌, Memᴰ}
use Prim.Native.Nat.{ℕ, ◌<◌}
use lib.Dec.{eqb}
use lib.ListN.{length}
use borrow.Author.Tests.{eqb-true, eqb-false}
use Rattle.ids.specs.Keys.{Key, zero_key, key_at, key_of}
use Rattle.ids.specs.Which.{program_at}
use Rattle.pack.specs.Sections.{section_of}
use Rattle.pack.specs.View.{view_of}
use Rattle.pack.specs.Verdict.{verdict, refusal_number}
use Rattle.pack.proofs.Named.{named, named-key}
use Rattle.evidence.specs.Table.{Row}
use Rattle.evidence.specs.Gather.{gather}
use Rattle.mints.specs.Inference.{balance_says, says, evidence_of}
use Rattle.route.specs.Route.{Lent, refused, judged, route}
use Rattle.route.specs.Order.{instructions_in, evidence_in, InputTaken}
use Rattle.route.proofs.Ways.{of-names, of-pack}

-- what each item gives is gathered
gather-alike : {A : Type 0} (f g : A → List Row) (l : List A) → ((y : A) → Memᴰ y l → f y ≡ g y) → gather f l ≡ gather g l
unfolding gather
gather-alike f g [] h = refl
gather-alike f g (y ∷ l) h = rw (h y (Memᴰ.head refl), gather-alike f g l (λ z m. h z (Memᴰ.tail m)))

module _ (names p : List ℕ) (l : Lent) (t : InputTaken (route names p l).answer) where
  -- no refusal of the pack is met
  pub no-refusal : refusal_number (verdict p) ≡ 0
  unfolding route judged refused
  no-refusal = go (eqb (refusal_number (verdict p)) 0) refl (eqb (length names) 88) refl
    where
      go : (b : Bool) → eqb (refusal_number (verdict p)) 0 ≡ b → (a : Bool) → eqb (length names) 88 ≡ a → refusal_number (verdict p) ≡ 0
      go true e a q = eqb-true (refusal_number (verdict p)) 0 e
      go false e true q =
          let i = of-pack (verdict p) (eqb-false (refusal_number (verdict p)) 0 e) in
          absurd (t (refusal_number (verdict p)) i.listed i.no_eight (rw (q, e)))
      go false e false q = absurd (t 1 of-names.listed of-names.no_eight (rw q))

  -- the account index of every balance row is that of a key
  pub balance-named : {b : ℕ × Key} → Memᴰ b (view_of p).balances → b.0 < length (view_of p).keys
  balance-named m = named p no-refusal m

  -- so no balance row needs the zero key that stands for a missing one: any other key could
  pub evidence-named : (z : Key)
      → evidence_in p
      ≡ gather (balance_says (key_at (section_of p 0) z)) (view_of p).balances ++ gather (says (key_of (section_of p 0)) (program_at (section_of p 0))) (instructions_in p)
  unfolding evidence_of balance_says
  evidence-named z = rw (gather-alike (balance_says (key_of (section_of p 0))) (balance_says (key_at (section_of p 0) z)) (view_of p).balances (λ b m. rw (named-key p no-refusal m zero_key z)))
