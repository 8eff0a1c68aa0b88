-- What the public call promises, in the words of the demands: one result, and refusals that leave nothing and count nothing. The first holds because the
-- contract is equations, the rest because every way in which a call is refused is `refused`.
-- Assumes nothing.
use mathlib.Core.Path.{◌≡◌, refl, sym, ap, ◌∙◌}
use mathlib.Core.Logic.{◌≢◌}
use mathlib.Core.List.{List}
use Prim.Native.Nat.{ℕ}
use Rattle.route.specs.declared.Answer.{Answer}
use Rattle.route.specs.Route.{Lent, Routed, refused, accepted, route, Leaves}
use Rattle.route.specs.Laid.{AllZero}
use Rattle.route.specs.Fit.{refusal}
use Rattle.route.proofs.Ways.{Ways, early, crowded, later, good, ways}

-- for every input one answer, and one content of each table
module _ {names p t0 t1 t2 t3 t4 : List ℕ} {r r' : Answer} {o0 o1 o2 o3 o4 o0' o1' o2' o3' o4' : List ℕ} (x : Leaves names p t0 t1 t2 t3 t4 r o0 o1 o2 o3 o4) (y : Leaves names p t0 t1 t2 t3 t4 r' o0' o1' o2' o3' o4') where
  pub unique : (r ≡ r') × (o0 ≡ o0') × (o1 ≡ o1') × (o2 ≡ o2') × (o3 ≡ o3') × (o4 ≡ o4')
  unique = (
    x.answer ∙ sym y.answer,
    x.mints ∙ sym y.mints,
    x.invocations ∙ sym y.invocations,
    x.transfers ∙ sym y.transfers,
    x.legs ∙ sym y.legs,
    x.natives ∙ sym y.natives,
  )

module _ (names p : List ℕ) (l : Lent) where
  refused-by : {r : Routed} → Ways names p l r → r.answer.number ≢ 0 → r ≡ refused r.answer.number r.answer.place l
  unfolding refused accepted
  refused-by (early n k i) z = refl
  refused-by (crowded x q h) z = refl
  refused-by (later x k q h f) z = refl
  refused-by (good x q s f) z = absurd (z refl)

  -- every refusal leaves all five tables zero throughout
  pub blank : (route names p l).answer.number ≢ 0 → AllZero l (route names p l)
  unfolding refused
  blank z =
      let e = refused-by (ways names p l) z in
      record {
        mints = ap (λ (r : Routed). r.mints) e;
        invocations = ap (λ (r : Routed). r.invocations) e;
        transfers = ap (λ (r : Routed). r.transfers) e;
        legs = ap (λ (r : Routed). r.legs) e;
        natives = ap (λ (r : Routed). r.natives) e;
      }

  -- its answer is its number and its place, and all counts are 0
  pub no-counts : (route names p l).answer.number ≢ 0
      → (route names p l).answer ≡ refusal (route names p l).answer.number (route names p l).answer.place
  unfolding refused
  no-counts z = ap (λ (r : Routed). r.answer) (refused-by (ways names p l) z)
