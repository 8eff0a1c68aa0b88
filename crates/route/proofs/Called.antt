-- From what `clear` and `fill` leave to what the public call promises of a refusal: whatever is refused is zero. (The check finds that a success is left as it was filled.)
-- Assumes nothing.
use mathlib.Core.Path.{◌≡◌, sym, ap, ◌∙◌}
use mathlib.Core.Logic.{◌≢◌}
use mathlib.Core.List.{List}
use Prim.Native.Nat.{ℕ}
use native.Mathlib.Omega.{arith}
use Rattle.std.specs.Prelude.{Err}
use Rattle.wire.specs.Zeros.{zeros}
use Rattle.route.specs.declared.Answer.{Answer}
use Rattle.route.specs.declared.refusal.Refusal.{Refusal}
use Rattle.route.specs.declared.refusal.Refusal.TheVariants.{Names, Pack, Passes, Room}
use Rattle.route.specs.Route.{lent, Routed, refused, route, Leaves}
use Rattle.route.specs.Filled.{Cleared, Filled}
use Rattle.route.specs.Fit.{number_of, answered}
use Rattle.route.proofs.Claims.{blank}
use Rattle.route.proofs.Finishing.{Kept}
use Rattle.route.proofs.Success.{numbered}

-- no refusal has number 0
given : (e : Refusal) → number_of e ≢ 0
given Names h = absurd (omega arith)
given (Pack r) h = numbered r h
given Passes h = absurd (omega arith)
given (Room k) h = absurd (omega arith)

-- the tables were cleared, c0 to c4
module _ (names p : List ℕ) {t0 t1 t2 t3 t4 c0 c1 c2 c3 c4 : List ℕ} (k : Kept c0 c1 c2 c3 c4 t0 t1 t2 t3 t4) where
  same : route names p (lent c0 c1 c2 c3 c4) ≡ route names p (lent t0 t1 t2 t3 t4)
  same = rw (k.mints, k.invocations, k.transfers, k.legs, k.natives)

  -- a refusal leaves nothing, once the tables are cleared again, w0 to w4
  pub refusal-cleared : {o0 o1 o2 o3 o4 w0 w1 w2 w3 w4 : List ℕ} {e : Refusal} → Filled names p c0 c1 c2 c3 c4 (Err e) o0 o1 o2 o3 o4
      → Cleared w0 w1 w2 w3 w4 → Kept w0 w1 w2 w3 w4 t0 t1 t2 t3 t4 → Leaves names p t0 t1 t2 t3 t4 (answered (Err e)) w0 w1 w2 w3 w4
  unfolding refused
  refusal-cleared {e = e} f z l =
      let answer-is = f.answer ∙ ap (λ (x : Routed). x.answer) same in
      let q = blank names p (lent t0 t1 t2 t3 t4) (λ h. given e (ap (λ (x : Answer). x.number) answer-is ∙ h)) in
      record {
        answer = answer-is;
        mints = z.mints ∙ ap zeros l.mints ∙ sym q.mints;
        invocations = z.invocations ∙ ap zeros l.invocations ∙ sym q.invocations;
        transfers = z.transfers ∙ ap zeros l.transfers ∙ sym q.transfers;
        legs = z.legs ∙ ap zeros l.legs ∙ sym q.legs;
        natives = z.natives ∙ ap zeros l.natives ∙ sym q.natives;
      }
