-- Which of five tables is too small is asked once, of the counts alone: table 0, a later one, or none. What the code answers and what the definition leaves
-- both go by it, so they agree.
-- Assumes nothing.
use mathlib.Core.Path.{◌≡◌, refl}
use mathlib.Core.Bool.{Bool, true, false, cond, false≢true}
use mathlib.Core.Option.{Option, none, some}
use Prim.Native.Nat.{ℕ, ◌/◌, ◌≤◌, ◌<◌}
use native.Mathlib.Omega.{arith}
use borrow.Author.Tests.{ltb-true, ltb-false}
use lib.Dec.{ltb}
use Rattle.route.specs.Widths.{mint_width, invocation_width, transfer_width, leg_width, action_width}
use Rattle.route.specs.declared.Answer.{Answer}
use Rattle.route.specs.Tables.{Tables}
use Rattle.route.specs.Route.{Lent, refused, accepted, too_small, by_room, fitted}
use Rattle.std.specs.Prelude.{Result, Ok, Err, IsOk}
use Rattle.route.specs.declared.refusal.Refusal.{Refusal}
use Rattle.route.specs.declared.refusal.Refusal.TheVariants.{Room as Short}
use Rattle.route.specs.Fit.{answered, fits}

-- every table has room for its rows, and table 0 for ambiguous accounts too
pub record Roomy (l : Lent) (room : ℕ) (a : Answer) : Type 0 where
  pub mints : room ≤ l.mints / mint_width
  pub invocations : a.invocations ≤ l.invocations / invocation_width
  pub transfers : a.transfers ≤ l.transfers / transfer_width
  pub legs : a.legs ≤ l.legs / leg_width
  pub natives : a.natives ≤ l.natives / action_width

-- what it means that this table is too small, or none
pub data Room (l : Lent) (room : ℕ) (a : Answer) : Option ℕ → Type 0 where
  first : l.mints / mint_width < room → Room l room a (some 0)
  behind : (k : ℕ) → 0 < k → room ≤ l.mints / mint_width → Room l room a (some k)
  enough : Roomy l room a → Room l room a none

pub measured : (l : Lent) (room : ℕ) (a : Answer) → Room l room a (too_small l room a)
measured l room a =
    go
    (ltb (l.mints / mint_width) room)
    (ltb (l.invocations / invocation_width) a.invocations)
    (ltb (l.transfers / transfer_width) a.transfers)
    (ltb (l.legs / leg_width) a.legs)
    (ltb (l.natives / action_width) a.natives)
    refl
    refl
    refl
    refl
    refl
  where
    go : (b0 b1 b2 b3 b4 : Bool)
        → ltb (l.mints / mint_width) room ≡ b0
        → ltb (l.invocations / invocation_width) a.invocations ≡ b1
        → ltb (l.transfers / transfer_width) a.transfers ≡ b2
        → ltb (l.legs / leg_width) a.legs ≡ b3
        → ltb (l.natives / action_width) a.natives ≡ b4
        → Room l room a (cond b0 (some 0) (cond b1 (some 1) (cond b2 (some 2) (cond b3 (some 3) (cond b4 (some 4) none)))))
    go true b1 b2 b3 b4 e0 e1 e2 e3 e4 = first (ltb-true (l.mints / mint_width) room e0)
    go false true b2 b3 b4 e0 e1 e2 e3 e4 = behind 1 (omega arith) (ltb-false (l.mints / mint_width) room e0)
    go false false true b3 b4 e0 e1 e2 e3 e4 = behind 2 (omega arith) (ltb-false (l.mints / mint_width) room e0)
    go false false false true b4 e0 e1 e2 e3 e4 = behind 3 (omega arith) (ltb-false (l.mints / mint_width) room e0)
    go false false false false true e0 e1 e2 e3 e4 = behind 4 (omega arith) (ltb-false (l.mints / mint_width) room e0)
    go false false false false false e0 e1 e2 e3 e4 =
        enough (record {
          mints = ltb-false (l.mints / mint_width) room e0;
          invocations = ltb-false (l.invocations / invocation_width) a.invocations e1;
          transfers = ltb-false (l.transfers / transfer_width) a.transfers e2;
          legs = ltb-false (l.legs / leg_width) a.legs e3;
          natives = ltb-false (l.natives / action_width) a.natives e4;
        })

module _ (t : Tables) (l : Lent) where
  -- the answer of the definition is that of the code
  pub fit-answer : (fitted t l).answer ≡ answered (fits l t.room (accepted t l).answer)
  unfolding fitted fits refused
  fit-answer = go (too_small l t.room (accepted t l).answer)
    where
      go : (o : Option ℕ) → (by_room (accepted t l) (λ k. refused 8 k l) o).answer ≡ answered (by_room (Ok (accepted t l).answer) (λ k. Err (Short k)) o)
      go none = refl
      go (some k) = refl

  -- and what is no refusal is the success
  pub fit-accepted : IsOk (fits l t.room (accepted t l).answer) → fitted t l ≡ accepted t l
  unfolding fitted fits
  fit-accepted = go (too_small l t.room (accepted t l).answer)
    where
      go : (o : Option ℕ) → IsOk (by_room {A = Result Answer Refusal} (Ok (accepted t l).answer) (λ k. Err (Short k)) o)
          → by_room (accepted t l) (λ k. refused 8 k l) o ≡ accepted t l
      go none e = refl
      go (some k) e = absurd (false≢true e)
