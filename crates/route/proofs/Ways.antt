-- A call ends in one of four ways, told apart by names, verdict, mint table and room. What is promised of every call is shown way by way.
-- Assumes nothing.
use mathlib.Core.Path.{◌≡◌, refl, sym, subst}
use mathlib.Core.Bool.{Bool, true, false, cond}
use mathlib.Core.Logic.{◌≢◌}
use mathlib.Core.List.{List, Memᴰ}
use mathlib.Core.Option.{Option, some}
use Prim.Native.Nat.{ℕ, ◌/◌, ◌≤◌, ◌<◌}
use native.Mathlib.Omega.{arith}
use lib.Dec.{eqb}
use lib.ListN.{length}
use borrow.Author.Tests.{eqb-true, eqb-false}
use Rattle.pack.specs.Sections.{section_of}
use Rattle.pack.specs.View.{view_of}
use Rattle.pack.specs.Flatten.{flatten}
use Rattle.pack.specs.Verdict.{Verdict, verdict, refusal_number, place_of}
use Rattle.pack.specs.declared.Refusal.TheVariants.{Mark, Starts, Section, Keys, Balances, Invocations}
use Rattle.std.specs.Prelude.{Ok, Err}
use Rattle.evidence.specs.MintTable.{MintAnswer}
use Rattle.mints.proofs.Sorting.{get_or-mem}
use Rattle.route.specs.Widths.{mint_width}
use Rattle.route.specs.Tables.{Tables, positions_of, instructions_of, tables_with, tables_if, tables}
use Rattle.route.specs.Route.{Lent, Routed, refused, accepted, by_room, fitted, passed, tables_in, judged, route}
use Rattle.route.specs.Refusals.{refusal_table, refusal_numbers}
use Rattle.route.specs.Order.{mints_in}
use Rattle.route.proofs.Fitting.{Roomy, Room, first, behind, enough, measured}
use Rattle.route.proofs.OrderMints.{answered}

-- the tables of a pack that go with a mint table
abbrev pub tables_by : List ℕ → List ℕ → MintAnswer → Tables
tables_by names p x = tables_with names (section_of p 0) (view_of p).pools (positions_of (flatten (view_of p))) (instructions_of (flatten (view_of p))) x

-- the number of a refusal that names or pack meet
pub record OfInput (n : ℕ) : Type 0 where
  pub listed : Memᴰ n refusal_numbers
  pub no_seven : n ≢ 7
  pub no_eight : n ≢ 8

-- refused for names or pack; or, with the mint table x, for want of room in table 0 or in a later table; or accepted
pub data Ways (names p : List ℕ) (l : Lent) : Routed → Type 0 where
  early : (n k : ℕ) → OfInput n → Ways names p l (refused n k l)
  crowded : (x : MintAnswer) → mints_in p ≡ some x → l.mints / mint_width < x.room → Ways names p l (refused 8 0 l)
  later : (x : MintAnswer) (k : ℕ) → mints_in p ≡ some x → x.room ≤ l.mints / mint_width → 0 < k → Ways names p l (refused 8 k l)
  good : (x : MintAnswer) → mints_in p ≡ some x → x.passes ≤ 256 → Roomy l x.room (accepted (tables_by names p x) l).answer
      → Ways names p l (accepted (tables_by names p x) l)

-- the first refusal of the table is that of names
pub of-names : OfInput 1
unfolding refusal_table
of-names = record { listed = get_or-mem refusal_numbers 0 (omega arith); no_seven = λ e. omega arith; no_eight = λ e. omega arith }

-- and those of a pack follow
pub of-pack : (v : Verdict) → refusal_number v ≢ 0 → OfInput (refusal_number v)
unfolding refusal_table
of-pack (Ok _) h = absurd (h refl)
of-pack (Err Mark) h = record { listed = get_or-mem refusal_numbers 1 (omega arith); no_seven = λ e. omega arith; no_eight = λ e. omega arith }
of-pack (Err Starts) h = record { listed = get_or-mem refusal_numbers 2 (omega arith); no_seven = λ e. omega arith; no_eight = λ e. omega arith }
of-pack (Err (Section k)) h = record { listed = get_or-mem refusal_numbers 3 (omega arith); no_seven = λ e. omega arith; no_eight = λ e. omega arith }
of-pack (Err Keys) h = record { listed = get_or-mem refusal_numbers 4 (omega arith); no_seven = λ e. omega arith; no_eight = λ e. omega arith }
of-pack (Err Balances) h = record { listed = get_or-mem refusal_numbers 5 (omega arith); no_seven = λ e. omega arith; no_eight = λ e. omega arith }
of-pack (Err Invocations) h = record { listed = get_or-mem refusal_numbers 6 (omega arith); no_seven = λ e. omega arith; no_eight = λ e. omega arith }

module _ (names p : List ℕ) (l : Lent) where
  pub tables-by : {x : MintAnswer} → mints_in p ≡ some x → tables_in names p ≡ some (tables_by names p x)
  unfolding tables tables_if
  tables-by q = rw q

  fitted-ways : {x : MintAnswer} → mints_in p ≡ some x → x.passes ≤ 256 → Ways names p l (fitted (tables_by names p x) l)
  unfolding fitted tables_with
  fitted-ways {x} q s = go (measured l x.room (accepted (tables_by names p x) l).answer)
    where
      go : {o : Option ℕ} → Room l x.room (accepted (tables_by names p x) l).answer o
          → Ways names p l (by_room (accepted (tables_by names p x) l) (λ k. refused 8 k l) o)
      go (first h) = crowded x q h
      go (behind k f h) = later x k q h f
      go (enough f) = good x q s f

  -- every call ends in one of these ways
  pub ways : Ways names p l (route names p l)
  unfolding route judged passed
  ways = go (eqb (length names) 88)
    where
      checked : (b : Bool) → eqb (refusal_number (verdict p)) 0 ≡ b
          → Ways names p l (cond b (passed (tables_in names p) l) (refused (refusal_number (verdict p)) (place_of (verdict p)) l))
      checked true e =
          let y = answered p (eqb-true (refusal_number (verdict p)) 0 e) in
          subst (λ (o : Option Tables). Ways names p l (passed o l)) (sym (tables-by y.1)) (fitted-ways y.1 y.3)
      checked false e = early (refusal_number (verdict p)) (place_of (verdict p)) (of-pack (verdict p) (eqb-false (refusal_number (verdict p)) 0 e))

      go : (b : Bool) → Ways names p l (cond b (judged names p l (verdict p)) (refused 1 0 l))
      go true = checked (eqb (refusal_number (verdict p)) 0) refl
      go false = early 1 0 of-names
