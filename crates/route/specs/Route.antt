-- The public call on values: names, pack and the lengths of five tables give an answer and the tables' bytes.
-- Assumes nothing.
use Rattle.std.specs.Prelude.{ℕ, ◌/◌, cond, List, ◌≡◌, ltb, eqb, length}
use Rattle.std.proofs.Math.Option.{Option, none, some}
use Rattle.wire.specs.Zeros.{zeros}
use Rattle.pack.specs.Sections.{section_of}
use Rattle.pack.specs.View.{view_of}
use Rattle.pack.specs.Flatten.{flatten}
use Rattle.pack.specs.Verdict.{Verdict, verdict, refusal_number, place_of}
use Rattle.route.specs.Widths.{mint_width, invocation_width, transfer_width, leg_width, action_width}
use Rattle.route.specs.declared.Answer.{Answer}
use Rattle.route.specs.declared.fit.Lent.{Lent as Lengths}
use Rattle.route.specs.Lay.{written}
use Rattle.route.specs.Tables.{Tables, tables}

-- the lengths of the five lent tables, in bytes
abbrev pub Lent : Type 0
Lent = Lengths

-- the lengths of five lists
abbrev pub lent : List ℕ → List ℕ → List ℕ → List ℕ → List ℕ → Lent
lent t0 t1 t2 t3 t4 = record { mints = length t0; invocations = length t1; transfers = length t2; legs = length t3; natives = length t4 }

-- the answer, and what the five tables hold then
pub record Routed : Type 0 where
  pub answer : Answer
  pub mints : List ℕ
  pub invocations : List ℕ
  pub transfers : List ℕ
  pub legs : List ℕ
  pub natives : List ℕ

-- a refusal: number and place, all counts 0, all tables zero throughout
unfoldable pub refused : ℕ → ℕ → Lent → Routed
refused number place l =
    record {
      answer = record { number = number; place = place; mints = 0; invocations = 0; transfers = 0; legs = 0; natives = 0; passes = 0; tests = 0 };
      mints = zeros l.mints;
      invocations = zeros l.invocations;
      transfers = zeros l.transfers;
      legs = zeros l.legs;
      natives = zeros l.natives;
    }

-- a success: the counts, and the rows in the tables
unfoldable pub accepted : Tables → Lent → Routed
accepted t l =
    record {
      answer =
          record {
            number = 0;
            place = 0;
            mints = length t.mints;
            invocations = length t.invocations;
            transfers = length t.transfers;
            legs = length t.legs;
            natives = length t.natives;
            passes = t.passes;
            tests = t.tests;
          };
      mints = written mint_width t.mints l.mints;
      invocations = written invocation_width t.invocations l.invocations;
      transfers = written transfer_width t.transfers l.transfers;
      legs = written leg_width t.legs l.legs;
      natives = written action_width t.natives l.natives;
    }

-- the lowest table with too few whole rows for an answer, if there is one; table 0 needs room for ambiguous accounts too
abbrev pub too_small : Lent → ℕ → Answer → Option ℕ
too_small l room a =
    cond (ltb (l.mints / mint_width) room) (some 0)
    (cond (ltb (l.invocations / invocation_width) a.invocations) (some 1)
    (cond (ltb (l.transfers / transfer_width) a.transfers) (some 2)
    (cond (ltb (l.legs / leg_width) a.legs) (some 3)
    (cond (ltb (l.natives / action_width) a.natives) (some 4)
    none))))

-- what a success is where no table is too small, else what a refusal at table k is
abbrev pub by_room : {A : Type 0} → A → (ℕ → A) → Option ℕ → A
by_room success refusal none = success
by_room success refusal (some k) = refusal k

-- the success, or refusal 8 at the table that is too small
unfoldable pub fitted : Tables → Lent → Routed
fitted t l = by_room (accepted t l) (λ k. refused 8 k l) (too_small l t.room (accepted t l).answer)

-- refusal 7: the passes do not suffice
unfoldable pub passed : Option Tables → Lent → Routed
passed none l = refused 7 0 l
passed (some t) l = fitted t l

-- the tables of a pack
abbrev pub tables_in : List ℕ → List ℕ → Option Tables
tables_in names p = tables names (section_of p 0) (view_of p).balances (flatten (view_of p)) (view_of p).pools

-- the refusals of a pack, by its verdict
unfoldable pub judged : List ℕ → List ℕ → Lent → Verdict → Routed
judged names p l v = cond (eqb (refusal_number v) 0) (passed (tables_in names p) l) (refused (refusal_number v) (place_of v) l)

-- the whole call
unfoldable pub route : List ℕ → List ℕ → Lent → Routed
route names p l = cond (eqb (length names) 88) (judged names p l (verdict p)) (refused 1 0 l)

-- what the call promises of its answer and of each lent table: all of `route`, so that one result and one content are left
pub record Leaves (names p t0 t1 t2 t3 t4 : List ℕ) (r : Answer) (o0 o1 o2 o3 o4 : List ℕ) : Type 0 where
  pub answer : r ≡ (route names p (lent t0 t1 t2 t3 t4)).answer
  pub mints : o0 ≡ (route names p (lent t0 t1 t2 t3 t4)).mints
  pub invocations : o1 ≡ (route names p (lent t0 t1 t2 t3 t4)).invocations
  pub transfers : o2 ≡ (route names p (lent t0 t1 t2 t3 t4)).transfers
  pub legs : o3 ≡ (route names p (lent t0 t1 t2 t3 t4)).legs
  pub natives : o4 ≡ (route names p (lent t0 t1 t2 t3 t4)).natives
