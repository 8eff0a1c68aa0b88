-- What the steps of `fill` promise, put together.
-- Assumes nothing.
use mathlib.Core.Path.{◌≡◌, ◌∙◌}
use mathlib.Core.Bool.{Bool, true, false}
use mathlib.Core.List.{List, ◌++◌}
use Prim.Native.Nat.{ℕ, zero, suc, ◌-◌, ◌≤◌}
use native.Mathlib.Omega.{arith}
use lib.ListN.{length, get_or}
use lib.Seq.{sets}
use Rattle.wire.specs.Zeros.{zeros}
use Rattle.wire.proofs.Zeros.{zeros-at}
use Rattle.ids.specs.declared.Id.{Id}
use Rattle.pack.specs.Invocation.{Position}
use Rattle.pack.specs.declared.position.Place.{Place}
use Rattle.pack.specs.Sections.{section_of}
use Rattle.evidence.specs.MintTable.{MintRow}
use Rattle.wire.specs.Tab.{tab}
use Rattle.subtrees.specs.Subtrees.{positions, filled, bits, has_transfer, has_swap, within, inside_of, insides_of, tests_of, Subtrees}
use Rattle.subtrees.specs.Blocks.{some_in}
use Rattle.pack.specs.View.{pools_in}
use Rattle.route.specs.Widths.{invocation_width, transfer_width, leg_width, action_width}
use Rattle.std.specs.Prelude.{Result}
use Rattle.route.specs.declared.Answer.{Answer}
use Rattle.route.specs.declared.refusal.Refusal.{Refusal}
use Rattle.route.specs.Arrays.{item_at, FillsEach}
use Rattle.route.specs.Known.{Holds, Fills, Numbers}
use Rattle.route.specs.Lay.{rows_of, placed}
use Rattle.route.specs.Program.{Programs}
use Rattle.route.specs.Transfers.{transfer_rows, reasons_of}
use Rattle.route.specs.Legs.{leg_rows_in}
use Rattle.route.specs.Actions.{action_rows}
use Rattle.route.specs.Tables.{invocation_at}
use Rattle.route.specs.Route.{Lent, lent}
use Rattle.route.specs.Fit.{fits}
use Rattle.route.proofs.Assembled.{ArraysGathered, rows_are}
use Rattle.route.proofs.Lists.{array_at}

-- two bits are at most 3
two-bits : (t s : Bool) → bits t s ≤ 3
two-bits true true = omega arith
two-bits true false = omega arith
two-bits false true = omega arith
two-bits false false = omega arith

tab-le : (f : ℕ → ℕ) → ((k : ℕ) → f k ≤ 3) → (i n m k : ℕ) → get_or (tab f i n ++ zeros m) k 0 ≤ 3
unfolding tab
tab-le f h i zero m k = omega (arith, zeros-at m k)
tab-le f h i (suc n) m zero = h i
tab-le f h i (suc n) m (suc k) = tab-le f h (suc i) n m k

inside-two : (ps : List Position) (own : List ℕ) (i : ℕ) → inside_of ps own i ≤ 3
unfolding inside_of
inside-two ps own i =
    two-bits
    (some_in (length ps) (within ps) i (λ y. has_transfer (get_or own y 0)))
    (some_in (length ps) (within ps) i (λ y. has_swap (get_or own y 0)))

-- so the inside bits leave room for the others
pub inside-le : {ps : List Position} {own ends inside parents : List ℕ} {tests : ℕ} → Subtrees ps own tests ends inside parents → (i : ℕ) → get_or inside i 0 ≤ 3
unfolding filled
inside-le {ps} {own} s i = rw s.inside_left (tab-le (inside_of ps own) (inside-two ps own) 0 (length ps) (1024 - length (insides_of ps own)) i)

-- five tables have the lengths of five others
pub record Kept (o0 o1 o2 o3 o4 t0 t1 t2 t3 t4 : List ℕ) : Type 0 where
  pub mints : length o0 ≡ length t0
  pub invocations : length o1 ≡ length t1
  pub transfers : length o2 ≡ length t2
  pub legs : length o3 ≡ length t3
  pub natives : length o4 ≡ length t4

-- what the steps of `fill` promise once the mints are inferred: transfers, legs, actions, the rows of table 1, the answer
pub record Steps (names p ms at : List ℕ) (programs : List Id) (places : List Place) (n room m passes : ℕ) (r : Result Answer Refusal) (t0 t1 t2 t3 t4 o0 o1 o2 o3 o4 reasons leg : List ℕ) (c2 c3 c4 tests : ℕ) : Type 0 where
  pub few : n ≤ 1024
  pub known : Programs (section_of p 0) (item_at p at) n programs
  pub transfers : Fills ms p at (transfer_rows (section_of p 0)) transfer_width n c2 t2 o2
  pub reasoned : reasons ≡ sets (zeros 1024) 0 (reasons_of p at n)
  pub legs : Fills ms p at (leg_rows_in names p) leg_width n c3 t3 o3
  pub numbers : Numbers ms p at (leg_rows_in names p) n (zeros 1024) leg
  pub actions : Fills ms p at (action_rows (section_of p 0)) action_width n c4 t4 o4
  pub rows : FillsEach (positions places n) programs reasons leg tests t1 o1
  pub answer :
      r ≡ fits (lent o0 o1 o2 o3 o4) room (record {
        number = 0;
        place = 0;
        mints = m;
        invocations = n;
        transfers = c2;
        legs = c3;
        natives = c4;
        passes = passes;
        tests = tests;
      })
  pub kept : Kept o0 o1 o2 o3 o4 t0 t1 t2 t3 t4

-- n invocations by their arrays, with the rows of table 0 behind an array of final mints: the answer for m rows of table 0 and that many passes, and tables 1 to 4
pub record Finished (names p at : List ℕ) (places : List Place) (n room m passes : ℕ) (l : Lent) (table : List MintRow) (r : Result Answer Refusal) (t1 t2 t3 t4 o1 o2 o3 o4 : List ℕ) : Type 0 where
  pub answer :
      r ≡ fits l room (record {
        number = 0;
        place = 0;
        mints = m;
        invocations = n;
        transfers = length (rows_of (transfer_rows (section_of p 0) table) 0 (tab (item_at p at) 0 n));
        legs = length (rows_of (leg_rows_in names p table) 0 (tab (item_at p at) 0 n));
        natives = length (rows_of (action_rows (section_of p 0) table) 0 (tab (item_at p at) 0 n));
        passes = passes;
        tests = tests_of (positions places n);
      })
  pub invocations :
      o1 ≡ placed invocation_width 0 (tab (invocation_at names (section_of p 0) (pools_in (section_of p 4)) table (positions places n) (tab (item_at p at) 0 n)) 0 (length (tab (item_at p at) 0 n))) t1
  pub transfers : o2 ≡ placed transfer_width 0 (rows_of (transfer_rows (section_of p 0) table) 0 (tab (item_at p at) 0 n)) t2
  pub legs : o3 ≡ placed leg_width 0 (rows_of (leg_rows_in names p table) 0 (tab (item_at p at) 0 n)) t3
  pub natives : o4 ≡ placed action_width 0 (rows_of (action_rows (section_of p 0) table) 0 (tab (item_at p at) 0 n)) t4

pub finished : {names p ms at : List ℕ} {programs : List Id} {places : List Place} {n room m passes : ℕ} {r : Result Answer Refusal} {t0 t1 t2 t3 t4 o0 o1 o2 o3 o4 reasons leg : List ℕ} {c2 c3 c4 tests : ℕ}
    → Steps names p ms at programs places n room m passes r t0 t1 t2 t3 t4 o0 o1 o2 o3 o4 reasons leg c2 c3 c4 tests
    → (table : List MintRow) → Holds ms (section_of p 0) table
    → Finished names p at places n room m passes (lent t0 t1 t2 t3 t4) table r t1 t2 t3 t4 o1 o2 o3 o4
finished {names} {p} {at = at} {programs} {places} {n = n} {reasons = reasons} {leg} s table h =
    record {
      answer =
          s.answer
          ∙ rw (s.kept.mints, s.kept.invocations, s.kept.transfers, s.kept.legs, s.kept.natives, s.transfers.counted table h, s.legs.counted table h, s.actions.counted table h, s.rows.tests);
      invocations = s.rows.rows ∙ rw (rows_are names (section_of p 0) p (pools_in (section_of p 4)) table n at programs places reasons leg gathered);
      transfers = s.transfers.rows table h;
      legs = s.legs.rows table h;
      natives = s.actions.rows table h;
    }
  where
    gathered : ArraysGathered names (section_of p 0) p (pools_in (section_of p 4)) table n at programs reasons leg
    gathered =
        record {
          known = s.known;
          reasoned = λ i l. array_at (zeros 1024) reasons _ n i s.reasoned s.few l;
          numbers = λ i l. array_at (zeros 1024) leg _ n i (s.numbers.each table h) s.few l;
        }
