-- From the steps of `fill` to the answer and the tables of `route`: each step leaves what one part of the definition says, over tables that were zero.
-- Assumes nothing.
use mathlib.Core.Path.{◌≡◌, sym, ap, ◌∙◌}
use mathlib.Core.Logic.{◌≢◌}
use mathlib.Core.Option.{some}
use mathlib.Core.List.{List, map}
use Prim.Native.Nat.{ℕ}
use native.Mathlib.Nat.{zero-mul}
use native.Mathlib.Omega.{arith}
use borrow.Author.Tests.{eq-eqb, ne_eqb}
use lib.ListN.{length, length-map, length-replicate}
use lib.Seq.{sets}
use Rattle.wire.specs.Zeros.{zeros}
use Rattle.pack.specs.Sections.{section_of}
use Rattle.pack.specs.Verdict.{verdict, refusal_number}
use Rattle.evidence.specs.MintTable.{MintRow, MintAnswer}
use Rattle.evidence.proofs.Order.{row-right}
use Rattle.evidence.proofs.Chains.{chain-mint, chain-account}
use Rattle.mints.specs.Bytes.{mint_row, table_bytes}
use Rattle.mints.specs.declared.Made.{Made}
use Rattle.mints.specs.declared.TooManyPasses.{TooManyPasses}
use Rattle.mints.specs.Inference.{answer_of}
use Rattle.wire.specs.Tab.{tab}
use Rattle.subtrees.specs.Subtrees.{positions}
use Rattle.wire.proofs.Tab.{tab-length}
use Rattle.pack.specs.View.{pools_in}
use Rattle.route.specs.Widths.{mint_width}
use Rattle.std.specs.Prelude.{Result, Ok, Err, IsOk}
use Rattle.std.specs.Result.{is_ok, IsErrAnd}
use mathlib.Core.Bool.{false≢true}
use Rattle.route.specs.declared.Answer.{Answer}
use Rattle.pack.specs.declared.Refusal as Pack
use Rattle.pack.specs.declared.Refusal.TheVariants.{Mark, Starts, Section, Keys, Balances, Invocations}
use Rattle.pack.specs.declared.position.Place.{Place}
use Rattle.route.specs.declared.refusal.Refusal.{Refusal}
use Rattle.route.specs.declared.refusal.Refusal.TheVariants.{Names, Pack}
use Rattle.route.specs.Arrays.{item_at}
use Rattle.route.specs.Lay.{written}
use Rattle.route.specs.Tables.{Tables, invocation_at, tables_with}
use Rattle.route.specs.Route.{Lent, lent, accepted, fitted, tables_in, passed, refused, judged, route}
use Rattle.route.specs.Order.{mints_in}
use Rattle.route.specs.Filled.{Cleared, Filled}
use Rattle.route.specs.Fit.{number_of, place_in, answered, fits}
use Rattle.route.proofs.Finishing.{Finished}
use Rattle.route.proofs.Fitting.{fit-answer, fit-accepted}
use Rattle.route.proofs.Inferring.{flat-bytes, Sound}
use Rattle.route.proofs.OrderMints.{made, sized}
use Rattle.route.proofs.OrderTable.{placed-flat, mint-rowed}

-- the numbers of an inference
abbrev made_in : Result Made TooManyPasses → Made
made_in (Ok m) = m
made_in (Err e) = record { room = 0; rows = 0; passes = 0 }

pub numbers : {m : Made} (x : MintAnswer) → Ok m ≡ answer_of (some x) → (m.room ≡ x.room) × (m.rows ≡ length x.rows) × (m.passes ≡ x.passes)
unfolding answer_of
numbers x h = (ap (λ r. (made_in r).room) h, ap (λ r. (made_in r).rows) h, ap (λ r. (made_in r).passes) h)

-- passes that are not too many are answered
pub never : {e : TooManyPasses} (x : MintAnswer) → Err e ≡ answer_of (some x) → ⊥
unfolding answer_of
never x h = false≢true (ap is_ok h)

-- the rows of a pack's mint table have 32-byte mints, and no key in them is zero
pub sound : (p : List ℕ) {x : MintAnswer} → mints_in p ≡ some x → Sound x.rows
sound p q =
    let y = made p q in
    record {
      wide = λ r i. (sized p y).mint r i;
      mint = λ r i. chain-mint (row-right y i).0;
      account = λ r i. chain-account (row-right y i).0;
    }

-- the same by equal numbers
pub recast : {names p at : List ℕ} {places : List Place} {n room room' m m' k k' : ℕ} {l : Lent} {table : List MintRow} {r : Result Answer Refusal} {t1 t2 t3 t4 o1 o2 o3 o4 : List ℕ}
    → room ≡ room'
    → m ≡ m'
    → k ≡ k'
    → Finished names p at places n room m k l table r t1 t2 t3 t4 o1 o2 o3 o4
    → Finished names p at places n room' m' k' l table r t1 t2 t3 t4 o1 o2 o3 o4
recast e f g s = rw (← e, ← f, ← g) s

-- the steps of `fill`, for a pack whose mint table is x
pub record Filling (names p t0 t1 t2 t3 t4 at : List ℕ) (places : List Place) (n : ℕ) (x : MintAnswer) (r : Result Answer Refusal) (o0 o1 o2 o3 o4 : List ℕ) : Type 0 where
  pub tables : tables_in names p ≡ some (tables_with names (section_of p 0) (pools_in (section_of p 4)) (positions places n) (tab (item_at p at) 0 n) x)
  pub mints : mints_in p ≡ some x
  pub rows : o0 ≡ sets t0 0 (table_bytes x.rows)
  pub finished : Finished names p at places n x.room (length x.rows) x.passes (lent t0 t1 t2 t3 t4) x.rows r t1 t2 t3 t4 o1 o2 o3 o4
  pub cleared : Cleared t0 t1 t2 t3 t4

module _ {names p t0 t1 t2 t3 t4 at : List ℕ} {places : List Place} {n : ℕ} {x : MintAnswer} {r : Result Answer Refusal} {o0 o1 o2 o3 o4 : List ℕ} (s : Filling names p t0 t1 t2 t3 t4 at places n x r o0 o1 o2 o3 o4) where
  abbrev all : Tables
  all = tables_with names (section_of p 0) (pools_in (section_of p 4)) (positions places n) (tab (item_at p at) 0 n) x

  abbrev room : Lent
  room = lent t0 t1 t2 t3 t4

  fits-is : r ≡ fits room all.room (accepted all room).answer
  unfolding accepted tables_with
  fits-is =
      s.finished.answer
      ∙ sym (rw (length-map x.rows mint_row, tab-length (item_at p at) 0 n, tab-length (invocation_at names (section_of p 0) (pools_in (section_of p 4)) x.rows (positions places n) (tab (item_at p at) 0 n)) 0 n))

  answer-is : answered r ≡ (fitted all room).answer
  answer-is = ap answered fits-is ∙ sym (fit-answer all room)

  good : IsOk r → fitted all room ≡ accepted all room
  good h = fit-accepted all room (rw (← fits-is) h)

  table-0 : o0 ≡ written mint_width (map mint_row x.rows) (length t0)
  table-0 =
      s.rows
      ∙ rw (s.cleared.mints, length-replicate)
      (rw (← (flat-bytes x.rows)) (sym (placed-flat mint_width 0 (map mint_row x.rows) (zeros (length t0)) (mint-rowed x.rows (sized p (made p s.mints))) ∙ rw zero-mul)))

  pub filled : length names ≡ 88 → refusal_number (verdict p) ≡ 0 → Filled names p t0 t1 t2 t3 t4 r o0 o1 o2 o3 o4
  unfolding route judged passed accepted tables_with
  filled h e =
      record {
        answer = rw (eq-eqb _ _ h, eq-eqb _ 0 e, s.tables) answer-is;
        mints = λ z. rw (eq-eqb _ _ h, eq-eqb _ 0 e, s.tables, good z) table-0;
        invocations = λ z. rw (eq-eqb _ _ h, eq-eqb _ 0 e, s.tables, good z) (s.finished.invocations ∙ rw (s.cleared.invocations, length-replicate));
        transfers = λ z. rw (eq-eqb _ _ h, eq-eqb _ 0 e, s.tables, good z) (s.finished.transfers ∙ rw (s.cleared.transfers, length-replicate));
        legs = λ z. rw (eq-eqb _ _ h, eq-eqb _ 0 e, s.tables, good z) (s.finished.legs ∙ rw (s.cleared.legs, length-replicate));
        natives = λ z. rw (eq-eqb _ _ h, eq-eqb _ 0 e, s.tables, good z) (s.finished.natives ∙ rw (s.cleared.natives, length-replicate));
      }

-- no refusal of a pack has number 0
pub numbered : (e : Pack.Refusal) → refusal_number (Err e) ≢ 0
numbered Mark h = absurd (omega arith)
numbered Starts h = absurd (omega arith)
numbered (Section k) h = absurd (omega arith)
numbered Keys h = absurd (omega arith)
numbered Balances h = absurd (omega arith)
numbered Invocations h = absurd (omega arith)

-- a refusal that is handed on
pub handed-on : {r : Result Answer Refusal} {e : Refusal} → IsErrAnd r (λ x. x ≡ e) → r ≡ Err e
handed-on {r} {e} h = go r h
  where
    go : (r : Result Answer Refusal) → IsErrAnd r (λ x. x ≡ e) → r ≡ Err e
    go (Ok a) k = absurd k
    go (Err x) k = ap Err k

-- a refusal promises its answer alone
module _ {names p t0 t1 t2 t3 t4 o0 o1 o2 o3 o4 : List ℕ} where
  refused-by : (e : Refusal) → route names p (lent t0 t1 t2 t3 t4) ≡ refused (number_of e) (place_in e) (lent t0 t1 t2 t3 t4) → Filled names p t0 t1 t2 t3 t4 (Err e) o0 o1 o2 o3 o4
  unfolding refused
  refused-by e q =
      record {
        answer = rw q;
        mints = λ z. absurd (false≢true z);
        invocations = λ z. absurd (false≢true z);
        transfers = λ z. absurd (false≢true z);
        legs = λ z. absurd (false≢true z);
        natives = λ z. absurd (false≢true z);
      }

  -- that of names with another length
  pub refused-names : length names ≢ 88 → Filled names p t0 t1 t2 t3 t4 (Err Names) o0 o1 o2 o3 o4
  unfolding route
  refused-names h = refused-by Names (rw (ne_eqb _ _ h))

  -- that of a pack
  pub refused-pack : {e : Pack.Refusal} → length names ≡ 88 → verdict p ≡ Err e → Filled names p t0 t1 t2 t3 t4 (Err (Pack e)) o0 o1 o2 o3 o4
  unfolding route judged
  refused-pack {e} h v = refused-by (Pack e) (rw (eq-eqb _ _ h, v, ne_eqb _ 0 (numbered e)))
