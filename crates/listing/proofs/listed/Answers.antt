-- A refusal is its one line; a success is its first line and those of the rows behind it.
-- Assumes nothing.
use Rattle.route.specs.declared.Answer.{Answer}
use mathlib.Core.Logic.{◌≢◌}
use Rattle.std.proofs.Common.{ℕ, List, ◌≡◌, ◌++◌, ◌≤◌, length, ◌∙◌, arith}
use Rattle.std.proofs.lemmas.Result.{IfOk-weaker}
use borrow.Author.Tests.{eq-eqb, ne_eqb}
use Rattle.listing.specs.Listing.{refusal_line, head, lines_from, listed}
use Rattle.listing.proofs.Lengths.{Words, refusal-few, listed-few, puts}
use Rattle.listing.proofs.listed.Goals as goal

of-refusal : (a : Answer) (rows : List ℕ) → a.number ≢ 0 → listed a rows ≡ refusal_line a.number a.place
unfolding listed
of-refusal a rows h = rw (ne_eqb a.number 0 h)

pub returns-then-a-ne0 : goal.returns-then-a-ne0
returns-then-a-ne0 c =
    let a = c.args.a in
    let few : length (refusal_line a.number a.place) ≤ 65536 = omega (arith, refusal-few a.number a.place (omega arith) (omega arith)) in
    rw (of-refusal a c.args.rows.now c.if-a-ne0.true) (IfOk-weaker _ _ _ (λ text e. puts e few) c.refused.ensures)

pub returns : goal.returns
unfolding listed
returns c =
    let a = c.args.a in
    let rows = c.args.rows.now in
    let is : head a ++ lines_from rows a.invocations 0 ≡ listed a rows = rw (eq-eqb a.number 0 c.if-a-ne0.false) in
    let words : Words a =
    record {
      number = omega arith;
      place = omega arith;
      mints = omega arith;
      invocations = omega arith;
      transfers = omega arith;
      legs = omega arith;
      natives = omega arith;
      passes = omega arith;
      tests = omega arith;
    } in
    let few = listed-few a rows words c.requires.invocations_bound (λ k. omega (arith, c.type_inv.rows k)) in
    puts ((rw c.in_ok-text.ensures at c.in_ok-lines.ensures) ∙ is) few
