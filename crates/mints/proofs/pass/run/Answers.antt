-- What is left of the passes from here on is the answer; a pass that adds nothing ends it, and after 512 none is left.
use Rattle.mints.proofs.Passing.{filled-bound, passes-last, passes-next, passes_over}
use Rattle.mints.specs.Note.{Noted}
use Rattle.mints.specs.Pass.{Ran, passes}
use borrow.Author.Tests.{ne_eqb}
use mathlib.Core.Path.{refl, sym, ap, ◌∙◌}
use lib.ListN.{length}
use native.Mathlib.Omega.{arith}
use Rattle.mints.proofs.pass.run.Goals as goal

pub returns-then-room-eq0 : goal.returns-then-room-eq0
unfolding passes
returns-then-room-eq0 c = rw c.if-room-eq0.true

pub loop-p-init : goal.loop-p-init
unfolding passes
loop-p-init c = (refl, omega arith, sym (simp (ne_eqb _ _ c.if-room-eq0.false)))

pub returns-then-added-eq0 : goal.returns-then-added-eq0
returns-then-added-eq0 c =
    let l = c.loop-p in
    let a = c.args in
    let q = c.pass-added.ensures in
    let d = sym l.invariant.2 ∙ passes-last a.transfers.now l.table l.room l.p (omega arith) (ap (λ (x : Noted). x.room) q ∙ c.if-added-eq0.true) in
    d ∙ rw q

pub overflow_add-room : goal.overflow_add-room
overflow_add-room c =
    let l = c.loop-p in
    let a = c.args in
    omega (arith, ap (λ (x : Noted). x.room) c.pass-added.ensures, filled-bound a.transfers.now l.table (length a.transfers.now))

pub loop-p-preserved : goal.loop-p-preserved
loop-p-preserved c =
    let pass = c.pass-added in
    let l = c.loop-p in
    let a = c.args in
    let q = pass.ensures in (
      pass.auto.table ∙ l.invariant.0,
      omega (arith, ap (λ (x : Noted). x.room) q, filled-bound a.transfers.now l.table (length a.transfers.now)),
      rw q at (passes-next a.transfers.now l.table l.room l.p (omega arith) (λ e. c.if-added-eq0.false (sym (ap (λ (x : Noted). x.room) q) ∙ e)) ∙ l.invariant.2),
    )

pub returns : goal.returns
returns c =
    let l = c.loop-p in
    let a = c.args in
    ap (λ (x : Ran). x.passes) (sym l.invariant.2 ∙ passes_over a.transfers.now l.table l.room l.p (omega arith))
