-- The rows so far are those of the invocations so far, and each candidate adds its own behind them.
use Rattle.route.proofs.Rows.{candidate, fills-none, fills-more}
use Rattle.route.specs.Known.{Puts}
use Rattle.route.specs.Widths.{action_width}
use Rattle.route.specs.Actions.{action_rows}
use Rattle.pack.specs.Sections.{section_of}
use mathlib.Core.Path.{refl, ◌∙◌}
use lib.ListN.{get_or}
use Rattle.ids.specs.declared.Id.TheVariants.{SplToken}
use native.Mathlib.Omega.{arith}
use Rattle.route.proofs.actions.put_rows.Goals as goal

pub loop-i-init : goal.loop-i-init
loop-i-init c =
    let a = c.args in (
      omega arith,
      refl,
      fills-none a.mints.now a.pack.now a.at.now (action_rows (section_of a.pack.now 0)) action_width a.out.now,
    )

pub loop-i-preserved : goal.loop-i-preserved
loop-i-preserved c =
    let l = c.loop-i in
    let a = c.args in
    let f = action_rows (section_of a.pack.now 0) in
    let put = c.put_one-k in
    let id = get_or a.programs.now l.i SplToken in
    let one : Puts a.mints.now (section_of a.pack.now 0) a.pack.now f action_width (candidate a.at.now id l.i l.k) put.result l.out put.new.out =
    rw (c.section-keys.ensures, c.nth-x.ensures) at put.ensures in (
      omega (arith, one.few),
      put.auto.out ∙ l.invariant.1,
      (fills-more a.mints.now a.pack.now a.at.now f id action_width l.i l.k put.result a.out.now l.out _ l.invariant.2 one),
    )
