-- The rows so far are those of the invocations so far, and each candidate adds its own behind them.
use Rattle.route.proofs.Rows.{candidate, fills-none, fills-more, numbers-none, numbers_more}
use Rattle.route.specs.Known.{Puts}
use Rattle.route.specs.Widths.{leg_width}
use Rattle.route.specs.Legs.{leg_rows_in}
use Rattle.pack.specs.Sections.{section_of}
use mathlib.Core.Path.{refl, ◌∙◌}
use lib.ListN.{get_or}
use Rattle.ids.specs.declared.Id.TheVariants.{SplToken}
use native.Mathlib.Omega.{arith}
use Rattle.route.proofs.legs.put_rows.Goals as goal

pub loop-i-init : goal.loop-i-init
loop-i-init c =
    let a = c.args in (
      omega arith,
      refl,
      fills-none a.mints.now a.pack.now a.at.now (leg_rows_in a.names.now a.pack.now) leg_width a.out.now,
      numbers-none a.mints.now a.pack.now a.at.now (leg_rows_in a.names.now a.pack.now) a.leg.now,
    )

pub loop-i-preserved : goal.loop-i-preserved
loop-i-preserved c =
    let l = c.loop-i in
    let a = c.args in
    let f = leg_rows_in a.names.now a.pack.now in
    let put = c.put_one-r in
    let id = get_or a.programs.now l.i SplToken in
    let one : Puts a.mints.now (section_of a.pack.now 0) a.pack.now f leg_width (candidate a.at.now id l.i l.k) put.result l.out put.new.out =
    rw (c.section-keys.ensures, c.section-pools.ensures, c.nth-x.ensures) at put.ensures in (
      omega (arith, one.few),
      put.auto.out ∙ l.invariant.1,
      (fills-more a.mints.now a.pack.now a.at.now f id leg_width l.i l.k put.result a.out.now l.out _ l.invariant.2 one),
      rw c.number.ensures (numbers_more a.mints.now a.pack.now a.at.now f id leg_width l.i l.k put.result a.out.now l.out _ a.leg.now l.leg l.invariant.3 l.invariant.2 one),
    )
