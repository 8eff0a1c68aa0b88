-- The rows so far are those of the invocations so far, and each candidate adds its own behind them.
use Rattle.route.proofs.Rows.{candidate, fills-none, fills-more, array-more}
use Rattle.route.specs.Arrays.{item_at}
use Rattle.route.specs.Known.{Puts}
use Rattle.route.specs.Widths.{transfer_width}
use Rattle.route.specs.Transfers.{transfer_rows, reason_in, transfer_count}
use Rattle.pack.specs.Sections.{section_of}
use Rattle.wire.specs.Tab.{tab}
use mathlib.Core.Path.{◌≡◌, refl, ◌∙◌}
use lib.ListN.{get_or}
use Rattle.ids.specs.declared.Id.TheVariants.{SplToken}
use native.Mathlib.Omega.{arith}
use Rattle.route.proofs.transfers.put_rows.Goals as goal

pub loop-i-init : goal.loop-i-init
unfolding tab
loop-i-init c =
    let a = c.args in (
      omega arith,
      refl,
      fills-none a.mints.now a.pack.now a.at.now (transfer_rows (section_of a.pack.now 0)) transfer_width a.out.now,
      refl,
    )

pub loop-i-preserved : goal.loop-i-preserved
loop-i-preserved c =
    let l = c.loop-i in
    let a = c.args in
    let f = transfer_rows (section_of a.pack.now 0) in
    let put = c.put_one-r in
    let id = get_or a.programs.now l.i SplToken in
    let keys = c.section-keys.ensures in
    let one : Puts a.mints.now (section_of a.pack.now 0) a.pack.now f transfer_width (candidate a.at.now id l.i l.k) (transfer_count put.result) l.out put.new.out =
    rw (keys, c.nth-x.ensures) at put.ensures.puts in
    let told : put.result ≡ reason_in (section_of a.pack.now 0) (item_at a.pack.now a.at.now l.i) = rw (keys, c.nth-x.ensures) at put.ensures.value in (
      omega (arith, c.rows-k.ensures, one.few),
      put.auto.out ∙ l.invariant.1,
      rw c.rows-k.ensures (fills-more a.mints.now a.pack.now a.at.now f id transfer_width l.i l.k (transfer_count put.result) a.out.now l.out _ l.invariant.2 one),
      rw told (array-more (λ i. reason_in (section_of a.pack.now 0) (item_at a.pack.now a.at.now i)) l.i a.reasons.now l.reasons l.invariant.3),
    )
