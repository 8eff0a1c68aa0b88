-- One row more keeps the first k places what the definition's list is; a row with no mint is left out by both.
use Rattle.mints.proofs.Sorting.{spot-bound, put-length, sort-skip, sort-next, sort-fits, sort-rising}
use Rattle.mints.specs.Order.{spot_in, sort_to}
use lib.ListN.{length, take}
use native.Mathlib.Numerals.{add-one}
use mathlib.Core.Path.{refl, sym, ap, ◌∙◌}
use native.Mathlib.Omega.{arith}
use Rattle.mints.proofs.order.sort.Goals as goal

pub loop-r-init : goal.loop-r-init
unfolding sort_to
loop-r-init c = (refl, omega arith, refl, refl)

pub loop-r-preserved-then-not-has_mint : goal.loop-r-preserved-then-not-has_mint
loop-r-preserved-then-not-has_mint c =
    let l = c.loop-r in
    let e = sort-skip c.args.table.now l.r (sym c.has_mint.ensures ∙ c.if-not-has_mint.true) in
    (l.invariant.0, omega arith, l.invariant.2 ∙ sym (ap length e), l.invariant.3 ∙ sym e)

pub spot-j-requires : goal.spot-j-requires
spot-j-requires c =
    let l = c.loop-r in
    let t = c.args.table.now in
    rw l.invariant.3 (omega arith, sort-fits t l.r (omega arith) (omega arith), sort-rising t l.r)

pub insert-requires : goal.insert-requires
insert-requires c =
    let l = c.loop-r in
    let t = c.args.table.now in
    (omega (arith, c.spot-j.ensures, spot-bound t l.r (take l.k l.order), ap length l.invariant.3), omega arith)

pub loop-r-preserved : goal.loop-r-preserved
loop-r-preserved c =
    let l = c.loop-r in
    let t = c.args.table.now in
    let e = sort-next t l.r (sym c.has_mint.ensures ∙ c.if-not-has_mint.false) in
    let n = put-length (sort_to t l.r) (spot_in t l.r (sort_to t l.r)) l.r (spot-bound t l.r (sort_to t l.r)) in (
      c.insert.auto.order ∙ l.invariant.0,
      omega arith,
      rw (e, n, ← l.invariant.2) (add-one l.k),
      rw (add-one l.k, e) (c.insert.ensures ∙ rw (c.spot-j.ensures, l.invariant.3)),
    )
