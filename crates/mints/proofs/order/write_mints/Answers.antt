-- Each turn writes 32 bytes behind the mints before it, and behind these all is zero still.
use Rattle.mints.proofs.Writing.{mints-more, mints-blank}
use Rattle.mints.specs.Order.{shown_mint, mints_to}
use Rattle.wire.proofs.Sets.{sets-next}
use lib.ListN.{get_or}
use Prim.Native.Nat.{◌*◌}
use native.Mathlib.Numerals.{add-one}
use mathlib.Core.Path.{refl, ◌∙◌}
use native.Mathlib.Omega.{arith}
use Rattle.mints.proofs.order.write_mints.Goals as goal

pub loop-i-init : goal.loop-i-init
unfolding mints_to
loop-i-init c = (refl, refl, refl)

pub write_mint-requires : goal.write_mint-requires
write_mint-requires c =
    let l = c.loop-i in
    (c.requires.1 l.i, omega arith, rw l.invariant.2 (mints-blank c.args.out.now c.args.table.now c.args.row.now l.i l.invariant.1 c.requires.2))

pub loop-i-preserved : goal.loop-i-preserved
unfolding mints_to
loop-i-preserved c =
    let l = c.loop-i in
    let a = c.args in
    let q = c.write_mint.ensures in (
      c.write_mint.auto.out ∙ l.invariant.0,
      mints-more a.table.now a.row.now l.i l.invariant.1 q.1,
      q.0 ∙ rw (l.invariant.2, add-one l.i) (sets-next a.out.now 0 (mints_to a.table.now a.row.now l.i) (shown_mint a.table.now (get_or a.row.now l.i 0)) (l.i * 32) (omega (arith, l.invariant.1))),
    )
