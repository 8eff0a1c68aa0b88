-- The array so far holds what each row so far says.
-- Assumes nothing.
use Rattle.listing.specs.Listing.{row_in}
use Rattle.listing.specs.Tree.{own_in}
use Rattle.route.proofs.Rows.{array-more}
use Rattle.wire.specs.Tab.{tab}
use native.Mathlib.Nat.{add-sub_cancel_left}
use mathlib.Core.Path.{refl}
use native.Mathlib.Omega.{arith}
use Rattle.listing.proofs.tree.put_own.Goals as goal

pub loop-i-init : goal.loop-i-init
unfolding tab
loop-i-init c = (omega arith, refl)

pub loop-i-preserved : goal.loop-i-preserved
loop-i-preserved c =
    let l = c.loop-i in
    let a = c.args in
    (omega arith, rw (simp add-sub_cancel_left at c.own_in.ensures) (array-more (λ j. own_in (row_in a.rows.now j)) l.i a.own.now l.own l.invariant.1))
