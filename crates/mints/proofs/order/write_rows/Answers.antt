-- Each turn writes one row behind the rows before it; 64 bytes and a mark are a row.
use Rattle.mints.proofs.Writing.{row-length, rows_next, rows-more, row_put}
use Rattle.mints.specs.Order.{row_bytes, rows_bytes}
use Rattle.wire.proofs.Sets.{sets-next}
use lib.ListN.{length, get_or, take}
use Prim.Native.Nat.{◌*◌, ◌<◌}
use mathlib.Core.Path.{refl, ◌∙◌}
use native.Mathlib.Omega.{arith}
use Rattle.mints.specs.Bytes.{mint_width}
use Rattle.mints.proofs.order.write_rows.Goals as goal

pub loop-j-init : goal.loop-j-init
unfolding rows_bytes
loop-j-init c = (refl, refl, refl)

pub loop-j-preserved : goal.loop-j-preserved
loop-j-preserved c =
    let l = c.loop-j in
    let a = c.args in
    let r = get_or a.order.now l.j 0 in
    let n : l.j < length a.order.now = omega arith in
    let x = c.account.ensures.1 in
    let y = c.mint.ensures.1 in (
      c.put_byte.auto.d ∙ c.put-in-loop-j.auto.d ∙ c.put.auto.d ∙ l.invariant.0,
      rows-more a.table.now a.order.now l.j n l.invariant.1 (row-length a.table.now r x y),
      c.put_byte.ensures ∙ rw (c.put-in-loop-j.ensures, c.put.ensures, c.account.ensures.0, c.mint.ensures.0, c.mark.ensures, row_put l.out a.table.now (l.j * mint_width) r x y, l.invariant.2, rows_next a.table.now a.order.now l.j n) (sets-next a.out.now 0 (rows_bytes a.table.now (take l.j a.order.now)) (row_bytes a.table.now r) (l.j * mint_width) (omega (arith, l.invariant.1))),
    )
