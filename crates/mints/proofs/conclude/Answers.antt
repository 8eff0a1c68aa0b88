-- Each call leaves the record that the next one begins with, so the four equations put together are the definition; the rows that were laid are whole, so
-- every row number fits.
use Rattle.mints.proofs.Preparing.{laid-is, laid-fits, rows-laid, gathered-is}
use Rattle.mints.proofs.Working.{transfers-within, rows_long, counted, noted-few, concluded-is}
use Rattle.mints.specs.Cells.{blank_row}
use Rattle.mints.specs.Prepare.{laid_of}
use Rattle.ids.specs.Keys.{key_count}
use Rattle.mints.specs.Conclude.{Concluded}
use Rattle.std.proofs.lemmas.Result.{err_from_is_err_and}
use lib.Seq.{length-take-le}
use lib.ListN.{length, length-take, length-replicate}
use Prim.Native.Nat.{◌≤◌}
use mathlib.Core.Path.{◌≡◌, refl, sym, ap, ◌∙◌}
use native.Mathlib.Omega.{arith}
use Rattle.mints.proofs.conclude.Goals as goal

pub note_balances-recorded-requires : goal.note_balances-recorded-requires
note_balances-recorded-requires c =
    let lay = c.lay-rows in
    let a = c.args in
    let ks = a.keys.now in
    let few : key_count ks ≤ 256 = omega (arith, c.requires.0) in
    let rows = laid-is ks a.table.now a.row.now c.requires.2 c.requires.3 lay.ensures in
    let wide : length lay.new.table ≡ 257 = lay.auto.table ∙ ap length c.requires.2 ∙ length-replicate 257 blank_row in
    λ i. rw rows at (laid-fits ks few lay.new.table wide i)

pub gather-g-requires : goal.gather-g-requires
gather-g-requires c =
    let lay = c.lay-rows in
    let note-balances = c.note_balances-recorded in
    let a = c.args in
    let ks = a.keys.now in
    let few : key_count ks ≤ 256 = omega (arith, c.requires.0) in
    let rows = laid-is ks a.table.now a.row.now c.requires.2 c.requires.3 lay.ensures in
    let wide : length lay.new.table ≡ 257 = lay.auto.table ∙ ap length c.requires.2 ∙ length-replicate 257 blank_row in
    let noted : length note-balances.new.table ≡ length lay.new.table = note-balances.auto.table in
    record { at_in_bounds = (simp length-replicate (omega arith), c.requires.1); fits = (λ i. rw rows at (laid-fits ks few note-balances.new.table (noted ∙ wide) i), few) }

pub overflow_add-recorded : goal.overflow_add-recorded
overflow_add-recorded c =
    let a = c.args in
    let ks = a.keys.now in
    let few : key_count ks ≤ 256 = omega (arith, c.requires.0) in
    let rows = laid-is ks a.table.now a.row.now c.requires.2 c.requires.3 c.lay-rows.ensures in
    let e = gathered-is ks a.balances.now a.pack.now a.at.now rows c.note_balances-recorded.ensures c.gather-g.ensures.to_value in
    omega (arith, noted-few ks a.balances.now a.pack.now a.at.now few c.requires.1 e (omega arith))

pub slice_bounds-transfers-end : goal.slice_bounds-transfers-end
slice_bounds-transfers-end c =
    let a = c.args in
    let ks = a.keys.now in
    let few : key_count ks ≤ 256 = omega (arith, c.requires.0) in
    let rows = laid-is ks a.table.now a.row.now c.requires.2 c.requires.3 c.lay-rows.ensures in
    let e = gathered-is ks a.balances.now a.pack.now a.at.now rows c.note_balances-recorded.ensures c.gather-g.ensures.to_value in
    let k = counted ks a.balances.now a.pack.now a.at.now few c.requires.1 e in
    k.1

pub slice_bounds-hand_on-end : goal.slice_bounds-hand_on-end
slice_bounds-hand_on-end c =
    let a = c.args in
    let ks = a.keys.now in
    let few : key_count ks ≤ 256 = omega (arith, c.requires.0) in
    let rows = laid-is ks a.table.now a.row.now c.requires.2 c.requires.3 c.lay-rows.ensures in
    let e = gathered-is ks a.balances.now a.pack.now a.at.now rows c.note_balances-recorded.ensures c.gather-g.ensures.to_value in
    let k = counted ks a.balances.now a.pack.now a.at.now few c.requires.1 e in
    sym (length-take-le c.gather-g.result.count c.gather-g.new.transfers k.1)

pub hand_on-requires : goal.hand_on-requires
hand_on-requires c =
    let a = c.args in
    let ks = a.keys.now in
    let few : key_count ks ≤ 256 = omega (arith, c.requires.0) in
    let rows = laid-is ks a.table.now a.row.now c.requires.2 c.requires.3 c.lay-rows.ensures in
    let e = gathered-is ks a.balances.now a.pack.now a.at.now rows c.note_balances-recorded.ensures c.gather-g.ensures.to_value in
    let fit : (laid_of ks).rows ≤ 257 = omega (arith, (rows-laid ks few).few) in
    let k = counted ks a.balances.now a.pack.now a.at.now few c.requires.1 e in record {
      bounds = (
        simp length-take (omega (arith, k.0)),
        noted-few ks a.balances.now a.pack.now a.at.now few c.requires.1 e (omega arith),
        rw rows at fit,
      );
      rows_in_bounds = (
        rw rows at (rows_long ks a.balances.now a.pack.now a.at.now few c.requires.1 e),
        λ i. rw rows at (transfers-within ks a.balances.now a.pack.now a.at.now few c.requires.1 e i),
      );
    }

pub returns-in_err-ran-clause-value : goal.returns-in_err-ran-clause-value
returns-in_err-ran-clause-value c =
    let a = c.args in
    let ks = a.keys.now in
    let few : key_count ks ≤ 256 = omega (arith, c.requires.0) in
    let rows = laid-is ks a.table.now a.row.now c.requires.2 c.requires.3 c.lay-rows.ensures in
    let e = gathered-is ks a.balances.now a.pack.now a.at.now rows c.note_balances-recorded.ensures c.gather-g.ensures.to_value in
    let p = err_from_is_err_and c.from_residual.result c.from_residual.ensures.1 in
    rw p.1 (ap (λ (x : Concluded). x.passes) (concluded-is ks a.balances.now a.pack.now a.at.now few c.requires.1 e rows refl) ∙ c.in_err-ran.ensures)

pub returns : goal.returns
returns c =
    let gather = c.gather-g in
    let a = c.args in
    let ks = a.keys.now in
    let few : key_count ks ≤ 256 = omega (arith, c.requires.0) in
    let rows = laid-is ks a.table.now a.row.now c.requires.2 c.requires.3 c.lay-rows.ensures in
    let e = gathered-is ks a.balances.now a.pack.now a.at.now rows c.note_balances-recorded.ensures gather.ensures.to_value in
    record { value = concluded-is ks a.balances.now a.pack.now a.at.now few c.requires.1 e rows c.in_ok-ran.ensures; programs_after = gather.ensures.programs_after }
