-- Each turn lays one key more, and `ends` goes on holding the last byte of every row, because a new row ends as its key does.
use Rattle.mints.proofs.Search.{ends-before}
use Rattle.ids.proofs.Keys.{key-length}
use Rattle.mints.proofs.Laying.{laid-by-search, found-within, lay-next, one-row, ends-first, ends_more}
use Rattle.mints.specs.declared.row.State.TheVariants.{Ambiguous}
use Rattle.mints.specs.Cells.{with_state}
use Rattle.mints.specs.Lay.{lay_to}
use Rattle.ids.specs.Keys.{zero_key, key_count, key_of}
use lib.ListN.{length, length-set}
use mathlib.Core.Path.{◌≡◌, refl, ap, ◌∙◌}
use native.Mathlib.Omega.{arith}
use Rattle.mints.proofs.table.lay_marking.Goals as goal

pub loop-i-init : goal.loop-i-init
unfolding lay_to zero_key with_state
loop-i-init c =
    let a = c.args in
    let w : length a.ends.now ≡ 256 = c.requires.3 in (
      refl,
      refl,
      omega arith,
      simp length-set (omega arith),
      refl,
      simp length-set w,
      ends-first (with_state a.table.now 0 Ambiguous) a.ends.now refl (omega (arith, w)),
    )

pub row_for-found-requires : goal.row_for-found-requires
unfolding zero_key
row_for-found-requires c =
    let l = c.loop-i in
    let a = c.args in
    (ap length c.key-key.ensures ∙ key-length a.keys.now l.i, ends-before l.table l.rows l.ends (omega arith) l.invariant.6)

pub add-rows-requires : goal.add-rows-requires
unfolding zero_key
add-rows-requires c = (omega arith, ap length c.key-key.ensures ∙ key-length c.args.keys.now c.loop-i.i)

pub overflow_cast-row : goal.overflow_cast-row
overflow_cast-row c =
    let l = c.loop-i in
    omega (arith, found-within l.table c.key-key.result.now l.rows (omega arith) c.row_for-found.ensures c.unwrap_or.ensures)

pub loop-i-preserved : goal.loop-i-preserved
unfolding zero_key
loop-i-preserved c =
    let add = c.add-rows in
    let l = c.loop-i in
    let a = c.args in
    let q = add.ensures in
    let k : length add.new.table ≡ length l.table = add.auto.table in
    let key = c.key-key in
    let y = laid-by-search l.table key.result.now l.rows (omega arith) c.row_for-found.ensures c.unwrap_or.ensures q.table_after q.value in (
      k ∙ l.invariant.0,
      simp length-set l.invariant.1,
      omega (arith, y.2, one-row c.unwrap_or.result l.rows),
      omega (arith, k, l.invariant.3),
      lay-next (key_of a.keys.now) _ a.row.now l.i (record { table = l.table; row = l.row; rows = l.rows }) l.invariant.4 key.ensures y.0 y.1 y.2,
      simp length-set l.invariant.5,
      ends_more l.table key.result.now l.ends l.rows c.unwrap_or.result l.invariant.6 (omega arith) c.byte.ensures (omega (arith, l.invariant.5)) y.1 y.2,
    )

pub returns : goal.returns
unfolding with_state zero_key
returns c =
    let l = c.loop-i in
    let a = c.args in
    let n : l.i ≡ key_count a.keys.now = omega arith in
    rw n at l.invariant.4
