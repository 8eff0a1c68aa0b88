-- The three calls write what they promise: the ordered rows, their bytes, and the mints by key index; ordered rows are whole rows of the table.
use Rattle.mints.proofs.Sorting.{sort-first, sort-fits, sort-length}
use Rattle.mints.proofs.Writing.{mints-take}
use lib.Seq.{length-take-le}
use lib.ListN.{length, take, length-take}
use mathlib.Core.Path.{◌≡◌, ap, ◌∙◌}
use native.Mathlib.Omega.{arith}
use Rattle.mints.proofs.publish.Goals as goal

pub write_rows-requires : goal.write_rows-requires
write_rows-requires c =
    let sort = c.sort-k in
    let t = c.args.table.now in
    let n = c.args.rows in
    let q = sort.ensures in
    let e = sort-first t n (omega arith) in
    let o : length sort.new.order ≡ 257 = sort.auto.order in (
      simp length-take (omega (arith, q.0, ap length e, sort-length t n)),
      rw (q.1, e) (sort-fits t n (omega arith) (omega arith)),
    )

pub returns : goal.returns
returns c =
    let q = c.sort-k.ensures in
    let a = c.args in
    let s = sort-first a.table.now a.rows (omega arith) in
    let e : length (take a.n a.row.now) ≡ a.n = length-take-le a.n a.row.now c.requires.rows_bound.1 in
    record { value = q.0 ∙ ap length s; out_after = c.write_rows.ensures ∙ rw (q.1, s); known_after = c.write_mints.ensures ∙ rw (e, mints-take a.table.now a.row.now a.n a.n (omega arith)) }
