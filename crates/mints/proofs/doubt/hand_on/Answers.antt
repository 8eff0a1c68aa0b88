-- The marks are set in the table that the passes leave, whose length is that of the table before; there is a label for each row.
use Rattle.mints.specs.Doubt.{doubts_of, handed_on}
use Rattle.std.proofs.lemmas.Result.{err_from_is_err_and}
use lib.ListN.{length-take}
use Prim.Native.Nat.{ℕ}
use mathlib.Core.Path.{◌≡◌, ap, ◌∙◌}
use native.Mathlib.Omega.{arith}
use Rattle.mints.proofs.doubt.hand_on.Goals as goal

pub returns-in_err-ran : goal.returns-in_err-ran
unfolding handed_on
returns-in_err-ran c =
    let p = err_from_is_err_and c.from_residual.result c.from_residual.ensures.1 in
    rw p.1 c.in_err-ran.ensures

pub returns : goal.returns
unfolding handed_on
returns c =
    let a = c.args in
    let p = c.requires in
    let marks : c.doubts_with.new.table ≡ doubts_of a.transfers.now c.run.new.table a.rows = c.doubts_with.ensures ∙ ap (λ (m : ℕ). doubts_of a.transfers.now c.run.new.table m) (simp length-take (omega (arith, p.bounds.2))) in
    rw (c.in_ok-ran.ensures, marks)
