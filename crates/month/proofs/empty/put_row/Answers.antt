-- The line, and right behind it the part that was lent and came back zero.
use Rattle.std.proofs.Common.{◌≡◌, ◌+◌, ◌-◌, length, take, drop, ◌∙◌, arith, length-drop, length-take-le}
use lib.Seq.{sets, length-sets}
use Rattle.wire.specs.Zeros.{zeros}
use Rattle.wire.proofs.Sets.{sets-next}
use Rattle.month.proofs.Moves.{part-back}
use Rattle.month.proofs.empty.put_row.Goals as goal

pub returns : goal.returns
returns c =
    let a = c.args in
    let d = a.report.now in
    let at = a.at in
    let xs = sets d at a.line.now in
    let long : length xs ≡ length d = length-sets d at a.line.now in
    let size : at + 118 - (at + 66) ≡ 52 = omega arith in
    let part : length (take (at + 118 - (at + 66)) (drop (at + 66) xs)) ≡ 52 = rw size (length-take-le 52 (drop (at + 66) xs) (rw length-drop (omega arith))) in
    rw (c.fill.ensures.after (λ y e. e), c.put.ensures, part)
    (part-back xs (zeros 52) (at + 66) (at + 118) (omega arith) (omega arith) (omega arith)
    ∙ sets-next d at a.line.now (zeros 52) (at + 66) (omega arith))
