-- The numbers so far are written.
-- Assumes nothing.
use Rattle.std.proofs.Common.{rules, arith}
use Rattle.std.proofs.Output.{has_written_append, has_written_of_eq}
use Rattle.listing.specs.Tree.{spaced_all}
use Rattle.listing.proofs.Texts.{spaced-written}
use Rattle.listing.proofs.tree.NumbersDisplay.fmt.Goals as goal

pub loop-number-init : goal.loop-number-init
unfolding spaced_all
loop-number-init g c = search rules

pub loop-number-preserved : goal.loop-number-preserved
loop-number-preserved g c p =
    let l = c.loop-number in
    let e = spaced-written c.args.self.now.0.now l.number-index (omega arith) (omega arith) in
    has_written_of_eq _ _ _ _ _ e (has_written_append _ _ _ _ _ _ (l.invariant p) (search rules))
