-- The numbers so far are written.
-- Assumes nothing.
use Rattle.std.proofs.Common.{take}
use Rattle.std.specs.Fmt.{HasWritten, IsPlainFormatter}
use Rattle.listing.specs.Tree.{spaced_all}
use Rattle.listing.proofs.tree.NumbersDisplay.fmt.Given as goal

abbrev pub invariant-loop-number : goal.invariant-loop-number
invariant-loop-number g l =
    IsPlainFormatter l.initial.f → HasWritten g.W.Write.write_str_gives l.initial.f (spaced_all (take l.number-index l.number-items)) l.f
