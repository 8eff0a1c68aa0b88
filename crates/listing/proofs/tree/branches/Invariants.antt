-- The lines before i stand behind what was there.
-- Assumes nothing.
use Rattle.std.proofs.Common.{◌≡◌, ◌++◌}
use Rattle.std.specs.Prelude.{string_bytes}
use Rattle.subtrees.specs.Subtrees.{positions}
use Rattle.listing.specs.Tree.{branch_of, first_lines}
use Rattle.listing.proofs.tree.branches.Given as goal

abbrev pub invariant-loop-i : goal.invariant-loop-i
invariant-loop-i l =
    string_bytes l.text ≡ string_bytes l.initial.text ++ first_lines (branch_of (positions l.places l.n) l.own) l.i
