-- The table is the ids, byte for byte, and its 448 bytes hold row k whole.
-- Assumes nothing.
use native.Mathlib.Nat.{add-sub_cancel_left}
use mathlib.Core.Path.{◌∙◌}
use Rattle.ids.specs.Ids.{ids}
use Rattle.ids.proofs.is_row.Goals as goal

pub returns : goal.returns
unfolding ids
returns c = c.equal.ensures ∙ rw add-sub_cancel_left
