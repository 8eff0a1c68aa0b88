-- The key that is put is the one that is looked up, and the stand-in is the zero key.
-- Assumes nothing.
use mathlib.Core.Path.{◌∙◌}
use Rattle.ids.specs.Keys.{zero_key}
use Rattle.ids.proofs.put_key.Goals as goal

pub returns : goal.returns
unfolding zero_key
returns c = c.put.ensures ∙ rw c.key.ensures
