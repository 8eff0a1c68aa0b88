-- The pieces are the text.
-- Assumes nothing.
use Rattle.std.proofs.Common.{arith}
use Rattle.listing.specs.Listing.{optional_text}
use Rattle.listing.proofs.Texts.{spaced-text}
use Rattle.listing.proofs.OptionalDisplay.fmt.Goals as goal

pub returns-in-None-clause-writes : goal.returns-in-None-clause-writes
unfolding optional_text
returns-in-None-clause-writes g c = rw c.in-None.is c.write.ensures.writes

pub returns-in-Some-clause-writes : goal.returns-in-Some-clause-writes
unfolding optional_text
returns-in-Some-clause-writes g c = rw (c.in-Some.is, ← spaced-text c.in-Some.number (omega arith)) c.write-in-Some.ensures.writes
