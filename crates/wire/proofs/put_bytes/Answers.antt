-- Stores past the end do nothing.
-- Assumes nothing.
use mathlib.Core.Path.{sym}
use Rattle.wire.proofs.Sets.{sets-past}
use Rattle.wire.proofs.put_bytes.Goals as goal

pub returns-then-d-at : goal.returns-then-d-at
returns-then-d-at g c = sym (sets-past c.args.d.now c.args.at c.args.bytes c.if-d-at.true)
