-- Keys of 32 bytes stored 32 bytes apart are one run (`sets-append`).
-- Assumes nothing.
use Rattle.std.proofs.Common.{length-append}
use Rattle.wire.proofs.Sets.{sets-append}
use Rattle.ids.proofs.Keys.{key-length}
use Rattle.swaps.specs.Row.{key_bytes}
use Rattle.swaps.proofs.row.put_keys.Goals as goal

pub returns : goal.returns
unfolding key_bytes
returns c =
    rw (
      c.put_key-5.ensures,
      c.put_key-4.ensures,
      c.put_key-3.ensures,
      c.put_key-2.ensures,
      c.put_key.ensures,
      c.from-4.ensures,
      c.from-3.ensures,
      c.from-2.ensures,
      c.from.ensures,
    )
    (simp (sets-append, length-append, key-length))
