-- Fields stored each where the one before it ends are one run (`sets-append`).
-- Assumes nothing.
use Rattle.std.proofs.Common.{◌≡◌, Bool, true, false, refl, length-append}
use Rattle.std.specs.Int.{from_bool}
use Rattle.wire.proofs.Sets.{sets-append}
use Rattle.wire.proofs.Laws.{le_bytes-length}
use Rattle.swaps.specs.Row.{bit, end_bytes}
use Rattle.swaps.proofs.row.put_end.Goals as goal

-- a bool as a number is the definition's bit
bit-from : (b : Bool) → from_bool b ≡ bit b
bit-from true = refl
bit-from false = refl

pub returns : goal.returns
unfolding end_bytes
returns c =
    rw (
      c.put_byte-3.ensures,
      c.put_byte-2.ensures,
      c.put_u64-2.ensures,
      c.put_u64.ensures,
      c.put_byte.ensures,
      c.from-2.ensures,
      c.from.ensures,
    )
    (simp (bit-from, sets-append, length-append, le_bytes-length))
