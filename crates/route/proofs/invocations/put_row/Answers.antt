-- The eight fields are stored one behind the other, and fill the row.
use Rattle.route.proofs.Row.{fields}
use Rattle.pack.specs.Invocation.{position_of}
use Rattle.wire.specs.Zeros.{zeros}
use lib.Seq.{sets}
use mathlib.Core.Path.{refl, ap}
use Rattle.route.specs.Widths.{invocation_width}
use Rattle.route.proofs.invocations.put_row.Goals as goal

pub returns : goal.returns
unfolding position_of
returns c =
    let a = c.args in
    rw (
      c.put.ensures,
      c.put_byte-2.ensures,
      c.put_u32-4.ensures,
      c.put_u32-3.ensures,
      c.put_byte.ensures,
      c.put_u32-2.ensures,
      c.put_flagged-2.ensures,
      c.put_flagged.ensures,
      c.put_u32.ensures,
      c.from.ensures,
    )
    (ap (sets a.out.now a.at) (fields (zeros invocation_width) (position_of a.held.place) a.held.end a.held.bits a.held.leg a.held.parent a.held.reason refl))
