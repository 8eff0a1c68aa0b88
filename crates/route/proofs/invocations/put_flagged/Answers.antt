-- A number that comes one higher is none where it is 0, and is lowered else; flag and number are stored one behind the other.
use Rattle.route.specs.Row.{flagged}
use Rattle.route.proofs.Row.{lowered-above}
use Rattle.pack.specs.Invocation.{lowered}
use Rattle.wire.proofs.Laws.{le_bytes-low}
use Prim.Native.Nat.{◌-◌}
use native.Mathlib.Numerals.{add-one}
use Rattle.route.proofs.invocations.put_flagged.Goals as goal

pub returns-then-raised-eq0 : goal.returns-then-raised-eq0
unfolding flagged lowered
returns-then-raised-eq0 c =
    rw (c.put_u32.ensures, c.put_byte.ensures, c.if-raised-eq0.true, add-one)

pub returns : goal.returns
unfolding flagged
returns c =
    let n = c.args.raised in
    rw
    (c.put_u32-2.ensures, c.put_byte-2.ensures, lowered-above n c.if-raised-eq0.false, le_bytes-low 4 (n - 1), add-one)
