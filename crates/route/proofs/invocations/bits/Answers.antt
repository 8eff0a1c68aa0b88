-- Each summand is a part of the definition's sum, and all bits together stay below 64.
use Rattle.route.specs.Arrays.{bits_at}
use Rattle.route.proofs.Row.{program_bits-le, own_bits-le}
use Rattle.ids.specs.declared.Id.TheVariants.{SplToken}
use lib.ListN.{get_or}
use native.Mathlib.Omega.{arith}
use Rattle.route.proofs.invocations.bits.Goals as goal

pub overflow_add-result : goal.overflow_add-result
overflow_add-result c =
    omega (arith, c.program_bits.ensures, program_bits-le (get_or c.args.programs.now c.args.i SplToken), c.requires.1)

pub overflow_add-result-2 : goal.overflow_add-result-2
overflow_add-result-2 c =
    omega (
      arith,
      c.own_bits.ensures,
      c.program_bits.ensures,
      program_bits-le (get_or c.args.programs.now c.args.i SplToken),
      own_bits-le (get_or c.args.reasons.now c.args.i 0) (get_or c.args.leg.now c.args.i 0),
      c.requires.1,
    )

pub returns : goal.returns
unfolding bits_at
returns c = rw (c.own_bits.ensures, c.program_bits.ensures)
