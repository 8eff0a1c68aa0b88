-- A pack that is refused has no layout; any other is filled in.
-- Assumes nothing.
use Rattle.std.proofs.lemmas.Result.{err_from_is_err_and}
use Rattle.pack.specs.Invocation.{blank_place}
use Rattle.pack.proofs.Filled.{laid_none}
use mathlib.Core.Path.{refl}
use Rattle.pack.proofs.flat.flatten.Goals as goal

pub returns-in_err-judge-clause-arrays : goal.returns-in_err-judge-clause-arrays
unfolding blank_place
returns-in_err-judge-clause-arrays c =
    let y = err_from_is_err_and c.from_residual.result c.from_residual.ensures.1 in
    rw (y.1, laid_none c.args.pack.now c.in_err-judge.field-0.0 c.in_err-judge.ensures) (record { count = refl; ats = refl; runs = refl })

pub returns-clause-arrays : goal.returns-clause-arrays
unfolding blank_place
returns-clause-arrays c = c.fill.ensures
