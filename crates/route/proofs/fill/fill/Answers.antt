-- `flatten` and `infer` leave the arrays that the tables of the definition are made of, and the function of each table puts its rows from them.
use Rattle.pack.specs.Verdict.{refusal_number}
use Rattle.route.proofs.Filling.{few, at_length, Begun, begun}
use Rattle.route.proofs.Finishing.{finished}
use Rattle.route.proofs.Success.{numbers, never, recast, filled, handed-on, refused-names, refused-pack}
use native.Mathlib.Omega.{arith}
use mathlib.Core.Path.{sym, ap, ◌∙◌}
use Rattle.route.proofs.fill.fill.Goals as goal
use Rattle.route.proofs.fill.fill.Goals.{After-infer}

pub returns-then-names-ne88 : goal.returns-then-names-ne88
returns-then-names-ne88 c = refused-names c.if-names-ne88.true

pub returns-in_err-n : goal.returns-in_err-n
returns-in_err-n c = rw (handed-on c.from_residual.ensures.1) (refused-pack c.if-names-ne88.false (sym c.in_err-n.ensures.verdict))

pub slice_bounds-infer-end : goal.slice_bounds-infer-end
slice_bounds-infer-end c =
    let p = c.args.pack.now in
    let f = c.flatten.new in
    let e = sym (ap refusal_number c.in_ok-n.ensures.verdict) in
    let w = c.in_ok-n.ensures.arrays in
    omega (arith, few p c.in_ok-n.n f.at f.places e w, at_length p c.in_ok-n.n f.at f.places e w)

-- what is known once the mints are inferred
began : (m : After-infer) → Begun m.args.pack.now m.in_ok-n.n m.flatten.new.at m.flatten.new.places m.args.t0.now m.infer.new.rows m.infer.new.known m.infer.new.programs m.infer.result
began m =
    let f = m.flatten.new in
    let i = m.infer.ensures in
    begun m.args.pack.now m.in_ok-n.n f.at f.places (sym (ap refusal_number m.in_ok-n.ensures.verdict)) m.in_ok-n.ensures.arrays m.section.result.now m.section-2.result.now m.section.ensures m.section-2.ensures
    m.args.t0.now i.value i.rows_after i.known_after i.programs_after

pub returns-in_err-made : goal.returns-in_err-made
returns-in_err-made c =
    let b = began (goal.at.returns-in_err-made c).After-infer in
    absurd (never b.table (sym c.in_err-made.was ∙ b.answer))

pub put_rows-transfers-requires : goal.put_rows-transfers-requires
put_rows-transfers-requires c = let b = began (goal.at.put_rows-transfers-requires c).After-infer in (b.few, b.kept)

pub put_rows-legs-requires : goal.put_rows-legs-requires
put_rows-legs-requires c = let b = began (goal.at.put_rows-legs-requires c).After-infer in (b.few, b.kept)

pub put_rows-natives-requires : goal.put_rows-natives-requires
put_rows-natives-requires c = let b = began (goal.at.put_rows-natives-requires c).After-infer in (b.few, b.kept)

pub overflow_cast-answer : goal.overflow_cast-answer
overflow_cast-answer c =
    let b = began (goal.at.overflow_cast-answer c).After-infer in
    let k = numbers b.table (sym c.in_ok-made.was ∙ b.answer) in
    omega (arith, k.1, b.few_rows)

pub overflow_cast-answer-6 : goal.overflow_cast-answer-6
overflow_cast-answer-6 c =
    let b = began (goal.at.overflow_cast-answer-6 c).After-infer in
    let k = numbers b.table (sym c.in_ok-made.was ∙ b.answer) in
    omega (arith, k.2, b.few_passes)

pub returns : goal.returns
returns c =
    let b = began (goal.at.returns c).After-infer in
    let k = numbers b.table (sym c.in_ok-made.was ∙ b.answer) in
    let second = c.put_rows-transfers in
    let third = c.put_rows-legs in
    let fourth = c.put_rows-natives in
    let first = c.put_rows-tests in
    filled (record {
      tables = b.tables c.args.names.now;
      mints = b.mints;
      rows = b.rows;
      finished =
          recast k.0 k.1 k.2
          (finished {t0 = c.args.t0.now} {o0 = c.infer.new.rows} (record {
            few = b.few;
            known = b.kept;
            transfers = second.ensures.fills;
            reasoned = second.ensures.reasons_after;
            legs = third.ensures.fills;
            numbers = third.ensures.numbers;
            actions = fourth.ensures;
            rows = first.ensures;
            answer = c.fit.ensures;
            kept =
                record {
                  mints = c.infer.auto.rows;
                  invocations = first.auto.out;
                  transfers = second.auto.out;
                  legs = third.auto.out;
                  natives = fourth.auto.out;
                };
          }) b.table.rows b.holds);
      cleared = c.requires;
    }) c.if-names-ne88.false (sym (ap refusal_number c.in_ok-n.ensures.verdict))
