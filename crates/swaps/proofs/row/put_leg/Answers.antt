-- Each call stores one part of the row, which the parts fill (`row_in`), and the last one puts the row.
-- Assumes nothing.
use Rattle.std.proofs.Common.{rules, ◌≡◌, refl, ap}
use Rattle.std.specs.Prelude.{option_map}
use Rattle.std.proofs.lemmas.List.Edits.{sets}
use Rattle.wire.proofs.Sets.{sets-past}
use Rattle.wire.specs.Zeros.{zeros}
use Rattle.pack.specs.View.{pools_in}
use Rattle.swaps.specs.declared.Pair.{Pair}
use Rattle.swaps.specs.Row.{leg_width}
use Rattle.swaps.proofs.Rows.{row_in}
use Rattle.swaps.proofs.row.put_leg.Goals as goal

pub returns-then-out-at : goal.returns-then-out-at
returns-then-out-at c =
    let h = c.if-out-at.true in
    rw sets-past

pub returns : goal.returns
returns c =
    let a = c.args in
    let i : c.map.result ≡ option_map (λ (p : Pair). p.input) a.leg.pair = search rules in
    let o : c.map-2.result ≡ option_map (λ (p : Pair). p.output) a.leg.pair = search rules in
    rw (
      c.put.ensures,
      c.put_end.ensures,
      c.graduated.ensures,
      c.put_side-2.ensures,
      c.put_side.ensures,
      o,
      i,
      c.put_keys.ensures,
      c.put_byte.ensures,
      c.put_u32.ensures,
    )
    (ap (sets a.out.now a.at)
    (row_in (zeros leg_width) a.invocation a.keys.now a.program a.spent.now a.bought.now (pools_in a.pools.now) a.leg refl))
