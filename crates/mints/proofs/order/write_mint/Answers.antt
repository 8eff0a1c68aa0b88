-- A row with no mint has a zero mint by the definition, and zeros over zeros change nothing.
use Rattle.mints.proofs.Writing.{mint-none}
use Rattle.mints.specs.Order.{shown_mint}
use Rattle.ids.specs.Keys.{zero_key}
use Prim.Native.Nat.{◌*◌}
use mathlib.Core.Path.{refl, sym, ◌∙◌}
use Rattle.mints.proofs.order.write_mint.Goals as goal

pub returns-else-has_mint : goal.returns-else-has_mint
unfolding shown_mint zero_key
returns-else-has_mint c =
    let e = sym c.has_mint.ensures ∙ c.if-has_mint.false in
    (mint-none c.args.out.now c.args.table.now (c.args.i * 32) c.args.r c.requires.2 e, rw e refl)
