-- Flag and mint lie side by side, a mint that is absent is 33 zeros, and nothing can be written past the end.
-- Assumes nothing.
use mathlib.Core.Path.{sym, ◌∙◌}
use native.Mathlib.Numerals.{add-one}
use Rattle.ids.specs.Mints.{mint_of, mint_field}
use Rattle.wire.proofs.Sets.{sets-past}
use Rattle.ids.proofs.put_mint.Goals as goal

pub returns-then-out-at : goal.returns-then-out-at
returns-then-out-at c =
    let a = c.args in
    sym (sets-past a.out.now a.at (mint_field (mint_of a.mint.now)) c.if-out-at.true)

pub returns-then-is_mint : goal.returns-then-is_mint
unfolding mint_of
returns-then-is_mint c =
    rw (c.put.ensures, c.put_byte.ensures, sym c.is_mint.ensures ∙ c.if-is_mint.true, add-one)

pub returns-else-is_mint : goal.returns-else-is_mint
unfolding mint_of
returns-else-is_mint c =
    rw (c.put-else-is_mint.ensures, sym c.is_mint.ensures ∙ c.if-is_mint.false)
