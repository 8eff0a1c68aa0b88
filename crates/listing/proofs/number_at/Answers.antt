-- The flag decides between a dash and the number.
-- Assumes nothing.
use Rattle.std.proofs.Common.{sym, ◌∙◌, get_or}
use borrow.Author.Tests.{eq-eqb, ne_eqb}
use Rattle.listing.specs.Listing.{optional, optional_text}
use Rattle.listing.proofs.number_at.Goals as goal

pub returns-then-byte-eq0 : goal.returns-then-byte-eq0
unfolding optional optional_text
returns-then-byte-eq0 c = rw (eq-eqb (get_or c.args.row.now c.args.flag 0) 0 (sym c.byte.ensures ∙ c.if-byte-eq0.true))

pub returns : goal.returns
unfolding optional optional_text
returns c = rw (ne_eqb (get_or c.args.row.now c.args.flag 0) 0 (λ e. c.if-byte-eq0.false (c.byte.ensures ∙ e)), ← c.u32_at.ensures)
