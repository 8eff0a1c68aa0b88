-- The lines of the rows before i stand behind what was there.
-- Assumes nothing.
use Rattle.std.proofs.Common.{sym, append_assoc, append-nil}
use Rattle.std.specs.Prelude.{string_bytes}
use native.Mathlib.Nat.{add-sub_cancel_left}
use Rattle.listing.specs.Listing.{line, row_in, lines_from}
use Rattle.listing.proofs.Listing.{lines-next}
use Rattle.listing.proofs.lines.Goals as goal

pub loop-i-init : goal.loop-i-init
unfolding lines_from
loop-i-init c = sym (append-nil _)

pub loop-i-preserved : goal.loop-i-preserved
loop-i-preserved c =
    let l = c.loop-i in
    rw (lines-next c.args.rows.now l.i, ← append_assoc (string_bytes c.args.text.now) (lines_from c.args.rows.now l.i 0) (line (row_in c.args.rows.now l.i)), ← l.invariant)
    (simp add-sub_cancel_left at c.in_ok-write.ensures.bytes)
