-- The data stands behind the index bytes; where the header is cut short there is none.
-- Assumes nothing.
use mathlib.Core.Path.{◌≡◌, ap, ◌∙◌}
use mathlib.Core.List.{[]}
use native.Mathlib.Omega.{arith}
use native.Mathlib.Nat.{add_assoc}
use Prim.Native.Nat.{ℕ, ◌+◌}
use lib.ListN.{length, drop, length-drop, drop_of_length-le}
use lib.Seq.{drop-drop, take-nil}
use Rattle.wire.specs.Le.{le}
use Rattle.pack.specs.Invocation.{instruction_at}
use Rattle.pack.proofs.Slices.{le_from}
use Rattle.pack.proofs.item.data.Goals as goal

pub returns-then-item-lt8 : goal.returns-then-item-lt8
unfolding instruction_at
returns-then-item-lt8 c =
    let p = c.args.pack.now in
    let at = c.args.at in
    let short = ap length c.rest-item.ensures ∙ length-drop at p in
    let none : drop (at + 8 + le 2 p (at + 4)) p ≡ [] = drop_of_length-le p (omega (arith, short, c.if-item-lt8.true)) in
    rw (none, take-nil)

pub returns : goal.returns
unfolding instruction_at
returns c =
    let p = c.args.pack.now in
    let at = c.args.at in
    let accounts : ℕ = le 2 p (at + 4) in
    rw (c.first.ensures, c.rest.ensures, c.two.ensures, c.two-2.ensures, c.rest-item.ensures, le_from p at 2 4, le_from p at 2 6, drop-drop (8 + accounts) at p, ← add_assoc at 8 accounts)
