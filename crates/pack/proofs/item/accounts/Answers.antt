-- The index bytes stand behind the header; where that is cut short there are none.
-- Assumes nothing.
use mathlib.Core.Path.{◌≡◌, ap, ◌∙◌}
use mathlib.Core.List.{[]}
use native.Mathlib.Omega.{arith}
use Prim.Native.Nat.{◌+◌, ◌-◌}
use lib.ListN.{length, take, drop, length-drop, drop_of_length-le}
use lib.Seq.{drop-drop, take-length, take-nil}
use Rattle.pack.specs.Invocation.{instruction_at}
use Rattle.pack.proofs.Slices.{le_from}
use Rattle.pack.proofs.item.accounts.Goals as goal

pub returns-then-item-lt8 : goal.returns-then-item-lt8
unfolding instruction_at
returns-then-item-lt8 c =
    let p = c.args.pack.now in
    let short = ap length c.rest-item.ensures ∙ length-drop c.args.at p in
    let none : drop (c.args.at + 8) p ≡ [] = drop_of_length-le p (omega (arith, short, c.if-item-lt8.true)) in
    rw (none, take-nil)

pub returns : goal.returns
unfolding instruction_at
returns c =
    let p = c.args.pack.now in
    let at = c.args.at in
    let item = c.rest-item.result.now in
    let behind : take (length item - 8) (drop 8 item) ≡ drop 8 item = rw (← length-drop) (take-length _) in
    rw (c.first.ensures, behind, c.two.ensures, c.rest-item.ensures, le_from p at 2 4, drop-drop 8 at p)
