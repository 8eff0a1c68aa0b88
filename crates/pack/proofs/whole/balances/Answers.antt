-- The account index of each row is tested.
-- Assumes nothing.
use Rattle.std.proofs.Common.{ℕ, ◌*◌, ◌/◌, Bool, rules, tests, refl, length, get_or}
use Rattle.std.proofs.lemmas.Iterator.{YieldsList-from_range}
use Rattle.std.proofs.lemmas.Iterator.Search.{all_from_yields_List}
use Rattle.wire.specs.Le.{le}
use Rattle.pack.specs.View.{balances_in, balances_named}
use Rattle.pack.proofs.Tests.{in-range, same-below}
use Rattle.pack.proofs.Rows.{balance-row, balances-length}
use mathlib.Core.List.{[]}
use native.Mathlib.Nat.{sub-zero}
use lib.Dec.{ltb}
use mathlib.Core.Path.{◌∙◌}
use Rattle.pack.proofs.whole.balances.Goals as goal

pub returns : goal.returns
unfolding balances_named
returns c =
    let s = c.args.s.now in
    let f : ℕ → Bool = λ i. ltb (le 4 s (i * 36)) c.args.keys in
    let n = length s / 36 in
    let all = all_from_yields_List f _ _ c.all.result c.all.ensures.ran (YieldsList-from_range 0 n n refl (sub-zero n)) (λ x b q k. search (rules, tests)) in
    let same = same-below f (λ i. ltb (get_or (balances_in s) i (0, [])).0 c.args.keys) n (λ i h. rw (balance-row s i (0, []) h)) in
    rw balances-length (all ∙ in-range f n ∙ same)
