-- The flag of each row is tested.
-- Assumes nothing.
use Rattle.std.proofs.Common.{ℕ, ◌*◌, ◌/◌, ◌%◌, Bool, rules, tests, refl, length, get_or}
use Rattle.std.proofs.lemmas.Iterator.{YieldsList-from_range}
use Rattle.std.proofs.lemmas.Iterator.Search.{all_from_yields_List}
use Rattle.pack.specs.Items.{keys_fill, rows_fill}
use Rattle.pack.proofs.Tests.{in-range}
use mathlib.Core.Path.{◌∙◌}
use native.Mathlib.Nat.{sub-zero}
use borrow.Author.Tests.{eq-eqb, ne_eqb}
use lib.Dec.{leb}
use Rattle.pack.proofs.whole.keys.Goals as goal

pub returns-then-s-eq0 : goal.returns-then-s-eq0
unfolding keys_fill rows_fill
returns-then-s-eq0 c =
    let s = c.args.s.now in
    let f : ℕ → Bool = λ i. leb (get_or s (i * 33) 0) 1 in
    let n = length s / 33 in
    let all = all_from_yields_List f _ _ c.all.result c.all.ensures.ran (YieldsList-from_range 0 n n refl (sub-zero n)) (λ x b q k. search (rules, tests)) in
    rw (eq-eqb (length s % 33) 0 c.if-s-eq0.true) (all ∙ in-range f n)

pub returns-else-s-eq0 : goal.returns-else-s-eq0
unfolding keys_fill rows_fill
returns-else-s-eq0 c = rw (ne_eqb (length c.args.s.now % 33) 0 c.if-s-eq0.false)
