-- Each pair of starts is tested.
-- Assumes nothing.
use Rattle.std.proofs.Common.{ℕ, ◌+◌, Bool, rules, tests, refl}
use Rattle.std.proofs.lemmas.Iterator.{YieldsList-from_range}
use Rattle.std.proofs.lemmas.Iterator.Search.{all_from_yields_List}
use Rattle.pack.specs.Sections.{start_of, ordered}
use Rattle.pack.proofs.Tests.{in-range}
use mathlib.Core.Path.{sym, ◌∙◌}
use borrow.Author.Tests.{eq-eqb, ne_eqb}
use lib.Dec.{leb}
use Rattle.pack.proofs.trailer.ordered.Goals as goal

pub returns-then-start-eq0 : goal.returns-then-start-eq0
unfolding ordered
returns-then-start-eq0 c =
    let p = c.args.pack.now in
    let f : ℕ → Bool = λ k. leb (start_of p k) (start_of p (k + 1)) in
    let all = all_from_yields_List f _ _ c.all.result c.all.ensures.ran (YieldsList-from_range 0 5 5 refl refl) (λ x b q k. search (rules, tests)) in
    rw (eq-eqb (start_of p 0) 0 (sym c.start.ensures ∙ c.if-start-eq0.true)) (all ∙ in-range f 5)

pub returns-else-start-eq0 : goal.returns-else-start-eq0
unfolding ordered
returns-else-start-eq0 c = let p = c.args.pack.now in rw (c.start.ensures, ne_eqb (start_of p 0) 0 (λ e. c.if-start-eq0.false (c.start.ensures ∙ e)))
