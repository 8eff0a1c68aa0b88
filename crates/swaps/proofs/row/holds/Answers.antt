-- The chunks are the rows, and the search asks each whether it is the key.
-- Assumes nothing.
use Rattle.std.proofs.Common.{rules, ◌∙◌, [], length, get_or, refl, ap, sym}
use native.Mathlib.Nat.{zero-add, sub-zero}
use Rattle.std.proofs.lemmas.Iterator.{YieldsList-from_range}
use Rattle.std.proofs.lemmas.Iterator.Search.{any_from_yields_List}
use Rattle.std.specs.List.{list_any}
use Rattle.wire.specs.Same.{same}
use Rattle.pack.specs.View.{pools_in}
use Rattle.swaps.proofs.Pools.{contains-any, rows-chunks, any-place}
use Rattle.swaps.proofs.row.holds.Goals as goal

pub returns : goal.returns
unfolding pools_in
returns c =
    let key = c.args.key.now in
    let rows = c.as_chunks.result.0.now in
    let n = length rows in
    let found = any_from_yields_List (λ i. same (get_or rows i []) key) _ _ _ c.any.ensures.ran (YieldsList-from_range 0 n n refl (sub-zero n)) (λ x b q k. search rules) in
    found
    ∙ (any-place key (λ i. get_or rows i []) 0 rows (λ k. simp zero-add refl)
    ∙ (ap (list_any (λ p. same p key)) (c.as_chunks.ensures.front ∙ rows-chunks 32 _ c.args.pools.now) ∙ sym (contains-any _ key)))
