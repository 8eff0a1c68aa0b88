-- The end of what is left is the end of all.
-- Assumes nothing.
use Rattle.pack.specs.Items.{inners_end}
use Rattle.pack.proofs.Walk.{inners-grow}
use Rattle.pack.proofs.Places.{member-end}
use Prim.Native.Nat.{ℕ, ◌-◌}
use native.Mathlib.Omega.{arith}
use mathlib.Core.Path.{◌≡◌, ◌∙◌}
use Rattle.pack.proofs.chain.inners_end.Goals as goal

pub overflow_add-to : goal.overflow_add-to
overflow_add-to c = let l = c.loop in let a = c.args in let g = inners-grow a.s.now (a.n - l.counter) l.to in omega (arith, c.loop.invariant)

pub item_end-to-requires : goal.item_end-to-requires
item_end-to-requires c = let l = c.loop in let a = c.args in let g = inners-grow a.s.now (a.n - l.counter) l.to in omega (arith, c.loop.invariant)

pub loop-preserved : goal.loop-preserved
loop-preserved c =
    let l = c.loop in
    let a = c.args in
    rw c.item_end-to.ensures (member-end (λ (x : ℕ). x) a.s.now 0 0 a.n l.counter l.to (omega arith) ∙ l.invariant)

pub returns : goal.returns
unfolding inners_end
returns c =
    let l = c.loop in
    let a = c.args in
    let z : a.n - l.counter ≡ 0 = omega arith in
    rw z at l.invariant
