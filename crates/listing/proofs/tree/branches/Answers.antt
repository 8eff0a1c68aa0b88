-- The lines before i stand behind what was there.
-- Assumes nothing.
use Rattle.std.proofs.Common.{ℕ, ◌≡◌, ◌≤◌, List, ◌++◌, ◌∙◌, sym, ap, arith, append_assoc, append-nil, length}
use Rattle.std.specs.Prelude.{string_bytes}
use Rattle.pack.specs.declared.position.Place.{Place}
use Rattle.finder.specs.Children.{children_of}
use Rattle.finder.proofs.Claims.{children-few}
use Rattle.subtrees.specs.Subtrees.{positions, taken}
use Rattle.subtrees.proofs.Arrays.{positions-length, taken-all}
use lib.Seq.{length-take-le}
use Rattle.listing.specs.Tree.{branch_of, first_lines}
use Rattle.listing.proofs.Drawing.{branch-found, branches-more}
use Rattle.listing.proofs.tree.branches.Goals as goal

-- how many children there are
few : (places : List Place) (n i r : ℕ) → n ≤ 1024 → r ≡ length (children_of (positions places (taken n)) i) → r ≤ 1024
few places n i r h e =
    let q : r ≡ length (children_of (positions places n) i) = rw (taken-all n h) at e in
    omega (arith, q, children-few (positions places n) i, positions-length places n)

pub loop-i-init : goal.loop-i-init
unfolding first_lines
loop-i-init c = sym (append-nil _)

pub slice_bounds-children-end : goal.slice_bounds-children-end
slice_bounds-children-end c =
    let a = c.args in
    let k = few a.places.now a.n c.loop-i.i c.children-count.result c.requires c.children-count.ensures.1 in
    sym (length-take-le c.children-count.result c.children-count.new.list (omega (arith, k, c.children-count.array_long)))

pub slice_bounds-list-end : goal.slice_bounds-list-end
slice_bounds-list-end c =
    let a = c.args in
    omega (arith, few a.places.now a.n c.loop-i.i c.children-count.result c.requires c.children-count.ensures.1)

pub loop-i-preserved : goal.loop-i-preserved
loop-i-preserved c =
    let a = c.args in
    let l = c.loop-i in
    let before = string_bytes a.text.now in
    let line = branch_of (positions a.places.now a.n) a.own.now in
    let found =
    branch-found (positions a.places.now (taken a.n)) a.own.now l.i c.block-found.result _ c.children-count.result c.block-found.ensures c.children-count.ensures.0
    c.children-count.ensures.1 in
    c.in_ok-write.ensures.bytes
    ∙ ap (λ (t : List ℕ). string_bytes l.text ++ t) (rw (taken-all a.n c.requires) at found)
    ∙ ap (λ (t : List ℕ). t ++ line l.i) l.invariant
    ∙ append_assoc before (first_lines line l.i) (line l.i)
    ∙ ap (λ (t : List ℕ). before ++ t) (sym (branches-more line l.i))
