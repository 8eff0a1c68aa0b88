-- Writing the instructions that are left from here leaves what writing all of them leaves, in both arrays.
-- Assumes nothing.
use Rattle.pack.specs.Items.{group_end}
use Rattle.pack.specs.Layout.{raised, at_of, place_held}
use Rattle.pack.proofs.Walk.{inners-grow, inners-length}
use Rattle.pack.proofs.Counting.{numbered-length}
use Rattle.pack.proofs.Places.{group-grows, member-next, member-end, member-last}
use Prim.Native.Nat.{ℕ, ◌+◌, ◌-◌, ◌≤◌}
use native.Mathlib.Nat.{sub-zero, add-zero}
use native.Mathlib.Numerals.{add-one}
use native.Mathlib.Omega.{arith}
use mathlib.Core.Path.{refl, sym, ◌∙◌}
use lib.ListN.{length}
use Rattle.pack.proofs.flat.members.Goals as goal
use Rattle.pack.proofs.flat.members.Goals.{In-loop-j}

-- the fixed part of the next instruction lies in the section
reach : (c : In-loop-j) → c.loop-j.to + 13 ≤ length c.args.s.now
reach c =
    let l = c.loop-j in
    let q = c.requires in
    let g = inners-grow c.args.s.now (c.u16_at-count.result - l.j) l.to in
    omega (arith, l.invariant.ends, q.1)

pub overflow_add-to : goal.overflow_add-to
overflow_add-to c = omega (arith, group-grows c.args.s.now c.args.g)

pub overflow_add-g : goal.overflow_add-g
overflow_add-g c = omega (arith, group-grows c.args.s.now c.args.g)

pub height_code-requires : goal.height_code-requires
height_code-requires c = omega (arith, reach (goal.at.height_code-requires c).In-loop-j)

pub overflow_add-header : goal.overflow_add-header
overflow_add-header c = omega (arith, reach (goal.at.overflow_add-header c).In-loop-j)

pub overflow_add-at : goal.overflow_add-at
overflow_add-at c = omega (arith, reach (goal.at.overflow_add-at c).In-loop-j)

pub overflow_cast-at : goal.overflow_cast-at
overflow_cast-at c = omega (arith, reach (goal.at.overflow_cast-at c).In-loop-j)

pub item_end-to-requires : goal.item_end-to-requires
item_end-to-requires c = omega (arith, reach (goal.at.item_end-to-requires c).In-loop-j)

pub loop-j-init : goal.loop-j-init
unfolding group_end
loop-j-init c = record { ends = simp sub-zero (rw c.u16_at-count.ensures); ats = simp (sub-zero, add-zero); runs = simp (sub-zero, add-zero) }

pub loop-j-preserved : goal.loop-j-preserved
unfolding raised
loop-j-preserved c =
    let l = c.loop-j in
    let a = c.args in
    let s = a.s.now in
    let n = c.u16_at-count.result in
    let m = l.j in
    let r : ℕ → ℕ = λ (x : ℕ). a.way.base + x in
    let e = c.item_end-to.ensures in
    let last = member-end r s a.way.outer a.way.index n m l.to (omega arith) in
    record {
      ends = rw e (last ∙ l.invariant.ends);
      ats = rw e (member-next r s a.way.outer a.way.index n m l.to (omega arith) at_of l.at (a.way.base + (l.to + 5)) refl ∙ l.invariant.ats);
      runs = rw e (member-next r s a.way.outer a.way.index n m l.to (omega arith) place_held l.places _ (rw (c.height_code.ensures, add-one m)) ∙ l.invariant.runs);
    }

pub returns : goal.returns
returns c =
    let l = c.loop-j in
    let a = c.args in
    let s = a.s.now in
    let u = c.u16_at-count in
    let r : ℕ → ℕ = λ (x : ℕ). a.way.base + x in
    rw (← u.ensures)
    (record {
      count = rw (numbered-length, inners-length);
      ats = sym (member-last r s a.way.outer a.way.index u.result l.j l.to (omega arith) at_of l.at) ∙ l.invariant.ats;
      runs = sym (member-last r s a.way.outer a.way.index u.result l.j l.to (omega arith) place_held l.places) ∙ l.invariant.runs;
    })
