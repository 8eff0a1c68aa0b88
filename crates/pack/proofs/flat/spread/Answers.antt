-- Writing the outer instructions that are left, each with its groups, leaves what writing all of them leaves.
-- Assumes nothing.
use Rattle.pack.specs.Invocation.{Position}
use Rattle.pack.specs.Items.{item_end, outers_at, groups_at}
use Rattle.pack.specs.Flatten.{inside, outermost}
use Rattle.pack.specs.Layout.{placed_at, raised, at_of, place_held}
use Rattle.pack.proofs.Places.{Reached, reached-first, reached-next}
use Rattle.pack.proofs.Filled.{Ready, ready}
use Rattle.pack.proofs.Spread.{rest-cons, rest-nil, wrote-outer}
use Prim.Native.Nat.{ℕ, ◌+◌, ◌≤◌, ◌<◌}
use native.Mathlib.Nat.{sub-zero, zero-add, add-zero}
use native.Mathlib.Omega.{arith}
use mathlib.Core.Path.{◌≡◌, refl, sym, ap, ◌∙◌}
use Rattle.pack.specs.Group.{Group}
use mathlib.Core.List.{List, ◌∷◌, ◌++◌, map}
use lib.ListN.{length, length-append}
use Rattle.pack.proofs.flat.spread.Goals as goal
use Rattle.pack.proofs.flat.spread.Goals.{After-start-base, In-loop-to}
use Rattle.pack.proofs.flat.spread.Invariants.{left}

-- what is known of the sections and starts that were read
known : (d : After-start-base) → Ready d.args.pack.now d.section-outs.result.now d.section-s.result.now d.start-from.result d.start-base.result d.args.chains.now
known d =
    let q = d.requires in
    ready d.args.pack.now d.section-outs.result.now d.section-s.result.now d.start-from.result d.start-base.result d.args.chains.now q.0 q.1 d.section-outs.ensures d.section-s.ensures d.start-from.ensures d.start-base.ensures

-- and in the loop
abbrev outs-of : In-loop-to → List ℕ
outs-of c = c.section-outs.result.now

abbrev s-of : In-loop-to → List ℕ
s-of c = c.section-s.result.now

abbrev from-of : In-loop-to → ℕ
from-of c = c.start-from.result

abbrev base-of : In-loop-to → ℕ
base-of c = c.start-base.result

abbrev outer-of : In-loop-to → ℕ
outer-of c = c.loop-to.way.outer

opened : (c : In-loop-to) → Ready c.args.pack.now (outs-of c) (s-of c) (from-of c) (base-of c) c.args.chains.now
opened c =
    let q = c.requires in
    ready c.args.pack.now (outs-of c) (s-of c) (from-of c) (base-of c) c.args.chains.now q.0 q.1 c.section-outs.ensures c.section-s.ensures c.start-from.ensures c.start-base.ensures

abbrev groups_of : In-loop-to → List (Group ℕ)
groups_of c = map (placed_at (base-of c) (s-of c)) (groups_at (s-of c))

abbrev left-of : In-loop-to → ℕ → ℕ → List (Position × ℕ)
left-of c i to = left (s-of c) (base-of c) (from-of c) (outs-of c) i to

-- the next outer instruction lies in its section
reach : (c : In-loop-to) → (c.loop-to.to + 8 ≤ item_end (outs-of c) c.loop-to.to) × (item_end (outs-of c) c.loop-to.to ≤ length (outs-of c)) × (outer-of c < length (outers_at (outs-of c))) × Reached (outs-of c) (outer-of c + 1) (item_end (outs-of c) c.loop-to.to)
reach c = let l = c.loop-to in reached-next (outs-of c) (outer-of c) l.to l.invariant.1 (omega arith)

-- it and its groups come next, and have room
next : (c : In-loop-to) → left-of c (outer-of c) c.loop-to.to ≡ (outermost (outer-of c), from-of c + c.loop-to.to) ∷ (inside (outer-of c) (groups_of c) ++ left-of c (outer-of c + 1) (item_end (outs-of c) c.loop-to.to))
next c =
    let l = c.loop-to in
    rest-cons (λ (x : ℕ). from-of c + x) (outs-of c) (groups_of c) (outer-of c) l.to (omega (arith, l.invariant.1.few)) (omega arith)

room : (c : In-loop-to) → c.loop-to.way.index + 1 + length (inside (outer-of c) (groups_of c)) ≤ 1024
room c =
    let l = c.loop-to in
    let k = length-append (inside (outer-of c) (groups_of c)) (left-of c (outer-of c + 1) (item_end (outs-of c) l.to)) in
    omega (arith, ap length (next c), l.invariant.3, (opened c).few)

pub loop-to-init : goal.loop-to-init
loop-to-init c =
    (refl, reached-first c.section-outs.result.now (known (goal.at.loop-to-init c).After-start-base).whole, omega arith, simp (sub-zero, zero-add), simp sub-zero, simp sub-zero)

pub overflow_add-at : goal.overflow_add-at
overflow_add-at c = omega (arith, (opened (goal.at.overflow_add-at c).In-loop-to).ends)

pub overflow_cast-at : goal.overflow_cast-at
overflow_cast-at c = omega (arith, (opened (goal.at.overflow_cast-at c).In-loop-to).ends)

pub offset_bounds-at-way : goal.offset_bounds-at-way
offset_bounds-at-way c = omega (arith, room (goal.at.offset_bounds-at-way c).In-loop-to)

pub bounds-at-way : goal.bounds-at-way
bounds-at-way c = omega (arith, room (goal.at.bounds-at-way c).In-loop-to)

pub offset_bounds-places-way : goal.offset_bounds-places-way
offset_bounds-places-way c = omega (arith, room (goal.at.offset_bounds-places-way c).In-loop-to)

pub bounds-places-way : goal.bounds-places-way
bounds-places-way c = omega (arith, room (goal.at.bounds-places-way c).In-loop-to)

pub overflow_add-way : goal.overflow_add-way
overflow_add-way c = omega (arith, room (goal.at.overflow_add-way c).In-loop-to)

pub own_groups-requires : goal.own_groups-requires
own_groups-requires c =
    let t = (goal.at.own_groups-requires c).In-loop-to in
    rw c.loop-to.invariant.0 (record { chained = (opened t).linked (outer-of t) (reach t).2; s_bound = room t; s_bound_2 = (opened t).ends.1 })

pub item_end-to-requires : goal.item_end-to-requires
item_end-to-requires c = let w = reach (goal.at.item_end-to-requires c).In-loop-to in omega (arith, w.0, w.1)

pub loop-to-smaller : goal.loop-to-smaller
loop-to-smaller c =
    let w = reach (goal.at.loop-to-smaller c).In-loop-to in
    omega (arith, c.item_end-to.ensures, w.0, w.1)

pub loop-to-preserved : goal.loop-to-preserved
unfolding raised
loop-to-preserved c =
    let l = c.loop-to in
    let t = (goal.at.loop-to-preserved c).In-loop-to in
    let i = outer-of t in
    let here = inside i (groups_of t) in
    let all = left-of t i l.to in
    let rest = left-of t (i + 1) (item_end (outs-of t) l.to) in
    let y = next t in
    let k = length-append here rest in
    let v = rw l.invariant.0 at c.own_groups.ensures in
    let x : Position × ℕ = (outermost i, from-of t + l.to) in
    let n = c.own_groups.result in
    rw c.item_end-to.ensures (
      l.invariant.0,
      (reach t).3,
      omega (arith, v.count),
      omega (arith, ap length y, v.count, l.invariant.3),
      wrote-outer at_of l.at _ l.way.index n (from-of t + l.to) x here rest all refl v.ats v.count y ∙ l.invariant.4,
      wrote-outer place_held l.places _ l.way.index n (place_held x) x here rest all refl v.runs v.count y ∙ l.invariant.5,
    )

pub returns : goal.returns
returns c =
    let l = c.loop-to in
    let e = rest-nil (λ (x : ℕ). c.start-from.result + x) c.section-outs.result.now (map (placed_at c.start-base.result c.section-s.result.now) (groups_at c.section-s.result.now)) l.way.outer l.to (omega (arith, l.invariant.1.few, l.invariant.1.inside)) (omega arith) in
    rw (known (goal.at.returns c).After-start-base).laid
    (record {
      count = sym (add-zero l.way.index) ∙ rw e at l.invariant.3 ∙ sym (zero-add _);
      ats = rw e at l.invariant.4;
      runs = rw e at l.invariant.5;
    })
