-- The chain has come to the first group of outer i from place t on; writing the groups that are left leaves what writing all of them leaves.
-- Assumes nothing.
use Rattle.pack.specs.Layout.{inside_at, members_at, at_of, place_held}
use Rattle.pack.proofs.Chains.{first-later, members-length, none-own, Found, found_at, nearer, wrote-more}
use Rattle.wire.specs.Le.{le}
use Prim.Native.Nat.{◌+◌, ◌-◌, ◌≤◌}
use native.Mathlib.Nat.{add-zero}
use native.Mathlib.Omega.{arith}
use mathlib.Core.Path.{refl, sym, ap, ◌∙◌}
use lib.ListN.{length, get_or, drop, length-append}
use Rattle.pack.proofs.flat.own_groups.Goals as goal
use Rattle.pack.proofs.flat.own_groups.Goals.{In-loop-c}

-- the group that the walk has come to, one before c
found : (c : In-loop-c) → Found c.args.s.now c.loop-c.way.base c.loop-c.way.outer c.loop-c.invariant.2.gs c.loop-c.invariant.3 (c.loop-c.c - 1)
found c =
    let l = c.loop-c in
    found_at c.args.s.now l.way.base l.way.outer l.invariant.2.gs l.invariant.3 (l.c - 1) (sym l.invariant.4 ∙ omega arith)

early : (c : In-loop-c) → c.loop-c.c ≤ 1024
early c = omega (arith, (found c).in_list, c.loop-c.invariant.2.few)

pub loop-c-init : goal.loop-c-init
loop-c-init c =
    let ch = c.requires.chained in
    let e = ch.complete c.args.way.base in
    (refl, refl, ch, 0, ch.head, rw e, rw e, rw e)

pub offset_bounds-chains-c : goal.offset_bounds-chains-c
offset_bounds-chains-c c = omega (arith, early (goal.at.offset_bounds-chains-c c).In-loop-c)

pub bounds-chains-c : goal.bounds-chains-c
bounds-chains-c c = omega (arith, early (goal.at.bounds-chains-c c).In-loop-c)

pub members-requires : goal.members-requires
members-requires c =
    let l = c.loop-c in
    let r = c.requires in
    let s = c.args.s.now in
    let base = l.way.base in
    let i = l.way.outer in
    let ch = l.invariant.2 in
    let m = l.c - 1 in
    let y = found (goal.at.members-requires c).In-loop-c in
    let w = ap length y.splits ∙ length-append (members_at s base i (get_or ch.gs m 0)) (inside_at s base i (drop (m + 1) ch.gs)) in
    let room = rw (← l.invariant.0, ← l.invariant.1) at r.s_bound in
    rw (ch.places m y.in_list) (omega (arith, w, members-length s base i (get_or ch.gs m 0), l.invariant.5, room), ch.good m y.in_list, omega (arith, l.invariant.0, r.s_bound_2))

pub offset_bounds-chains-c-in-loop-c : goal.offset_bounds-chains-c-in-loop-c
offset_bounds-chains-c-in-loop-c c = omega (arith, early (goal.at.offset_bounds-chains-c-in-loop-c c).In-loop-c)

pub bounds-chains-c-in-loop-c : goal.bounds-chains-c-in-loop-c
bounds-chains-c-in-loop-c c = omega (arith, early (goal.at.bounds-chains-c-in-loop-c c).In-loop-c)

pub loop-c-smaller : goal.loop-c-smaller
loop-c-smaller c =
    let l = c.loop-c in
    let a = c.args in
    let s = a.s.now in
    let ch = l.invariant.2 in
    let m = l.c - 1 in
    let next = ch.links m (found (goal.at.loop-c-smaller c).In-loop-c).in_list in
    nearer l.c (get_or a.chains.now.next m 0) (omega arith) (early (goal.at.loop-c-smaller c).In-loop-c)
    (λ z. omega (arith, next, first-later s (le 4 s (get_or ch.gs m 0)) (drop (m + 1) ch.gs) (m + 1) (λ q. z (next ∙ q))))

pub loop-c-preserved : goal.loop-c-preserved
loop-c-preserved c =
    let l = c.loop-c in
    let s = c.args.s.now in
    let base = l.way.base in
    let i = l.way.outer in
    let ch = l.invariant.2 in
    let m = l.c - 1 in
    let y = found (goal.at.loop-c-preserved c).In-loop-c in
    let xs = members_at s base i (get_or ch.gs m 0) in
    let rest = inside_at s base i (drop (m + 1) ch.gs) in
    let w = ap length y.splits ∙ length-append xs rest in
    let v = rw (ch.places m y.in_list) at c.members.ensures in
    let n = c.members.result in (
      l.invariant.0,
      l.invariant.1,
      ch,
      m + 1,
      ch.links m y.in_list ∙ rw y.names,
      omega (arith, w, v.count, l.invariant.5),
      wrote-more at_of l.at _ l.way.index n xs rest v.ats v.count ∙ rw (← y.splits) l.invariant.6,
      wrote-more place_held l.places _ l.way.index n xs rest v.runs v.count ∙ rw (← y.splits) l.invariant.7,
    )

pub returns : goal.returns
returns c =
    let l = c.loop-c in
    let ch = l.invariant.2 in
    let e = none-own c.args.s.now l.way.base l.way.outer (drop l.invariant.3 ch.gs) l.invariant.3 (sym l.invariant.4 ∙ omega arith) in
    rw (← l.invariant.0, ← l.invariant.1)
    (record {
      count = sym (add-zero l.way.index) ∙ rw e at l.invariant.5;
      ats = rw e at l.invariant.6;
      runs = rw e at l.invariant.7;
    })
