-- Writing the remembered places that are left from here leaves what writing all of them leaves.
-- Assumes nothing.
use Rattle.pack.specs.Items.{group_end, groups_from}
use Rattle.pack.specs.Loops.{kept_from}
use Rattle.pack.proofs.Stores.{sets-cons}
use Rattle.pack.proofs.Places.{Next, next-group, groups-nil, kept_cons, kept-skip}
use Prim.Native.Nat.{ℕ, ◌-◌}
use native.Mathlib.Nat.{add-zero}
use native.Mathlib.Omega.{arith}
use mathlib.Core.Path.{◌≡◌, sym, ap, ◌∙◌}
use mathlib.Core.List.{List, ◌∷◌}
use lib.ListN.{length}
use Rattle.pack.proofs.chain.kept_places.Goals as goal
use Rattle.pack.proofs.chain.kept_places.Goals.{After-inners_end-at, Then-keeps, In-loop-at}

-- the group that comes next
next : (c : In-loop-at) → Next c.args.s.now c.loop-at.invariant.1.0 c.loop-at.at
next c =
    let l = c.loop-at in
    next-group c.args.s.now l.at l.invariant.1.0 l.invariant.1.1 (omega arith) l.invariant.1.2

-- the walk over a group's instructions comes to the group's end
ended : (c : After-inners_end-at) → c.inners_end-at.result ≡ group_end c.args.s.now c.loop-at.at
unfolding group_end
ended c = c.inners_end-at.ensures ∙ rw c.u16_at.ensures

-- the section, where the walk stands in it, the groups from there on, and those behind the first of them
abbrev section : Then-keeps → List ℕ
section c = c.args.s.now

abbrev here : Then-keeps → ℕ
here c = c.loop-at.at

abbrev all : Then-keeps → List ℕ
all c = groups_from (section c) c.loop-at.invariant.1.0 (here c)

abbrev rest : Then-keeps → List ℕ
rest c = groups_from (section c) (c.loop-at.invariant.1.0 - 1) (group_end (section c) (here c))

-- those that are remembered
abbrev kept_of : Then-keeps → List ℕ → List ℕ
kept_of c = kept_from (section c) c.args.o

-- the first one is
kept : (c : Then-keeps) → kept_of c (all c) ≡ here c ∷ kept_of c (rest c)
kept c =
    let l = c.loop-at in
    rw (next-group (section c) l.at l.invariant.1.0 l.invariant.1.1 (omega arith) l.invariant.1.2).cons
    (kept_cons (section c) c.args.o (here c) (rest c) (sym c.keeps.ensures ∙ c.if-keeps.true))

pub inners_end-at-requires : goal.inners_end-at-requires
unfolding group_end
inners_end-at-requires c = rw c.u16_at.ensures (next (goal.at.inners_end-at-requires c).In-loop-at).end

pub loop-at-smaller : goal.loop-at-smaller
loop-at-smaller c = omega (arith, ended (goal.at.loop-at-smaller c).After-inners_end-at, (next (goal.at.loop-at-smaller c).In-loop-at).grows, (next (goal.at.loop-at-smaller c).In-loop-at).end)

pub loop-at-preserved : goal.loop-at-preserved
loop-at-preserved c =
    let l = c.loop-at in
    let a = c.args in
    let s = a.s.now in
    let f = l.invariant.1.0 in
    let x = next (goal.at.loop-at-preserved c).In-loop-at in
    let e = ended (goal.at.loop-at-preserved c).After-inners_end-at in
    let rest = groups_from s (f - 1) (group_end s l.at) in
    let k = kept-skip s a.o l.at rest (sym c.keeps.ensures ∙ c.if-keeps.false) in
    (omega (arith, x.end), (f - 1, omega (arith, x.grows, l.invariant.1.1), rw e x.fill, rw e (rw (x.cons, k) at l.invariant.1.3), rw e (rw (x.cons, k) at l.invariant.1.4)))

pub bounds-place-n : goal.bounds-place-n
bounds-place-n c = omega (arith, ap length (kept (goal.at.bounds-place-n c).Then-keeps), c.loop-at.invariant.1.3)

pub loop-at-smaller-then-keeps : goal.loop-at-smaller-then-keeps
loop-at-smaller-then-keeps c = omega (arith, ended (goal.at.loop-at-smaller-then-keeps c).After-inners_end-at, (next (goal.at.loop-at-smaller-then-keeps c).In-loop-at).grows, (next (goal.at.loop-at-smaller-then-keeps c).In-loop-at).end)

pub loop-at-preserved-then-keeps : goal.loop-at-preserved-then-keeps
loop-at-preserved-then-keeps c =
    let l = c.loop-at in
    let a = c.args in
    let s = a.s.now in
    let f = l.invariant.1.0 in
    let x = next (goal.at.loop-at-preserved-then-keeps c).In-loop-at in
    let e = ended (goal.at.loop-at-preserved-then-keeps c).After-inners_end-at in
    let rest = groups_from s (f - 1) (group_end s l.at) in (
      omega (arith, x.end),
      (f - 1, omega (arith, x.grows, l.invariant.1.1), rw e x.fill, rw e (omega (arith, ap length (kept (goal.at.loop-at-preserved-then-keeps c).Then-keeps), l.invariant.1.3)), rw e (sym (sets-cons l.place l.n l.at (kept_from s a.o rest)) ∙ rw (kept (goal.at.loop-at-preserved-then-keeps c).Then-keeps) at l.invariant.1.4)),
    )

pub returns : goal.returns
unfolding kept_from
returns c =
    let l = c.loop-at in
    let x = groups-nil c.args.s.now l.at l.invariant.1.0 (omega arith) in
    (sym (add-zero l.n) ∙ rw x at l.invariant.1.3, rw x at l.invariant.1.4)
