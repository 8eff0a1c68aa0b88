-- What the rest of the section counts from here is what the whole counts; the bound on the groups that are left falls by one for each.
-- Assumes nothing.
use Rattle.pack.proofs.Walk.{groups-ended, groups-cut, groups-more, group-cut, group-passed, kept-few}
use Rattle.wire.specs.Le.{le}
use Rattle.pack.specs.Items.{group_good, group_end, count_at}
use Rattle.pack.specs.View.{groups_in}
use Prim.Native.Nat.{ℕ, ◌+◌, ◌-◌, ◌*◌, ◌≤◌}
use native.Mathlib.Nat.{zero-add}
use mathlib.Core.Path.{◌≡◌, sym, ◌∙◌}
use borrow.Author.Tests.{lt-leb}
use mathlib.Core.Bool.{Bool, true, cond}
use mathlib.Core.List.{List}
use native.Mathlib.Omega.{arith}
use lib.Dec.{ltb}
use lib.ListN.{length}
use Rattle.pack.proofs.whole.groups.Goals as goal
use Rattle.pack.proofs.whole.groups.Goals.{After-kept-n}

-- the section, and where the group stands in it
abbrev section : After-kept-n → List ℕ
section c = c.args.s.now

abbrev here : After-kept-n → ℕ
here c = c.loop-at.at

-- where the walk over its instructions came to
abbrev end : After-kept-n → ℕ
end c = c.in_ok-end.end

-- that is the group's end, in the section
passed : (c : After-kept-n)
    → (group_good (section c) (here c) ≡ true) × (end c ≡ group_end (section c) (here c)) × (end c ≤ length (section c)) × (here c + 6 + 13 * count_at (section c) (here c) ≤ end c)
passed c =
    group-passed (section c) (here c) (omega arith) (end c)
    (rw (← c.u16_at-count.ensures) (sym c.in_ok-end.was ∙ c.inners.ensures))

-- whether it names an outer instruction
abbrev named : After-kept-n → Bool
named c = ltb (le 4 (section c) (here c)) c.args.o

-- what it keeps, and that this is no more than it has
counted : (c : After-kept-n) → c.kept-n.result ≡ cond (named c) (count_at (section c) (here c)) 0
counted c = rw c.u16_at-count.ensures at c.kept-n.ensures

few : (c : After-kept-n) → c.kept-n.result ≤ count_at (section c) (here c)
few c = kept-few (named c) (count_at (section c) (here c)) c.kept-n.result (counted c)

pub returns-then-s-at-lt6 : goal.returns-then-s-at-lt6
unfolding groups_in group_good
returns-then-s-at-lt6 c =
    let l = c.loop-at in
    let a = c.args in
    sym (groups-cut a.s.now a.o l.invariant.2.0 (l.invariant.2.0 - 1) l.at l.n (omega (arith, l.invariant.2.1)) (omega arith) (rw (lt-leb (l.at + 6) (length a.s.now) (omega arith)))) ∙ l.invariant.2.2 ∙ rw zero-add

pub returns-in_err-end : goal.returns-in_err-end
unfolding groups_in group_good
returns-in_err-end c =
    let l = c.loop-at in
    let a = c.args in
    let bad = group-cut a.s.now l.at (omega arith) (rw (← c.u16_at-count.ensures) (sym c.in_err-end.was ∙ c.inners.ensures)) in
    rw c.from_residual.ensures (sym (groups-cut a.s.now a.o l.invariant.2.0 (l.invariant.2.0 - 1) l.at l.n (omega (arith, l.invariant.2.1)) (omega arith) bad) ∙ l.invariant.2.2 ∙ rw zero-add)

pub loop-at-smaller : goal.loop-at-smaller
loop-at-smaller c = omega (arith, (passed (goal.at.loop-at-smaller c).After-kept-n).2, (passed (goal.at.loop-at-smaller c).After-kept-n).3, few (goal.at.loop-at-smaller c).After-kept-n)

pub loop-at-preserved : goal.loop-at-preserved
loop-at-preserved c =
    let l = c.loop-at in
    let a = c.args in
    let s = a.s.now in
    let f = l.invariant.2.0 in
    let w = passed (goal.at.loop-at-preserved c).After-kept-n in
    let e : end (goal.at.loop-at-preserved c).After-kept-n ≡ group_end s l.at = w.1 in
    let k : c.kept-n.result ≡ cond (ltb (le 4 s l.at) a.o) (count_at s l.at) 0 = counted (goal.at.loop-at-preserved c).After-kept-n in (
      w.2,
      omega (arith, w.3, few (goal.at.loop-at-preserved c).After-kept-n),
      (f - 1, omega (arith, l.invariant.2.1, w.3), rw (e, k) (groups-more s a.o f (f - 1) l.at l.n (omega (arith, l.invariant.2.1)) (omega arith) w.0 ∙ l.invariant.2.2)),
    )

pub returns : goal.returns
unfolding groups_in group_good
returns c =
    let l = c.loop-at in
    let a = c.args in
    sym (groups-ended a.s.now a.o l.invariant.2.0 (l.invariant.2.0 - 1) l.at l.n (omega (arith, l.invariant.2.1)) (omega arith)) ∙ l.invariant.2.2 ∙ rw zero-add
