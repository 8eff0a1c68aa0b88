-- The bits inside each block come from `subtrees`, given what each invocation has itself; so row by row the table is that of the definition.
use Rattle.route.specs.Arrays.{row_at}
use Rattle.route.specs.Lay.{placed}
use Rattle.route.specs.Widths.{invocation_width}
use Rattle.route.proofs.Rows.{placed-more}
use Rattle.route.proofs.Assembled.{row_by}
use Rattle.route.proofs.Finishing.{inside-le}
use Rattle.wire.specs.Tab.{tab}
use Rattle.subtrees.specs.Subtrees.{taken, positions, Subtrees}
use Rattle.subtrees.proofs.Arrays.{taken-all, positions-length}
use Rattle.pack.specs.Invocation.{position_in_places, blank_place}
use Rattle.pack.specs.declared.position.Place.{Place}
use lib.ListN.{length}
use Prim.Native.Nat.{ℕ, ◌≤◌}
use mathlib.Core.List.{List}
use mathlib.Core.Path.{◌≡◌, refl, ◌∙◌}
use native.Mathlib.Omega.{arith}
use Rattle.route.proofs.invocations.put_rows.Goals as goal

pub loop-i-init : goal.loop-i-init
unfolding tab placed
loop-i-init c = (refl, refl)

pub bits-requires : goal.bits-requires
bits-requires c = (omega arith, inside-le c.subtrees-tests.ensures c.loop-i.i)

-- no more than 1,024 invocations are all looked at
blocked : {own ends inside parents : List ℕ} {tests : ℕ} (places : List Place) (n : ℕ) → n ≤ 1024 → Subtrees (positions places (taken n)) own tests ends inside parents → Subtrees (positions places n) own tests ends inside parents
blocked places n few s = rw (taken-all n few) at s

pub loop-i-preserved : goal.loop-i-preserved
unfolding position_in_places blank_place
loop-i-preserved c =
    let l = c.loop-i in
    let a = c.args in
    let ps = positions a.places.now a.n in
    let blocks = blocked a.places.now a.n c.requires c.subtrees-tests.ensures in
    let put = c.put_row in (
      put.auto.out ∙ l.invariant.0,
      placed-more invocation_width (row_at ps a.programs.now a.reasons.now a.leg.now) l.i a.out.now l.out _ l.invariant.1
          (put.ensures ∙ rw (c.bits.ensures, ← (row_by a.n _ a.places.now a.programs.now a.reasons.now a.leg.now _ _ _ _ c.requires c.put_own.ensures blocks l.i (omega arith)))),
    )

pub returns : goal.returns
returns c =
    let l = c.loop-i in
    let a = c.args in
    let e : l.i ≡ length (positions a.places.now a.n) = omega (arith, positions-length a.places.now a.n) in
    record { tests = (blocked a.places.now a.n c.requires c.subtrees-tests.ensures).tests; rows = l.invariant.1 ∙ rw e }
