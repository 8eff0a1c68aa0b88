-- A refusal is its one line; a success is its first line and those by the finder behind it, which are those of the rows.
-- Assumes nothing.
use Rattle.std.proofs.lemmas.Result.{IfOk-weaker}
use Rattle.listing.proofs.Lengths.{refusal-few, drawn-few, puts}
use Rattle.listing.proofs.Drawing.{tree-refused, flat, tree-few, tree-drawn}
use Rattle.listing.specs.Listing.{refusal_line, route_of}
use Rattle.std.specs.Prelude.{string_bytes}
use mathlib.Core.List.{◌++◌}
use Rattle.subtrees.specs.Subtrees.{positions}
use Rattle.subtrees.proofs.Arrays.{positions-length}
use Rattle.listing.specs.Tree.{tree, tree_head, branch_of, first_lines}
use lib.ListN.{length, drop, length-drop}
use lib.Seq.{take_all}
use mathlib.Core.Path.{◌≡◌, ◌∙◌}
use Prim.Native.Nat.{◌-◌, ◌≤◌}
use native.Mathlib.Omega.{arith}
use Rattle.listing.proofs.tree.draw.Goals as goal

pub returns-then-a-ne0 : goal.returns-then-a-ne0
returns-then-a-ne0 c =
    let r = c.routed-a in
    let l = c.args.input.now in
    let t : tree l ≡ refusal_line r.result.number r.result.place = rw r.ensures.0 (tree-refused l (rw r.ensures.0 at c.if-a-ne0.true)) in
    let few : length (refusal_line r.result.number r.result.place) ≤ 65536 = omega (arith, refusal-few r.result.number r.result.place (omega arith) (omega arith)) in
    rw t (IfOk-weaker _ _ _ (λ text e. puts e few) c.refused.ensures)

pub put_own-requires : goal.put_own-requires
put_own-requires c =
    let l = c.args.input.now in
    let k = c.names_end in
    let cut = take_all (length l - k.result) (drop k.result l) (simp length-drop (omega arith)) ∙ k.ensures.2 in
    let good : (route_of l).answer.number ≡ 0 = rw c.routed-a.ensures.0 at c.if-a-ne0.false in
    let few = tree-few l good _ cut _ _ _ (flat _ _ _ c.flatten.result c.flatten.ensures.arrays c.unwrap_or-n.ensures) in
    record { n_bound = few; invocation_width_in_bounds = omega (arith, few, c.routed-a.auto.invocations) }

pub branches-requires : goal.branches-requires
branches-requires c =
    let l = c.args.input.now in
    let k = c.names_end in
    let cut = take_all (length l - k.result) (drop k.result l) (simp length-drop (omega arith)) ∙ k.ensures.2 in
    let good : (route_of l).answer.number ≡ 0 = rw c.routed-a.ensures.0 at c.if-a-ne0.false in
    tree-few l good _ cut _ _ _ (flat _ _ _ c.flatten.result c.flatten.ensures.arrays c.unwrap_or-n.ensures)

pub returns : goal.returns
returns c =
    let l = c.args.input.now in
    let k = c.names_end in
    let f = c.flatten in
    let n = c.unwrap_or-n.result in
    let w = flat _ _ _ f.result f.ensures.arrays c.unwrap_or-n.ensures in
    let r = c.routed-a in
    let own = c.put_own.new.own in
    let cut = take_all (length l - k.result) (drop k.result l) (simp length-drop (omega arith)) ∙ k.ensures.2 in
    let good : (route_of l).answer.number ≡ 0 = rw r.ensures.0 at c.if-a-ne0.false in
    let t = tree-drawn l good _ cut _ _ _ w _ (rw r.ensures.1 at c.put_own.ensures) in
    let ps = positions f.new.places n in
    let long = positions-length f.new.places n in
    let few = drawn-few ps own n r.result.invocations (omega (arith, long)) (omega (arith, long, tree-few l good _ cut _ _ _ w)) (omega arith) in
    let made : string_bytes c.branches.new.text ≡ tree_head r.result.invocations ++ first_lines (branch_of ps own) n = rw c.in_ok-text.ensures at c.in_ok-branches.ensures in
    rw (← t, ← r.ensures.0) (puts made few)
