-- Groups from place k on are chained: each holds the next of its outer instruction, and each outer instruction its first.
-- Assumes nothing.
use Rattle.pack.specs.Loops.{first_group_from, next_of}
use Rattle.pack.proofs.Chains.{first_step, next-step, lower, headed}
use Rattle.wire.specs.Le.{le}
use Prim.Native.Nat.{ℕ, ◌+◌, ◌-◌, ◌<◌}
use native.Mathlib.Omega.{arith}
use mathlib.Core.Path.{◌≡◌, refl, ap, ◌∙◌}
use mathlib.Core.List.{List}
use lib.ListN.{length, get_or, take, length-take, length-set, length-replicate, get_or-replicate, drop_of_length-le}
use lib.Seq.{get_or-take}
use Rattle.pack.proofs.chain.link.Goals as goal
use Rattle.pack.proofs.chain.link.Goals.{After-u32_at-i}

-- the group names one of 1,024 outer instructions
named : (c : After-u32_at-i) → c.u32_at-i.result < 1024
named c =
    let l = c.loop-k in
    let e = ap (λ (p : List ℕ). get_or p (l.k - 1) 0) l.invariant.0 in
    let b = c.requires.by_index (l.k - 1) (omega arith) in
    rw (c.u32_at-i.ensures, e) b.1

pub loop-k-init : goal.loop-k-init
unfolding first_group_from
loop-k-init c =
    let a = c.args in
    let q = c.requires.n_bound in
    let place = a.chains.now.place in
    let e : length (take a.n place) ≡ a.n = simp length-take (omega arith) in (
      refl,
      omega arith,
      omega arith,
      rw q.1 (length-replicate {A = ℕ} 1024 0),
      λ t x y. absurd (omega arith),
      λ i h. rw (q.1, drop_of_length-le (take a.n place) {i = a.n} (omega arith)) (get_or-replicate {A = ℕ} 1024 i 0 0 h),
    )

pub loop-k-preserved : goal.loop-k-preserved
loop-k-preserved c =
    let l = c.loop-k in
    let a = c.args in
    let chains = l.chains in
    let gs = take a.n chains.place in
    let long : length a.chains.now.place ≡ 1024 = omega arith in
    let m : length gs ≡ a.n = simp length-take (omega (arith, c.requires.n_bound, ap length l.invariant.0)) in
    let k = l.k - 1 in
    let s : l.k ≡ k + 1 = omega arith in
    let g : get_or gs k 0 ≡ get_or chains.place k 0 = get_or-take a.n chains.place k 0 (omega arith) in
    let u : c.u32_at-i.result ≡ le 4 a.s.now (get_or gs k 0) = rw g c.u32_at-i.ensures in
    let w = named (goal.at.loop-k-preserved c).After-u32_at-i in (
      l.invariant.0,
      omega arith,
      simp length-set l.invariant.2,
      simp length-set l.invariant.3,
      lower chains.next (next_of a.s.now gs) a.n k (get_or chains.first c.u32_at-i.result 0) (omega arith)
          (l.invariant.5 c.u32_at-i.result w ∙ rw u (next-step a.s.now gs k l.k s))
          (λ t x y. l.invariant.4 t (omega arith) y),
      λ i h. headed chains.first c.u32_at-i.result (k + 1) (omega arith) i ∙ rw (l.invariant.5 i h, u) (first_step a.s.now gs k l.k s i (omega arith)),
    )
