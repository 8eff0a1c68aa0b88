-- The low half wraps, and the carry says whether it did; two runs of 8 bytes one behind the other are 16.
use Rattle.std.proofs.Common.{◌≡◌, ℕ, ◌+◌, ◌^◌, ◌<◌, List, ap, ◌∙◌, ap₂, arith}
use lib.Seq.{sets}
use Rattle.wire.specs.Le.{le, le_bytes}
use Rattle.month.specs.Wide.{low_after, carry}
use Rattle.month.proofs.Wide.{bool-carry, wide_read, high_fits}
use Rattle.month.proofs.Posting.{sum-written}
use Rattle.month.proofs.sums.add_wide.Goals as goal
use Rattle.month.proofs.sums.add_wide.Goals.{After-from-carry}

abbrev low : After-from-carry → ℕ
low c = le 8 c.args.d.now c.args.at

small : (c : After-from-carry) → low c < 2 ^ 64
small c = let e = c.u64_at-low.ensures in omega (arith, e)

summed : (c : After-from-carry) → c.wrapping_add_u64-sum.result ≡ low_after (low c) c.args.x
summed c = rw (← c.u64_at-low.ensures) c.wrapping_add_u64-sum.ensures.value

-- the test is the one of `carry`
carried : (c : After-from-carry) → c.from-carry.result ≡ carry (low c) c.args.x
carried c = c.from-carry.ensures ∙ bool-carry c.args.x (summed c) c.u64_at-low.ensures

pub overflow_add-high : goal.overflow_add-high
overflow_add-high c =
    let j = (goal.at.overflow_add-high c).After-from-carry in
    let a = c.args in
    let e = c.u64_at-high.ensures in
    let h = high_fits (low j) (le 8 a.d.now (a.at + 8)) a.x (small j) (omega arith) (rw (← wide_read a.d.now a.at) c.requires.1) in
    let k : c.u64_at-high.result + c.from-carry.result < 2 ^ 64 = rw (e, carried j) h in
    omega (arith, k)

pub returns : goal.returns
returns c =
    let j = (goal.at.returns c).After-from-carry in
    let a = c.args in
    let e = c.u64_at-high.ensures in
    c.put_u64-2.ensures
    ∙ ap₂ (λ (l : List ℕ) (k : ℕ). sets l (a.at + 8) (le_bytes 8 (k + c.from-carry.result)))
    (c.put_u64.ensures ∙ ap (λ (k : ℕ). sets a.d.now a.at (le_bytes 8 k)) (summed j)) e
    ∙ sum-written a.d.now a.at a.x c.from-carry.result (small j) (omega arith) (carried j)
