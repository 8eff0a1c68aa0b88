-- No two ids share their fifth byte and none has a zero there, so no two are equal and none is zero: a test that antt computes, and the laws that carry it to
-- each row.
-- Assumes nothing.
use mathlib.Core.Path.{◌≡◌, refl, sym, ap, ◌∙◌}
use mathlib.Core.Bool.{true}
use Prim.Native.Nat.{ℕ, ◌<◌}
use native.Mathlib.Omega.{arith}
use borrow.Author.Tests.{eqb-true}
use lib.Dec.{eqb}
use lib.ListN.{get_or}
use Rattle.wire.specs.Below.{all_below}
use Rattle.wire.proofs.Below.{below_at}
use Rattle.ids.specs.Keys.{Key, zero_key}
use Rattle.ids.specs.Ids.{ids, id_at}
use Rattle.ids.specs.Which.{row_by_fifth}

-- the one row that a key can be
abbrev pub candidate_of : Key → ℕ
candidate_of key = row_by_fifth (get_or key 4 0) 14 0

-- computed: all rows
all-led : all_below (λ k. eqb (candidate_of (id_at k)) k) 14 ≡ true
unfolding ids row_by_fifth
all-led = refl

-- an id leads to its own row
pub led : (k : ℕ) → k < 14 → candidate_of (id_at k) ≡ k
led k h = eqb-true _ k (below_at (λ i. eqb (candidate_of (id_at i)) i) 14 all-led k h)

-- and the zero key to none
pub zero-led : candidate_of zero_key ≡ 14
unfolding ids row_by_fifth zero_key
zero-led = refl

pub distinct : (j k : ℕ) → j < 14 → k < 14 → id_at j ≡ id_at k → j ≡ k
distinct j k hj hk e = sym (led j hj) ∙ (ap candidate_of e ∙ led k hk)

pub nonzero : (k : ℕ) → k < 14 → id_at k ≡ zero_key → ⊥
nonzero k h e =
    let z : k ≡ 14 = sym (led k h) ∙ (ap candidate_of e ∙ zero-led) in
    omega arith
