-- Laws of `tab`: its length, its elements, and that equal elements make equal lists; each by going through the numbers.
-- Assumes nothing.
use mathlib.Core.Path.{◌≡◌, refl, ap}
use Prim.Native.Nat.{ℕ, zero, suc, ◌+◌, ◌≤◌, ◌<◌}
use native.Mathlib.Nat.{add-zero, add-suc, suc-add}
use native.Mathlib.Omega.{arith}
use lib.ListN.{length, get_or}
use Rattle.wire.specs.Tab.{tab}

pub tab-length : {A : Type 0} (f : ℕ → A) (i n : ℕ) → length (tab f i n) ≡ n
unfolding tab
tab-length f i zero = refl
tab-length f i (suc n) = ap suc (tab-length f (suc i) n)

pub tab-at : {A : Type 0} (f : ℕ → A) (d : A) (i n k : ℕ) → k < n → get_or (tab f i n) k d ≡ f (i + k)
unfolding tab
tab-at f d i zero k h = absurd (omega arith)
tab-at f d i (suc n) zero h = rw add-zero
tab-at f d i (suc n) (suc k) h = rw (tab-at f d (suc i) n k (omega arith), add-suc, suc-add)

pub tab-same : {A : Type 0} (f g : ℕ → A) (i n : ℕ) → ((k : ℕ) → i ≤ k → k < i + n → f k ≡ g k) → tab f i n ≡ tab g i n
unfolding tab
tab-same f g i zero h = refl
tab-same f g i (suc n) h = rw (h i (omega arith) (omega arith), tab-same f g (suc i) n (λ k p q. h k (omega arith) (omega arith)))
