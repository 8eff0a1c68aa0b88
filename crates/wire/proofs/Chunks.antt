-- A run in chunks of n bytes.
-- Assumes nothing.
use mathlib.Core.Path.{◌≡◌, ap, ◌∙◌}
use mathlib.Core.List.{List, []}
use Prim.Native.Nat.{ℕ, zero, suc, ◌*◌, ◌<◌}
use native.Mathlib.Nat.{zero-mul}
use native.Mathlib.Omega.{arith}
use lib.ListN.{get_or, take, drop}
use lib.Seq.{drop-drop}
use Rattle.std.specs.Simd.{first_chunks}

-- chunk i of k
pub chunk-at : (n k : ℕ) (s : List ℕ) (i : ℕ) (d : List ℕ) → i < k → get_or (first_chunks n k s) i d ≡ take n (drop (i * n) s)
chunk-at n zero s i d h = absurd (omega arith)
chunk-at n (suc k) s zero d h = rw zero-mul
chunk-at n (suc k) s (suc i) d h = chunk-at n k (drop n s) i d (omega arith) ∙ rw drop-drop (ap (λ (j : ℕ). take n (drop j s)) (omega arith))

-- a chunk among those that were cut
pub chunk-in : (n k : ℕ) (s : List ℕ) (chunks : List (List ℕ)) (i : ℕ) → chunks ≡ first_chunks n k s → i < k → get_or chunks i [] ≡ take n (drop (i * n) s)
chunk-in n k s chunks i e h = ap (λ (c : List (List ℕ)). get_or c i []) e ∙ chunk-at n k s i [] h
