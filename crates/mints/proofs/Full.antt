-- An array that is full of one thing has it everywhere.
-- Assumes nothing.
use mathlib.Core.Path.{◌≡◌}
use mathlib.Core.Logic.{by_cases}
use Prim.Native.Nat.{ℕ, ◌<◌}
use native.Mathlib.Decide.{dec_lt}
use native.Mathlib.Omega.{arith}
use lib.ListN.{get_or, replicate}
use Rattle.std.proofs.lemmas.List.{get_or_past, get_or-replicate, length-replicate}

pub full-of : {A : Type 0} (n j : ℕ) (x : A) → get_or (replicate n x) j x ≡ x
full-of n j x = by_cases (dec_lt j n) (λ (h : j < n). get_or-replicate n j x x h) (λ (h : ¬ (j < n)). get_or_past (replicate n x) j x (omega (arith, length-replicate n x)))
