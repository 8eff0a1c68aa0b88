-- Groups from place k on are chained: each holds the next of its outer instruction, and each outer instruction its first.
-- Assumes nothing.
use Rattle.pack.specs.Loops.{first_group_from, next_of}
use Prim.Native.Nat.{ℕ, ◌≤◌, ◌<◌}
use mathlib.Core.Path.{◌≡◌}
use lib.ListN.{length, get_or, take, drop}
use Rattle.pack.proofs.chain.link.Given as goal

abbrev pub invariant-loop-k : goal.invariant-loop-k
invariant-loop-k l = (l.chains.place ≡ l.initial.chains.place) × (l.k ≤ l.n) × (length l.chains.next ≡ 1024) × (length l.chains.first ≡ 1024) × ((t : ℕ) → l.k ≤ t → t < l.n → get_or l.chains.next t 0 ≡ next_of l.s (take l.n l.chains.place) t) × ((i : ℕ) → i < 1024 → get_or l.chains.first i 0 ≡ first_group_from l.s i l.k (drop l.k (take l.n l.chains.place)))

abbrev pub decreases-loop-k : goal.decreases-loop-k
decreases-loop-k l = l.k
