-- A part that begins past the names is empty, and one that would pass their end is what is left of them: so `take` and `drop` have it.
-- Assumes nothing.
use Rattle.std.proofs.Common.{◌≡◌, ℕ, ◌-◌, ◌≤◌, ◌<◌, ◌⊎◌, inl, inr, min, List, length, take, drop, arith, length-drop, sym, ap, ◌∙◌}
use Rattle.std.proofs.lemmas.Bool.{cases_lt}
use Rattle.std.proofs.Math.Seq.{take_all}
use Rattle.std.proofs.lemmas.List.{drop_all}
use Rattle.swaps.proofs.launchlab.config.Goals as goal

-- what starts at the end or past it
rest : (s : List ℕ) (at m : ℕ) → m ≡ min at (length s) → drop m s ≡ drop at s
rest s at m e = go (cases_lt at (length s))
  where
    go : (at < length s) ⊎ (length s ≤ at) → drop m s ≡ drop at s
    go (inl h) = let k : m ≡ at = omega arith in ap (λ n. drop n s) k
    go (inr h) = let k : length s ≤ m = omega arith in drop_all m s k ∙ sym (drop_all at s h)

-- what has fewer bytes than are asked for
part : (t : List ℕ) (r : ℕ) → r ≡ min (length t) 32 → take r t ≡ take 32 t
part t r e = go (cases_lt (length t) 32)
  where
    go : (length t < 32) ⊎ (32 ≤ length t) → take r t ≡ take 32 t
    go (inl h) = take_all r t (omega arith) ∙ sym (take_all 32 t (omega arith))
    go (inr h) = let k : r ≡ 32 = omega arith in ap (λ n. take n t) k

pub returns : goal.returns
returns c =
    let s = c.args.names.now in
    let m = c.min.result in
    let all : take (length s - m) (drop m s) ≡ drop m s = take_all (length s - m) (drop m s) (simp length-drop (omega arith)) in
    rw (part _ c.min-2.result c.min-2.ensures) (ap (take 32) (all ∙ rest s c.args.at m c.min.ensures))
