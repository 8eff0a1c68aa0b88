-- To take or drop 88 of fewer bytes is to take or drop all.
-- Assumes nothing.
use Rattle.std.proofs.Common.{◌≡◌, ◌≤◌, ℕ, List, length, take, drop, sym, ◌∙◌, ap, inl, inr, arith}
use Rattle.std.specs.Prelude.{min}
use lib.ListN.{drop_of_length-le}
use lib.Seq.{take_all}
use Rattle.std.proofs.lemmas.Bool.{cases_lt}
use Rattle.listing.proofs.names_end.Goals as goal

cut : (l : List ℕ) (k : ℕ) → k ≡ min (length l) 88 → (k ≤ length l) × (take k l ≡ take 88 l) × (drop k l ≡ drop 88 l)
cut l k e = elim (cases_lt (length l) 88) [
  | inl h ↦ (
    omega (arith, e),
    take_all k l (omega (arith, e)) ∙ sym (take_all 88 l (omega arith)),
    drop_of_length-le l {i = k} (omega (arith, e)) ∙ sym (drop_of_length-le l {i = 88} (omega arith)),
  )
  | inr h ↦ let q : k ≡ 88 = omega (arith, e) in (omega arith, ap (λ (j : ℕ). take j l) q, ap (λ (j : ℕ). drop j l) q)
]

pub returns : goal.returns
returns c = cut c.args.input.now c.min.result c.min.ensures
