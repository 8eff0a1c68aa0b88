-- The lines of a table by number: the mint and its flag, an account behind its flag, and whether a transfer is summed. Assumes nothing.
use Rattle.std.proofs.Common.{◌≡◌, ℕ, zero, suc, ◌+◌, ◌-◌, ◌*◌, ◌/◌, ◌%◌, ◌<◌, ◌≤◌, Bool, true, false, cond, eqb, leb, ◌≢◌, List, [], ◌∷◌, ◌++◌, length, get_or, take, drop, set, sym, refl, ap, ◌∙◌, ap₂, append-nil, zero-add, arith, length-append, length-drop, drop_of_length-le, length-take-le, drop-cons, take_at, eq-eqb, ne_eqb}
use mathlib.Core.Bool.{false≢true}
use mathlib.Core.Option.{none, some}
use lib.Seq.{sets, sets-eq, set_at, append_snoc}
use Rattle.wire.specs.Zeros.{zeros}
use Rattle.wire.specs.Le.{le}
use Rattle.month.specs.Transfers.{covered, summed, known, withheld, rest_of, own, source_line, destination_line, account_line}
use Rattle.month.specs.Bytes.{transfer_at}
use Rattle.month.specs.Lookup.{line_of, fed_at, line_numbered}

module _ (s : List ℕ) (at : ℕ) where
  -- a mint with its flag, laid over zeros
  pub mint-laid : at + 150 ≤ length s → get_or s (at + 100) 0 ≡ 1 → sets (zeros 66) 0 (take 33 (drop (at + 100) s)) ≡ (transfer_at s at).mint ++ zeros 33
  unfolding transfer_at
  mint-laid h e =
      let l = length-take-le 33 (drop (at + 100) s) (omega (arith, length-drop (at + 100) s)) in
      let f : take 33 (drop (at + 100) s) ≡ 1 ∷ take 32 (drop (at + 101) s) = first in
      sets-eq (take 33 (drop (at + 100) s)) (zeros 66) 0 (omega arith)
      ∙ rw (zero-add, l, f, eq-eqb _ _ e)
    where
      first : take 33 (drop (at + 100) s) ≡ 1 ∷ take 32 (drop (at + 101) s)
      first =
          let n : suc (at + 100) ≡ at + 101 = omega arith in
          ap (take 33) (drop-cons s (at + 100) 0 (omega arith)) ∙ ap₂ (λ (x : ℕ) (k : ℕ). x ∷ take 32 (drop k s)) e n

  pub mint-none : get_or s (at + 100) 0 ≢ 1 → zeros 66 ≡ (transfer_at s at).mint ++ zeros 33
  unfolding transfer_at
  mint-none n = rw (ne_eqb _ _ n)

  pub mint-long : at + 150 ≤ length s → length (transfer_at s at).mint ≡ 33
  unfolding transfer_at
  mint-long h = go (eqb (get_or s (at + 100) 0) 1)
    where
      go : (b : Bool) → length (cond b (1 ∷ take 32 (drop (at + 101) s)) (zeros 33)) ≡ 33
      go true = ap suc (length-take-le 32 (drop (at + 101) s) (omega (arith, length-drop (at + 101) s)))
      go false = refl

  -- whether it is summed, by its flag and its two numbers
  pub summed-not : get_or s (at + 141) 0 ≢ 1 → summed (transfer_at s at) ≡ false
  unfolding transfer_at summed covered
  summed-not n = rw (ne_eqb _ _ n)

  pub summed_by : get_or s (at + 141) 0 ≡ 1 → summed (transfer_at s at) ≡ leb (le 8 s (at + 142)) (le 8 s (at + 133))
  unfolding transfer_at summed covered
  summed_by e = rw (eq-eqb _ _ e)

  -- the fee of a summed transfer
  pub summed-fee : summed (transfer_at s at) ≡ true → (withheld (transfer_at s at) ≡ le 8 s (at + 142)) × (leb (le 8 s (at + 142)) (le 8 s (at + 133)) ≡ true)
  unfolding transfer_at summed covered withheld known
  summed-fee e = go (eqb (get_or s (at + 141) 0) 1) e
    where
      go : (b : Bool) → covered (cond b (some (le 8 s (at + 142))) none) (le 8 s (at + 133)) ≡ true
          → (known (cond b (some (le 8 s (at + 142))) none) ≡ le 8 s (at + 142)) × (leb (le 8 s (at + 142)) (le 8 s (at + 133)) ≡ true)
      go true q = (refl, q)
      go false q = absurd (false≢true q)

  pub summed-rest : summed (transfer_at s at) ≡ true → rest_of (transfer_at s at) ≡ le 8 s (at + 133) - le 8 s (at + 142)
  unfolding rest_of transfer_at
  summed-rest e = ap (λ (k : ℕ). le 8 s (at + 133) - k) (summed-fee e).0

-- an account laid behind its flag
pub account-laid : (m a : List ℕ) → length m ≡ 33 → length a ≡ 32 → sets (set (m ++ zeros 33) 33 1) 34 a ≡ account_line m a
account-laid m a e f =
    let p : set (m ++ zeros 33) 33 1 ≡ m ++ (1 ∷ []) ++ zeros 32 = set_at m 0 (zeros 32) 1 33 e ∙ sym (append_snoc m 1 (zeros 32)) in
    let q : length (m ++ (1 ∷ [])) ≡ 34 = omega (arith, length-append m (1 ∷ []), e) in
    let n : length (m ++ (1 ∷ []) ++ zeros 32) ≡ 66 = length-append (m ++ (1 ∷ [])) (zeros 32) ∙ rw q in
    ap (λ (l : List ℕ). sets l 34 a) p
    ∙ sets-eq a (m ++ (1 ∷ []) ++ zeros 32) 34 (omega arith)
    ∙ rw (take_at (m ++ (1 ∷ [])) (zeros 32) 34 q, drop_of_length-le (m ++ (1 ∷ []) ++ zeros 32) {i = 34 + length a} (omega arith), append-nil, append_snoc m 1 a)

-- the account of a line: the source stands at 36, the destination 32 bytes behind it
pub numbered-account : (s : List ℕ) (n : ℕ) → n % 3 ≢ 0 → line_numbered s n ≡ account_line (fed_at s (n / 3)).mint (take 32 (drop (n / 3 * 150 + 4 + n % 3 * 32) s))
unfolding line_numbered line_of source_line destination_line transfer_at
numbered-account s n h = go (n / 3 * 150) (n % 3) h (omega arith)
  where
    go : (at w : ℕ) → w ≢ 0 → w < 3 → line_of (transfer_at s at) w ≡ account_line (transfer_at s at).mint (take 32 (drop (at + 4 + w * 32) s))
    go at zero n l = absurd (n refl)
    go at (suc zero) n l = let e : at + 4 + 1 * 32 ≡ at + 36 = omega arith in rw e
    go at (suc (suc zero)) n l = let e : at + 4 + 2 * 32 ≡ at + 68 = omega arith in rw e
    go at (suc (suc (suc w))) n l = absurd (omega arith)

pub numbered-mint : (s : List ℕ) (n : ℕ) → n % 3 ≡ 0 → line_numbered s n ≡ (fed_at s (n / 3)).mint ++ zeros 33
unfolding line_numbered line_of own
numbered-mint s n e = rw e

-- the three lines of a transfer
module _ (s : List ℕ) (i : ℕ) where
  pub line-own : line_numbered s (3 * i) ≡ own (fed_at s i)
  unfolding line_numbered line_of
  line-own = let d : 3 * i / 3 ≡ i = omega arith in let m : 3 * i % 3 ≡ 0 = omega arith in rw (d, m)

  pub line-source : line_numbered s (3 * i + 1) ≡ source_line (fed_at s i)
  unfolding line_numbered line_of
  line-source = let d : (3 * i + 1) / 3 ≡ i = omega arith in let m : (3 * i + 1) % 3 ≡ 1 = omega arith in rw (d, m)

  pub line-destination : line_numbered s (3 * i + 2) ≡ destination_line (fed_at s i)
  unfolding line_numbered line_of
  line-destination = let d : (3 * i + 2) / 3 ≡ i = omega arith in let m : (3 * i + 2) % 3 ≡ 2 = omega arith in rw (d, m)
