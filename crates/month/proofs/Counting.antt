-- New lines counted from the least up: what is above the last of those held is what was not held, and no transfer brings more than three.
-- Assumes nothing.
use Rattle.std.proofs.Common.{◌≡◌, ℕ, zero, suc, ◌+◌, ◌-◌, ◌*◌, ◌/◌, ◌<◌, ◌≤◌, min, Bool, true, false, cond, List, [], ◌∷◌, ◌++◌, length, get_or, take, drop, refl, ap, ◌∙◌, ⊎_elim, arith, length-append, length-drop, length-take, get_or-take}
use mathlib.Core.List.Memᴰ
use mathlib.Core.List.{Memᴰ}
use lib.ListN.{length-replicate}
use Rattle.wire.specs.Zeros.{zeros}
use Rattle.wire.specs.Order.{Below, shorter}
use Rattle.month.specs.Transfers.{FedTransfer, Line, summed, own, source_line, destination_line, touched}
use Rattle.month.specs.Report.{Report, Sorted, lines_of, lines_in, used, fed_into}
use Rattle.month.specs.Adding.{new_in}
use Rattle.month.specs.Bytes.{transfers_to, transfers_in}
use Rattle.month.specs.Lookup.{fed_at, new_above}
use Rattle.month.proofs.Reports.{lines-length}
use Rattle.month.proofs.Rows.{fed-used}
use Rattle.month.proofs.Least.{new-after, new-count, new-most}

-- no line is empty
filled : (m l : List ℕ) → 0 < length l → Below [] (m ++ l)
filled [] [] h = absurd (omega arith)
filled [] (x ∷ l) h = shorter
filled (x ∷ m) l h = shorter

touched-filled : (t : FedTransfer) {k : Line} → Memᴰ k (touched t) → Below [] k
unfolding touched own source_line destination_line
touched-filled t {k} i = go (summed t) i
  where
    first : k ≡ own t → Below [] k
    first e = rw e (filled t.mint (zeros 33) (omega (arith, length-replicate {A = ℕ} 33 0)))

    go : (b : Bool) → Memᴰ k (cond b (own t ∷ source_line t ∷ destination_line t ∷ []) (own t ∷ [])) → Below [] k
    go true (Memᴰ.head e) = first e
    go true (Memᴰ.tail (Memᴰ.head e)) = rw e (filled t.mint (1 ∷ t.source) (omega arith))
    go true (Memᴰ.tail (Memᴰ.tail (Memᴰ.head e))) = rw e (filled t.mint (1 ∷ t.destination) (omega arith))
    go true (Memᴰ.tail (Memᴰ.tail (Memᴰ.tail j))) = absurd (Memᴰ.not-nil j)
    go false (Memᴰ.head e) = first e
    go false (Memᴰ.tail j) = absurd (Memᴰ.not-nil j)

lines-filled : (ts : List FedTransfer) (k : Line) → Memᴰ k (lines_in ts) → Below [] k
unfolding lines_in
lines-filled [] k i = absurd (Memᴰ.not-nil i)
lines-filled (t ∷ ts) k i =
    ⊎_elim
    (λ (j : Memᴰ k (touched t)). touched-filled t j)
    (λ (j : Memᴰ k (lines_in ts)). lines-filled ts k j)
    (Memᴰ.append_cases (touched t) i)

transfers-count : (t : List ℕ) (n : ℕ) → length (transfers_to t n) ≡ n
unfolding transfers_to
transfers-count t zero = refl
transfers-count t (suc n) = length-append (transfers_to t n) (fed_at t n ∷ []) ∙ rw (transfers-count t n) (omega arith)

-- the rows that a table asks for, and their lines counted
module _ (r : Report) (t : List ℕ) where
  pub rows-asked : Sorted r → used (fed_into r (transfers_in t)) ≡ used r + new_in (lines_of r) (lines_in (transfers_in t))
  rows-asked s = fed-used (transfers_in t) s

  pub new-few : new_in (lines_of r) (lines_in (transfers_in t)) ≤ 3 * (length t / 150)
  unfolding transfers_in
  new-few = omega (arith, new-most (lines_of r) (lines_in (transfers_to t (length t / 150))), lines-length (transfers_to t (length t / 150)), transfers-count t (length t / 150))

  pub new-all : length (new_above (lines_of r) [] (lines_in (transfers_in t))) ≡ new_in (lines_of r) (lines_in (transfers_in t))
  new-all = new-count (lines_of r) (lines_in (transfers_in t)) (lines-filled (transfers_in t))

module _ (old : List Line) (bound : Line) (ks : List Line) {lines : List Line} (most : ℕ) (e : lines ≡ take most (new_above old bound ks)) where
  -- as many as can be held, or all
  pub held-least : length lines ≡ min most (length (new_above old bound ks))
  held-least = ap length e ∙ length-take most (new_above old bound ks)

  -- above the last of them are those that were not held
  pub held-last : {last : Line} → 0 < length lines → most ≤ length lines → last ≡ get_or lines (length lines - 1) []
      → length lines + length (new_above old last ks) ≡ length (new_above old bound ks)
  held-last {last} p q f =
      let m = held-least in
      let k = length lines in
      let a : last ≡ get_or (new_above old bound ks) (k - 1) [] =
      f ∙ ap (λ (x : List Line). get_or x (k - 1) []) e ∙ get_or-take most (new_above old bound ks) (k - 1) [] (omega arith) in
      let d : new_above old last ks ≡ drop (suc (k - 1)) (new_above old bound ks) = rw a (new-after old bound ks (k - 1) (omega arith)) in
      rw (d, length-drop (suc (k - 1)) (new_above old bound ks)) (omega arith)
