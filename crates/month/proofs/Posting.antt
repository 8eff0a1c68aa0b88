-- What one row takes: its four fields written anew are its row with the sums added, and the lines stay as they were. Assumes nothing.
use Rattle.std.proofs.Common.{◌≡◌, ℕ, ◌+◌, ◌-◌, ◌*◌, ◌^◌, ◌<◌, ◌≤◌, List, [], ◌++◌, length, get_or, take, drop, set, sym, refl, ap, ◌∙◌, ap₂, arith, length-append, length-drop, take-append-drop, length-take-le, take-add}
use mathlib.Core.List.{Memᴰ}
use lib.ListN.{get_or-map}
use lib.Seq.{sets, sets-eq, map-set_same}
use Rattle.wire.specs.Le.{le, le_bytes}
use Rattle.wire.proofs.Laws.{le_bytes-length}
use Rattle.wire.proofs.Sets.{sets-next, sets-after}
use Rattle.month.specs.Sums.{Sums, nothing, plus}
use Rattle.month.specs.Report.{ReportRow, Report, lines_of, Sorted}
use Rattle.month.specs.Adding.{add_row}
use Rattle.month.specs.Bytes.{report_row_at, rows_to, report_row_bytes}
use Rattle.month.specs.Standing.{Takes}
use Rattle.month.specs.Wide.{wide, low_after, carry}
use Rattle.month.proofs.Feeding.{add-on}
use Rattle.month.proofs.Wide.{wide-add, wide_read, wide-written, low_fits}
use Rattle.month.proofs.Views.{rows-length, row_at, le-moved, rows-set, mem-at, ascend-at}

-- x added to a sum, in its two halves
pub sum-written : (d : List ℕ) (at x c : ℕ) → le 8 d at < 2 ^ 64 → x < 2 ^ 64 → c ≡ carry (le 8 d at) x
    → sets (sets d at (le_bytes 8 (low_after (le 8 d at) x))) (at + 8) (le_bytes 8 (le 8 d (at + 8) + c)) ≡ sets d at (le_bytes 16 (le 16 d at + x))
sum-written d at x c h k e =
    let low = low_after (le 8 d at) x in
    let high = le 8 d (at + 8) + c in
    let w : wide low high ≡ le 16 d at + x = rw (e, wide_read d at) (wide-add (le 8 d at) (le 8 d (at + 8)) x h k) in
    sets-next d at (le_bytes 8 low) (le_bytes 8 high) (at + 8) (rw (le_bytes-length 8 low))
    ∙ ap (sets d at) (sym (wide-written low high (low_fits (le 8 d at) x)) ∙ ap (le_bytes 16) w)

-- a number behind what was stored is as it was
pub le-kept : (n : ℕ) (b c : List ℕ) (i : ℕ) (vs : List ℕ) (j : ℕ) → c ≡ sets b i vs → i + length vs ≤ j → le n c j ≡ le n b j
le-kept n b c i vs j e h = rw e (le-moved n (sets b i vs) b j j (λ k l. sets-after b i vs (j + k) (omega arith)))

-- numbers this large are kept from omega
pub room : (b m x y : ℕ) → x < b - m → y < m → x + y < b
room b m x y h k = omega arith

-- what stands there, stored again
pub sets-self : (b : List ℕ) (i n : ℕ) → i + n ≤ length b → sets b i (take n (drop i b)) ≡ b
sets-self b i n h =
    let l = length-take-le n (drop i b) (omega (arith, length-drop i b)) in
    sets-eq (take n (drop i b)) b i (omega arith)
    ∙ rw (l, ← take-add i n b) (take-append-drop (i + n) b)

-- four runs written one after the other, behind what stands there
laid : (b : List ℕ) (at : ℕ) (d c f a : List ℕ) → at + 118 ≤ length b → length d ≡ 16 → length c ≡ 16 → length f ≡ 16
    → sets (sets (sets (sets b (at + 66) d) (at + 82) c) (at + 98) f) (at + 114) a ≡ sets b at (take 66 (drop at b) ++ d ++ c ++ f ++ a)
laid b at d c f a h ld lc lf =
    let k = take 66 (drop at b) in
    let l1 : length (take 66 (drop at b)) ≡ 66 = length-take-le 66 (drop at b) (omega (arith, length-drop at b)) in
    let l2 : length (k ++ d) ≡ 82 = omega (arith, length-append k d, ld, l1) in
    let l3 : length (k ++ d ++ c) ≡ 98 = omega (arith, length-append (k ++ d) c, lc, l2) in
    let l4 : length (k ++ d ++ c ++ f) ≡ 114 = omega (arith, length-append (k ++ d ++ c) f, lf, l3) in
    let s1 : sets b (at + 66) d ≡ sets b at (k ++ d) = ap (λ (z : List ℕ). sets z (at + 66) d) (sym (sets-self b at 66 (omega arith))) ∙ sets-next b at k d (at + 66) (ap (λ (m : ℕ). at + m) l1) in
    let s2 : sets (sets b (at + 66) d) (at + 82) c ≡ sets b at (k ++ d ++ c) = ap (λ (z : List ℕ). sets z (at + 82) c) s1 ∙ sets-next b at (k ++ d) c (at + 82) (ap (λ (m : ℕ). at + m) l2) in
    let s3 : sets (sets (sets b (at + 66) d) (at + 82) c) (at + 98) f ≡ sets b at (k ++ d ++ c ++ f) = ap (λ (z : List ℕ). sets z (at + 98) f) s2 ∙ sets-next b at (k ++ d ++ c) f (at + 98) (ap (λ (m : ℕ). at + m) l3) in
    ap (λ (z : List ℕ). sets z (at + 114) a) s3 ∙ sets-next b at (k ++ d ++ c ++ f) a (at + 114) (ap (λ (m : ℕ). at + m) l4)

-- a row's bytes with its four fields written anew
pub row_written : (b : List ℕ) (at d c f a : ℕ) → at + 118 ≤ length b
    → sets (sets (sets (sets b (at + 66) (le_bytes 16 d)) (at + 82) (le_bytes 16 c)) (at + 98) (le_bytes 16 f)) (at + 114) (le_bytes 4 a)
    ≡ sets b at (report_row_bytes (take 66 (drop at b), record { debits = d; credits = c; fees = f; apart = a }))
unfolding report_row_bytes
row_written b at d c f a h = laid b at (le_bytes 16 d) (le_bytes 16 c) (le_bytes 16 f) (le_bytes 4 a) h (le_bytes-length 16 d) (le_bytes-length 16 c) (le_bytes-length 16 f)

-- a number behind a sum that was written
pub sum_kept : (n : ℕ) (b c : List ℕ) (i x j : ℕ) → c ≡ sets b i (le_bytes 16 x) → i + 16 ≤ j → le n c j ≡ le n b j
sum_kept n b c i x j e h = le-kept n b c i (le_bytes 16 x) j e (omega (arith, le_bytes-length 16 x))

-- four additions, one behind the other
pub row-taken : (b b1 b2 b3 b4 : List ℕ) (at d c f a : ℕ) → at + 118 ≤ length b
    → b1 ≡ sets b (at + 66) (le_bytes 16 (le 16 b (at + 66) + d))
    → b2 ≡ sets b1 (at + 82) (le_bytes 16 (le 16 b1 (at + 82) + c))
    → b3 ≡ sets b2 (at + 98) (le_bytes 16 (le 16 b2 (at + 98) + f))
    → b4 ≡ sets b3 (at + 114) (le_bytes 4 (le 4 b3 (at + 114) + a))
    → b4 ≡ sets b at (report_row_bytes (take 66 (drop at b), plus (report_row_at b at).1 (record { debits = d; credits = c; fees = f; apart = a })))
unfolding report_row_at plus
row-taken b b1 b2 b3 b4 at d c f a h e1 e2 e3 e4 =
    let k1 : le 16 b1 (at + 82) ≡ le 16 b (at + 82) = sum_kept 16 b b1 (at + 66) (le 16 b (at + 66) + d) (at + 82) e1 (omega arith) in
    let k2 : le 16 b2 (at + 98) ≡ le 16 b (at + 98) =
    sum_kept 16 b1 b2 (at + 82) (le 16 b1 (at + 82) + c) (at + 98) e2 (omega arith) ∙ sum_kept 16 b b1 (at + 66) (le 16 b (at + 66) + d) (at + 98) e1 (omega arith) in
    let k3 : le 4 b3 (at + 114) ≡ le 4 b (at + 114) =
    sum_kept 4 b2 b3 (at + 98) (le 16 b2 (at + 98) + f) (at + 114) e3 (omega arith)
    ∙ sum_kept 4 b1 b2 (at + 82) (le 16 b1 (at + 82) + c) (at + 114) e2 (omega arith)
    ∙ sum_kept 4 b b1 (at + 66) (le 16 b (at + 66) + d) (at + 114) e1 (omega arith) in
    let f2 : b2 ≡ sets (sets b (at + 66) (le_bytes 16 (le 16 b (at + 66) + d))) (at + 82) (le_bytes 16 (le 16 b (at + 82) + c)) =
    e2 ∙ ap₂ (λ (l : List ℕ) (k : ℕ). sets l (at + 82) (le_bytes 16 (k + c))) e1 k1 in
    let f3 : b3 ≡ sets (sets (sets b (at + 66) (le_bytes 16 (le 16 b (at + 66) + d))) (at + 82) (le_bytes 16 (le 16 b (at + 82) + c))) (at + 98) (le_bytes 16 (le 16 b (at + 98) + f)) =
    e3 ∙ ap₂ (λ (l : List ℕ) (k : ℕ). sets l (at + 98) (le_bytes 16 (k + f))) f2 k2 in
    e4
    ∙ ap₂ (λ (l : List ℕ) (k : ℕ). sets l (at + 114) (le_bytes 4 (k + a))) f3 k3
    ∙ row_written b at (le 16 b (at + 66) + d) (le 16 b (at + 82) + c) (le 16 b (at + 98) + f) (le 4 b (at + 114) + a) h

module _ (b : List ℕ) (n p : ℕ) (h : p < n) where
  row_in : Memᴰ (report_row_at b (p * 118)) (rows_to b n)
  row_in = rw (row_at b n p ([], nothing) h) at (mem-at (rows_to b n) ([], nothing) p (omega (arith, rows-length b n)))

  -- what the row at a place can take
  pub takes_at : Takes (rows_to b n)
      → (le 16 b (p * 118 + 66) < 2 ^ 128 - 2 ^ 64) × (le 16 b (p * 118 + 82) < 2 ^ 128 - 2 ^ 64) × (le 16 b (p * 118 + 98) < 2 ^ 128 - 2 ^ 64) × (le 4 b (p * 118 + 114) ≤ 4294967294)
  unfolding report_row_at
  takes_at t = let w = t (report_row_at b (p * 118)) row_in in (w.debits_below, w.credits_below, w.fees_below, w.apart_most)

  -- the row at a place, written with sums added, is that row added
  pub row-added : (s : Sums) → n * 118 ≤ length b → Sorted (rows_to b n) → Takes (rows_to b n)
      → s.debits < 2 ^ 64 → s.credits < 2 ^ 64 → s.fees < 2 ^ 64 → s.apart ≤ 1
      → rows_to (sets b (p * 118) (report_row_bytes (take 66 (drop (p * 118) b), plus (report_row_at b (p * 118)).1 s))) n ≡ add_row (rows_to b n) (get_or (lines_of (rows_to b n)) p [], s)
  unfolding report_row_at plus
  row-added s l a t hd hc hf ha =
      let r = rows_to b n in
      let d : ReportRow = ([], nothing) in
      let w = takes_at t in
      let g : get_or (lines_of (rows_to b n)) p [] ≡ (get_or (rows_to b n) p ([], nothing)).0 = get_or-map (λ (x : ReportRow). x.0) (rows_to b n) p ([], nothing) in
      let q = row_at b n p ([], nothing) h in
      rows-set b n p (take 66 (drop (p * 118) b), plus (report_row_at b (p * 118)).1 s) h l (record {
        fits_line = length-take-le 66 (drop (p * 118) b) (omega (arith, length-drop (p * 118) b));
        fits_debits = room (2 ^ 128) (2 ^ 64) (le 16 b (p * 118 + 66)) s.debits w.0 hd;
        fits_credits = room (2 ^ 128) (2 ^ 64) (le 16 b (p * 118 + 82)) s.credits w.1 hc;
        fits_fees = room (2 ^ 128) (2 ^ 64) (le 16 b (p * 118 + 98)) s.fees w.2 hf;
        fits_apart = omega (arith, w.3);
      })
      ∙ ap (λ (x : ReportRow). set r p (x.0, plus x.1 s)) (sym q)
      ∙ sym (add-on r (get_or (lines_of r) p [], s) d p (omega (arith, rows-length b n))
      (λ i k. rw g (ascend-at d i p a k (omega (arith, rows-length b n)))) g)

-- a row that stands at a place, added: the lines stay
pub add-keeps : (r : Report) (p : ℕ) (s : Sums) → Sorted r → p < length r → lines_of (add_row r (get_or (lines_of r) p [], s)) ≡ lines_of r
add-keeps r p s a h =
    let d : ReportRow = ([], nothing) in
    let g : get_or (lines_of r) p [] ≡ (get_or r p ([], nothing)).0 = get_or-map (λ (x : ReportRow). x.0) r p ([], nothing) in
    ap lines_of (add-on r (get_or (lines_of r) p [], s) d p h (λ i k. rw g (ascend-at d i p a k h)) g)
    ∙ map-set_same (λ (x : ReportRow). x.0) r p ((get_or r p d).0, plus (get_or r p d).1 s) d refl
