-- Bytes moved up within a buffer, the last ones first: what is read lies before all that was stored, so it is as it was.
-- Assumes nothing.
use Rattle.std.proofs.Common.{◌≡◌, ℕ, suc, ◌+◌, ◌-◌, ◌<◌, ◌≤◌, List, [], ◌∷◌, ◌++◌, length, get_or, take, drop, set, sym, ap, ◌∙◌, append_assoc, add-zero, arith, length-drop, length-take-le, drop-cons, drop-drop, take-add}
use lib.Seq.{sets, sets-eq, length-sets}
use Rattle.wire.specs.Le.{le, le_bytes}
use Rattle.wire.proofs.Laws.{le-back}
use Rattle.wire.proofs.Sets.{sets-before, sets-set}
use Rattle.month.proofs.Views.{run-by-bytes}

-- stores right before a run of stores
sets-ahead : (l : List ℕ) (i : ℕ) (a b : List ℕ) (j : ℕ) → i + length a ≡ j → sets (sets l j b) i a ≡ sets l i (a ++ b)
sets-ahead l i [] b j e = ap (λ (k : ℕ). sets l k b) (sym e ∙ add-zero i)
sets-ahead l i (x ∷ a) b j e = rw (sets-set l j b i x (omega arith)) (sets-ahead (set l i x) (suc i) a b j (omega arith))

-- a part that begins sooner
part-more : (d : List ℕ) (i n m : ℕ) → take (n + m) (drop i d) ≡ take n (drop i d) ++ take m (drop (i + n) d)
part-more d i n m = take-add n m (drop i d) ∙ ap (λ (l : List ℕ). take n (drop i d) ++ take m l) (drop-drop n i d)

-- a run before the stores is as it was
run-before : (l : List ℕ) (p : ℕ) (vs : List ℕ) (i n : ℕ) → i + n ≤ p → i + n ≤ length l → take n (drop i (sets l p vs)) ≡ take n (drop i l)
run-before l p vs i n h f = run-by-bytes n (sets l p vs) l i i (omega (arith, length-sets l p vs)) f (λ k q. sets-before l p vs (i + k) (omega arith))

-- bytes moved from j on, and then those from i to j
pub move-more : (d₀ d : List ℕ) (to by i j : ℕ) → i ≤ j → j ≤ to → to + by ≤ length d₀
    → d ≡ sets d₀ (j + by) (take (to - j) (drop j d₀))
    → sets d (i + by) (take (j - i) (drop i d)) ≡ sets d₀ (i + by) (take (to - i) (drop i d₀))
move-more d₀ d to by i j g h f e =
    let moved = take (to - j) (drop j d₀) in
    let more : to - i ≡ (j - i) + (to - j) = omega arith in
    let seam : i + (j - i) ≡ j = omega arith in
    let long : length (take (j - i) (drop i d₀)) ≡ j - i = length-take-le (j - i) (drop i d₀) (rw length-drop (omega arith)) in
    rw
    (e, run-before d₀ (j + by) moved i (j - i) (omega arith) (omega arith), more, part-more d₀ i (j - i) (to - j), seam)
    (sets-ahead d₀ (i + by) (take (j - i) (drop i d₀)) moved (j + by) (omega arith))

-- eight bytes more, as a number
pub move-eight : (d₀ d : List ℕ) (to by i j : ℕ) → i + 8 ≡ j → j ≤ to → to + by ≤ length d₀
    → ((k : ℕ) → get_or d₀ k 0 < 256)
    → d ≡ sets d₀ (j + by) (take (to - j) (drop j d₀))
    → sets d (i + by) (le_bytes 8 (le 8 d i)) ≡ sets d₀ (i + by) (take (to - i) (drop i d₀))
move-eight d₀ d to by i j s h f b e =
    let moved = take (to - j) (drop j d₀) in
    let eight : j - i ≡ 8 = omega arith in
    let bytes : (k : ℕ) → k < 8 → get_or d (i + k) 0 < 256 = λ k l. rw (e, sets-before d₀ (j + by) moved (i + k) (omega arith)) (b (i + k)) in
    let long : length d ≡ length d₀ = rw e (length-sets d₀ (j + by) moved) in
    rw (le-back 8 d i bytes (omega arith), ← eight) (move-more d₀ d to by i j (omega arith) h f e)

-- one byte more
pub move-one : (d₀ d : List ℕ) (to by i j : ℕ) → i + 1 ≡ j → j ≤ to → to + by ≤ length d₀ → length d ≡ length d₀
    → d ≡ sets d₀ (j + by) (take (to - j) (drop j d₀))
    → set d (i + by) (get_or d i 0) ≡ sets d₀ (i + by) (take (to - i) (drop i d₀))
move-one d₀ d to by i j s h f g e =
    let one : j - i ≡ 1 = omega arith in
    let run : take (j - i) (drop i d) ≡ get_or d i 0 ∷ [] = rw (one, drop-cons d i 0 (omega arith)) in
    ap (sets d (i + by)) (sym run) ∙ move-more d₀ d to by i j (omega arith) h f e

-- a part put back, as stores
pub part-back : (xs ys : List ℕ) (a e : ℕ) → a ≤ e → e ≤ length xs → length ys ≡ e - a → take a xs ++ (ys ++ drop (e - a) (drop a xs)) ≡ sets xs a ys
part-back xs ys a e h g l =
    let seam : a + (e - a) ≡ a + length ys = omega arith in
    rw (drop-drop (e - a) a xs, seam) (sym (append_assoc (take a xs) ys (drop (a + length ys) xs)) ∙ sym (sets-eq ys xs a (omega arith)))
