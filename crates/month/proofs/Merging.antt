-- Empty rows put in for new lines, the last line first: the lines left are below it, so what they bring stands before its row, and what stands behind it stays.
-- Assumes nothing.
use Rattle.std.proofs.Common.{◌≡◌, ℕ, zero, suc, ◌+◌, ◌-◌, ◌*◌, ◌<◌, ◌≤◌, Bool, true, false, cond, ◌||◌, List, [], ◌∷◌, ◌++◌, length, get_or, take, drop, sym, refl, ap, ◌∙◌, subst, ap₂, append_assoc, arith, length-append, length-drop, take-append-drop, drop_of_length-le, length-take-le, get_or-drop, get_or-take, take-suc, ext_get_or, drop_at}
use mathlib.Core.List.Memᴰ
use mathlib.Core.List.{map-append, Memᴰ}
use native.Mathlib.Nat.{one-le-pow}
use lib.ListN.{length-map, get_or-map}
use lib.Seq.{sets, length-sets, drop-append-le}
use Rattle.wire.specs.Same.{same}
use Rattle.wire.specs.Zeros.{zeros}
use Rattle.wire.specs.Le.{le_bytes}
use Rattle.wire.specs.Order.{Below, lt_key}
use Rattle.wire.specs.Ascending.{Ascending, asc_nil, asc_cons}
use Rattle.wire.proofs.Order.{lt_key-below}
use Rattle.wire.proofs.Sets.{sets-before, sets-in, sets-after}
use Rattle.month.specs.Transfers.{Line}
use Rattle.month.specs.Sums.{nothing, plus}
use Rattle.month.specs.Report.{ReportRow, Report, Sorted, lines_of}
use Rattle.month.specs.Adding.{add_row, add_rows, among}
use Rattle.month.specs.Bytes.{report_row_at, rows_to, report_row_bytes}
use Rattle.month.specs.Lookup.{spot_of, empty_rows}
use Rattle.month.proofs.Tables.{lines-ascend}
use Rattle.month.proofs.Adding.{add-sorted, add-all-append}
use Rattle.month.proofs.Feeding.{add_comm, add_at}
use Rattle.month.proofs.Reading.{Fits}
use Rattle.month.proofs.Views.{rows-length, row_at, rows_same, rows-part, row-by-bytes, row-stored, run-stored, mem-at}
use Rattle.month.proofs.Spots.{spot-most, spot-below, spot-above}
use Rattle.month.proofs.Least.{mem-take, take-ascends}

-- a row below another is added before it
add-front : (a : Report) (e x : ReportRow) (c : Report) → Below x.0 e.0 → add_row (a ++ (e ∷ c)) x ≡ add_row a x ++ (e ∷ c)
unfolding add_row
add-front [] e x c h = rw (lt_key-below h)
add-front (y ∷ a) e x c h = go (lt_key x.0 y.0) (same x.0 y.0) (add-front a e x c h)
  where
    go : (s t : Bool) → add_row (a ++ (e ∷ c)) x ≡ add_row a x ++ (e ∷ c)
        → cond s (x ∷ y ∷ (a ++ (e ∷ c))) (cond t ((y.0, plus y.1 x.1) ∷ (a ++ (e ∷ c))) (y ∷ add_row (a ++ (e ∷ c)) x))
        ≡ cond s (x ∷ y ∷ a) (cond t ((y.0, plus y.1 x.1) ∷ a) (y ∷ add_row a x)) ++ (e ∷ c)
    go true t f = refl
    go false true f = refl
    go false false f = ap (λ (s : Report). y ∷ s) f

adds-front : (a : Report) (e : ReportRow) (c es : Report) → ((x : ReportRow) → Memᴰ x es → Below x.0 e.0) → add_rows (a ++ (e ∷ c)) es ≡ add_rows a es ++ (e ∷ c)
unfolding add_rows
adds-front a e c [] h = refl
adds-front a e c (x ∷ es) h = rw (add-front a e x c (h x (Memᴰ.head refl))) (adds-front (add_row a x) e c es (λ y i. h y (Memᴰ.tail i)))

-- a row added last may be added first
adds_then : {r : Report} (e : ReportRow) (es : Report) → Sorted r → add_row (add_rows r es) e ≡ add_rows (add_row r e) es
unfolding add_rows
adds_then e [] a = refl
adds_then {r = r} e (x ∷ es) a = adds_then {r = add_row r x} e es (add-sorted x a) ∙ ap (λ (s : Report). add_rows s es) (add_comm x e a)

module _ {r : Report} (k : Line) (a : Sorted r) (new : among k (lines_of r) ≡ false) where
  -- a new line's row at its spot
  add-spot : add_row r (k, nothing) ≡ take (spot_of k (lines_of r)) r ++ ((k, nothing) ∷ drop (spot_of k (lines_of r)) r)
  add-spot =
      let l = lines_of r in
      let long = length-map r (λ (x : ReportRow). x.0) in
      add_at r (k, nothing) ([], nothing) (spot_of k l) (omega (arith, spot-most k l, long))
      (λ i h. subst (λ (z : Line). Below z k) (get_or-map (λ (x : ReportRow). x.0) r i ([], nothing)) (spot-below k l [] i h))
      (λ h. subst (λ (z : Line). Below k z) (get_or-map (λ (x : ReportRow). x.0) r (spot_of k l) ([], nothing)) (spot-above k [] (lines-ascend a) new (spot_of k l) (omega arith) (omega (arith, long))))

  -- empty rows of lines that are below it, and its own
  merge-last : (ls : List Line) → ((x : Line) → Memᴰ x ls → Below x k)
      → add_rows r (empty_rows (ls ++ (k ∷ []))) ≡ add_rows (take (spot_of k (lines_of r)) r) (empty_rows ls) ++ ((k, nothing) ∷ drop (spot_of k (lines_of r)) r)
  unfolding add_rows
  merge-last ls h =
      ap (add_rows r) (map-append (λ (x : Line). (x, nothing)) ls (k ∷ []))
      ∙ add-all-append r (empty_rows ls) ((k, nothing) ∷ [])
      ∙ adds_then (k, nothing) (empty_rows ls) a
      ∙ ap (λ (s : Report). add_rows s (empty_rows ls)) add-spot
      ∙ adds-front (take (spot_of k (lines_of r)) r) (k, nothing) (drop (spot_of k (lines_of r)) r) (empty_rows ls) below
    where
      below : (x : ReportRow) → Memᴰ x (empty_rows ls) → Below x.0 k
      below x i = let y = Memᴰ.of_map (λ (x : Line). (x, nothing)) ls i in subst (λ (z : ReportRow). Below z.0 k) y.2 (h y.0 y.1)

-- the first rows ascend too, and have no line more
pub front-sorted : (n : ℕ) {r : Report} → Sorted r → Sorted (take n r)
front-sorted zero a = asc_nil
front-sorted (suc n) asc_nil = asc_nil
front-sorted (suc n) (asc_cons {t = r} f a) = asc_cons (λ x i. f x (mem-take n r i)) (front-sorted n a)

pub front-among : (k : Line) (n : ℕ) (r : Report) → among k (lines_of r) ≡ false → among k (lines_of (take n r)) ≡ false
unfolding among
front-among k zero r e = refl
front-among k (suc n) [] e = refl
front-among k (suc n) (x ∷ r) e = go (same k x.0) e (λ f. front-among k n r f)
  where
    go : (b : Bool) → b || among k (lines_of r) ≡ false → (among k (lines_of r) ≡ false → among k (lines_of (take n r)) ≡ false) → b || among k (lines_of (take n r)) ≡ false
    go true f g = f
    go false f g = g f

-- rows from one place on, in two parts
rows_split : (b : List ℕ) (a m n : ℕ) → a ≤ m → m ≤ n → drop a (rows_to b n) ≡ drop a (rows_to b m) ++ drop m (rows_to b n)
rows_split b a m n h g =
    let long = length-take-le m (rows_to b n) (omega (arith, rows-length b n)) in
    ap (drop a) (sym (take-append-drop m (rows_to b n)))
    ∙ drop-append-le a (take m (rows_to b n)) (drop m (rows_to b n)) (omega (arith, long))
    ∙ ap (λ (s : Report). drop a s ++ drop m (rows_to b n)) (rows-part b n m g)

-- rows that stand elsewhere
rows-moved : (b c : List ℕ) (a m a' m' : ℕ) → a ≤ m → a + m' ≡ a' + m → ((q : ℕ) → a + q < m → report_row_at b ((a + q) * 118) ≡ report_row_at c ((a' + q) * 118))
    → drop a (rows_to b m) ≡ drop a' (rows_to c m')
rows-moved b c a m a' m' h e f =
    let d : ReportRow = ([], nothing) in
    let p = length-drop a (rows_to b m) in
    let p' = length-drop a' (rows_to c m') in
    let l = rows-length b m in
    let l' = rows-length c m' in
    ext_get_or d (drop a (rows_to b m)) (drop a' (rows_to c m')) (omega (arith, p, p', l, l'))
    (λ q i.
    get_or-drop a (rows_to b m) q d ∙ row_at b m (a + q) d (omega (arith, p, l)) ∙ f q (omega (arith, p, l))
    ∙ sym (get_or-drop a' (rows_to c m') q d ∙ row_at c m' (a' + q) d (omega (arith, p, l))))

-- a row without sums, as bytes
empty-bytes : (k : Line) → report_row_bytes (k, nothing) ≡ k ++ zeros 52
unfolding report_row_bytes nothing le_bytes
empty-bytes k =
    append_assoc (k ++ zeros 16 ++ zeros 16) (zeros 16) (zeros 4)
    ∙ append_assoc (k ++ zeros 16) (zeros 16) (zeros 20)
    ∙ append_assoc k (zeros 16) (zeros 36)

empty-fits : (k : Line) → length k ≡ 66 → Fits (k, nothing)
unfolding nothing
empty-fits k e =
    let wide = one-le-pow 16 256 (omega arith) in
    record { fits_line = e; fits_debits = wide; fits_credits = wide; fits_fees = wide; fits_apart = one-le-pow 4 256 (omega arith) }

-- the bytes of rows p to i moved up by j rows, and an empty row put before them
abbrev pub opened : List ℕ → ℕ → ℕ → ℕ → List ℕ
opened b p i j = sets b (p * 118 + j * 118) (take (i * 118 - p * 118) (drop (p * 118) b))

abbrev pub put_in : List ℕ → ℕ → ℕ → ℕ → ℕ → Line → List ℕ
put_in b p i j j' k = sets (opened b p i j) ((p + j') * 118) (k ++ zeros 52)

module _ (b : List ℕ) (p i j j' n : ℕ) (k : Line) (h : p ≤ i) (s : j' + 1 ≡ j) (g : i + j ≤ n) (f : n * 118 ≤ length b) (w : length k ≡ 66) where
  moved_length : length (take (i * 118 - p * 118) (drop (p * 118) b)) ≡ i * 118 - p * 118
  moved_length = length-take-le (i * 118 - p * 118) (drop (p * 118) b) (omega (arith, length-drop (p * 118) b))

  opened-length : length (opened b p i j) ≡ length b
  opened-length = length-sets b (p * 118 + j * 118) (take (i * 118 - p * 118) (drop (p * 118) b))

  row-size : length (k ++ zeros 52) ≡ 118
  row-size = omega (arith, length-append k (zeros 52))

  put-length : length (put_in b p i j j' k) ≡ length b
  put-length = length-sets (opened b p i j) ((p + j') * 118) (k ++ zeros 52) ∙ opened-length

  -- the rows before stay
  pub rows_before : rows_to (put_in b p i j j' k) p ≡ rows_to b p
  rows_before =
      rows_same (put_in b p i j j' k) b p
      (λ q l. row-by-bytes (put_in b p i j j' k) b (q * 118) (q * 118) (omega (arith, put-length)) (omega arith)
      (λ m o. sets-before (opened b p i j) ((p + j') * 118) (k ++ zeros 52) (q * 118 + m) (omega arith)
      ∙ sets-before b (p * 118 + j * 118) (take (i * 118 - p * 118) (drop (p * 118) b)) (q * 118 + m) (omega arith)))

  row_put : report_row_at (put_in b p i j j' k) ((p + j') * 118) ≡ (k, nothing)
  row_put =
      row-stored (put_in b p i j j' k) ((p + j') * 118) {x = (k, nothing)} (empty-fits k w)
      (run-stored (opened b p i j) ((p + j') * 118) (k ++ zeros 52) 118 row-size (omega (arith, opened-length)) ∙ sym (empty-bytes k))

  row-moved-up : (q : ℕ) → p + j + q < i + j → report_row_at (put_in b p i j j' k) ((p + j + q) * 118) ≡ report_row_at b ((p + q) * 118)
  row-moved-up q l =
      row-by-bytes (put_in b p i j j' k) b ((p + j + q) * 118) ((p + q) * 118) (omega (arith, put-length)) (omega arith)
      (λ m o.
      let at : (p + j + q) * 118 + m ≡ p * 118 + j * 118 + (q * 118 + m) = omega arith in
      let was : p * 118 + (q * 118 + m) ≡ (p + q) * 118 + m = omega arith in
      sets-after (opened b p i j) ((p + j') * 118) (k ++ zeros 52) ((p + j + q) * 118 + m) (omega (arith, row-size))
      ∙ ap (λ (z : ℕ). get_or (opened b p i j) z 0) at
      ∙ sets-in b (p * 118 + j * 118) (take (i * 118 - p * 118) (drop (p * 118) b)) (q * 118 + m) (omega (arith, moved_length)) (omega (arith, moved_length))
      ∙ get_or-take (i * 118 - p * 118) (drop (p * 118) b) (q * 118 + m) 0 (omega arith)
      ∙ get_or-drop (p * 118) b (q * 118 + m) 0
      ∙ ap (λ (z : ℕ). get_or b z 0) was)

  row-behind : (q : ℕ) → i + j + q < n → report_row_at (put_in b p i j j' k) ((i + j + q) * 118) ≡ report_row_at b ((i + j + q) * 118)
  row-behind q l =
      row-by-bytes (put_in b p i j j' k) b ((i + j + q) * 118) ((i + j + q) * 118) (omega (arith, put-length)) (omega arith)
      (λ m o. sets-after (opened b p i j) ((p + j') * 118) (k ++ zeros 52) ((i + j + q) * 118 + m) (omega (arith, row-size))
      ∙ sets-after b (p * 118 + j * 118) (take (i * 118 - p * 118) (drop (p * 118) b)) ((i + j + q) * 118 + m) (omega (arith, moved_length)))

  row-alone : drop (p + j') (rows_to (put_in b p i j j' k) (p + j)) ≡ (k, nothing) ∷ []
  unfolding rows_to
  row-alone =
      let next : p + j ≡ suc (p + j') = omega arith in
      rw next
      (drop_at (rows_to (put_in b p i j j' k) (p + j')) (report_row_at (put_in b p i j j' k) ((p + j') * 118) ∷ []) (p + j') (rows-length (put_in b p i j j' k) (p + j'))
      ∙ ap (λ (x : ReportRow). x ∷ []) row_put)

  -- from the empty row on
  rows_behind : drop (p + j') (rows_to (put_in b p i j j' k) n) ≡ (k, nothing) ∷ (drop p (rows_to b i) ++ drop (i + j) (rows_to b n))
  rows_behind =
      let c = put_in b p i j j' k in
      rows_split c (p + j') (p + j) n (omega arith) (omega arith)
      ∙ ap₂ ◌++◌ row-alone
      (rows_split c (p + j) (i + j) n (omega arith) (omega arith)
      ∙ ap₂ ◌++◌ (rows-moved c b (p + j) (i + j) p i (omega arith) (omega arith) row-moved-up) (rows-moved c b (i + j) n (i + j) n (omega arith) refl row-behind))

  -- one line less to be put in, and what they all give together stays
  pub put_step : Sorted (rows_to b i) → among k (lines_of (rows_to b i)) ≡ false → p ≡ spot_of k (lines_of (rows_to b i))
      → (ls : List Line) → ((x : Line) → Memᴰ x ls → Below x k)
      → add_rows (rows_to (put_in b p i j j' k) p) (empty_rows ls) ++ drop (p + j') (rows_to (put_in b p i j j' k) n)
      ≡ add_rows (rows_to b i) (empty_rows (ls ++ (k ∷ []))) ++ drop (i + j) (rows_to b n)
  put_step a new e ls below =
      let r = rows_to b i in
      let t = drop (i + j) (rows_to b n) in
      rw (rows_before, rows_behind, ← rows-part b i p h)
      (sym (append_assoc (add_rows (take p r) (empty_rows ls)) ((k, nothing) ∷ drop p r) t)
      ∙ ap (λ (s : Report). s ++ t) (ap (λ (z : ℕ). add_rows (take z r) (empty_rows ls) ++ ((k, nothing) ∷ drop z r)) e ∙ sym (merge-last k a new ls below)))

-- rows of which none is left to be moved
pub rows_none : (b : List ℕ) (n : ℕ) → drop n (rows_to b n) ≡ []
rows_none b n = drop_of_length-le (rows_to b n) {i = n} (omega (arith, rows-length b n))

pub rows_whole : (b : List ℕ) (i n : ℕ) → i ≤ n → rows_to b i ++ drop i (rows_to b n) ≡ rows_to b n
rows_whole b i n h = ap (λ (s : Report). s ++ drop i (rows_to b n)) (sym (rows-part b n i h)) ∙ take-append-drop i (rows_to b n)

-- the last of some lines that ascend is above the others
above-others : (l : List Line) (k : Line) → Ascending (λ x. x) (l ++ (k ∷ [])) → (x : Line) → Memᴰ x l → Below x k
above-others [] k s x i = absurd (Memᴰ.not-nil i)
above-others (y ∷ l) k (asc_cons f s) x (Memᴰ.head e) = rw e (f k (Memᴰ.append_right l (Memᴰ.head refl)))
above-others (y ∷ l) k (asc_cons f s) x (Memᴰ.tail i) = above-others l k s x i

module _ {l : List Line} (a : Ascending (λ x. x) l) (j j' : ℕ) (s : j' + 1 ≡ j) (g : j ≤ length l) where
  -- the lines up to the j-th, and that one
  pub lines_next : take j l ≡ take j' l ++ (get_or l j' [] ∷ [])
  lines_next =
      let next : j ≡ suc j' = omega arith in
      rw (next, take-suc l j' [] (omega arith))

  pub lines-below : (x : Line) → Memᴰ x (take j' l) → Below x (get_or l j' [])
  lines-below = above-others (take j' l) (get_or l j' []) (rw lines_next at (take-ascends j a))

  pub line-held : Memᴰ (get_or l j' []) l
  line-held = mem-at l [] j' (omega arith)
