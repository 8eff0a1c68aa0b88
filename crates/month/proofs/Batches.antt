-- A table fed in parts: transfers may wait, since sums ask for no order, and rows without sums bring nothing.
-- Assumes nothing.
use Rattle.std.proofs.Common.{◌≡◌, ℕ, zero, suc, ◌+◌, ◌-◌, ◌*◌, ◌/◌, ◌<◌, ◌≤◌, Bool, true, false, cond, ◌⊎◌, List, [], ◌∷◌, ◌++◌, length, get_or, take, set, sym, refl, ap, ◌∙◌, inl, inr, append-nil, add-zero, add-suc, suc-add, add-one, arith, take_all, take-suc-set}
use mathlib.Core.List.Memᴰ
use mathlib.Core.List.Permᴰ
use mathlib.Core.List.{Memᴰ}
use lib.ListN.{length-map}
use lib.Seq.{append_snoc}
use Rattle.wire.specs.Same.{same}
use Rattle.wire.specs.Order.{Below, shorter}
use Rattle.wire.specs.Tab.{tab}
use Rattle.wire.specs.Zeros.{zeros}
use Rattle.wire.specs.Members.{SameMembers}
use Rattle.wire.proofs.Below.{and_left, and_right}
use Rattle.wire.proofs.Tab.{tab-length}
use Rattle.month.specs.Transfers.{FedTransfer, Line, summed, own, source_line, destination_line, touched, AllFormed}
use Rattle.month.specs.Sums.{Sums, nothing, plus, sums_of}
use Rattle.month.specs.Report.{Report, Sorted, lines_of, lines_in, used, held_on, fed_into}
use Rattle.month.specs.Adding.{add_rows, among}
use Rattle.month.specs.Bytes.{rows_to, transfers_to, transfers_in}
use Rattle.month.specs.Lookup.{fed_at, transfers_at, transfers_from, all_among, has_all, new_above, empty_rows}
use Rattle.month.specs.Standing.{Bears, Stands, PlacesIn}
use Rattle.month.proofs.Adds.{plus-nothing}
use Rattle.month.proofs.Lines.{ascending-same}
use Rattle.month.proofs.Tables.{mem?, report-unique}
use Rattle.month.proofs.Parts.{lines-mem, mem-lines}
use Rattle.month.proofs.Reports.{lines-length, fed-sorted, fed-lines, fed-held, fed-nothing, fed-fed, fed-perm}
use Rattle.month.proofs.Adding.{add-all-held, add-all-lines}
use Rattle.month.proofs.Rows.{among_in, among-out, fed-used, fed-part-used}
use Rattle.month.proofs.Reading.{transfer-formed}
use Rattle.month.proofs.Views.{mem-at}
use Rattle.month.proofs.Spots.{among-true}
use Rattle.month.proofs.Least.{new_in-above, new-of, new-count, new-most}
use Rattle.month.proofs.Noting.{map-join}
use Rattle.month.proofs.Gathering.{transfers-next, place_in}
use Rattle.month.proofs.Bearing.{bears-less, bears-fed, bears-all}

-- a transfer that goes before those that wait, and one that waits behind them
fed-before : (r : Report) (x : FedTransfer) (ws : List FedTransfer) → fed_into (fed_into r (x ∷ [])) ws ≡ fed_into (fed_into r ws) (x ∷ [])
fed-before r x ws =
    fed-fed r (x ∷ []) ws
    ∙ sym (fed-perm r (Permᴰ.middle x ws []) ∙ ap (λ (l : List FedTransfer). fed_into r (x ∷ l)) (append-nil ws))
    ∙ sym (fed-fed r ws (x ∷ []))

fed-behind : (r : Report) (x : FedTransfer) (ws : List FedTransfer) → fed_into r (ws ++ (x ∷ [])) ≡ fed_into (fed_into r ws) (x ∷ [])
fed-behind r x ws = sym (fed-fed r ws (x ∷ []))

-- a transfer that waits is one of those that do
at_there : (t wait : List ℕ) (i : ℕ) → i < length wait → Memᴰ (fed_at t (get_or wait i 0)) (transfers_at t wait)
at_there t wait i h = Memᴰ.map (fed_at t) (mem-at wait 0 i h)

-- the transfers of a table, in parts
from_more : (t : List ℕ) (i n : ℕ) → transfers_from t i (suc n) ≡ transfers_from t i n ++ (fed_at t (i + n) ∷ [])
unfolding tab
from_more t i zero = rw add-zero
from_more t i (suc n) = ap (λ (l : List FedTransfer). fed_at t i ∷ l) (from_more t (suc i) n ∙ ap (λ (k : ℕ). transfers_from t (suc i) n ++ (fed_at t k ∷ [])) (suc-add i n ∙ sym (add-suc i n)))

pub to-from : (t : List ℕ) (i n : ℕ) → transfers_to t (i + n) ≡ transfers_to t i ++ transfers_from t i n
unfolding tab transfers_to
to-from t i zero = rw add-zero (sym (append-nil (transfers_to t i)))
to-from t i (suc n) =
    ap (transfers_to t) (add-suc i n ∙ sym (suc-add i n))
    ∙ to-from t (suc i) n
    ∙ append_snoc (transfers_to t i) (fed_at t i) (transfers_from t (suc i) n)

pub from-formed : (t : List ℕ) (i n : ℕ) → ((j : ℕ) → get_or t j 0 < 256) → i + n ≤ length t / 150 → AllFormed (transfers_from t i n)
unfolding tab
from-formed t i zero h l x m = absurd (Memᴰ.not-nil m)
from-formed t i (suc n) h l x (Memᴰ.head e) = rw e (transfer-formed t (i * 150) h (omega arith))
from-formed t i (suc n) h l x (Memᴰ.tail m) = from-formed t (suc i) n h (omega arith) x m

-- lines that are all there, read and shown
all_true : (l old : List Line) {k : Line} → all_among l old ≡ true → Memᴰ k l → Memᴰ k old
unfolding all_among
all_true [] old e i = absurd (Memᴰ.not-nil i)
all_true (x ∷ l) old e (Memᴰ.head q) = Memᴰ.cast q (among-true x old (and_left (among x old) (all_among l old) e))
all_true (x ∷ l) old e (Memᴰ.tail i) = all_true l old (and_right (among x old) (all_among l old) e) i

all_in : (l old : List Line) → ((k : Line) → Memᴰ k l → Memᴰ k old) → all_among l old ≡ true
unfolding all_among
all_in [] old f = refl
all_in (x ∷ l) old f = rw (among_in (f x (Memᴰ.head refl)), all_in l old (λ k i. f k (Memᴰ.tail i)))

-- a report that has all lines of some transfers has them after feeding
has-still : (r : Report) (us ts : List FedTransfer) (x : FedTransfer) → all_among (lines_in ts) (lines_of r) ≡ true → Memᴰ x ts → has_all (fed_into r us) x ≡ true
has-still r us ts x e m =
    all_in (touched x) (lines_of (fed_into r us))
    (λ k i. rw (fed-lines r us) ((ascending-same (lines_of r ++ lines_in us)).from (Memᴰ.append_left (lines_in us) (all_true (lines_in ts) (lines_of r) e (mem-lines m i)))))

-- no line of a transfer is empty
above-empty : (a : List ℕ) (x : ℕ) (b : List ℕ) → Below [] (a ++ (x ∷ b))
above-empty [] x b = shorter
above-empty (y ∷ a) x b = shorter

touched-above : (t : FedTransfer) (k : Line) → Memᴰ k (touched t) → Below [] k
unfolding touched own source_line destination_line
touched-above t k i = go (summed t) i
  where
    go : (b : Bool) → Memᴰ k (cond b (own t ∷ source_line t ∷ destination_line t ∷ []) (own t ∷ [])) → Below [] k
    go true (Memᴰ.head e) = rw e (above-empty t.mint 0 (zeros 32))
    go true (Memᴰ.tail (Memᴰ.head e)) = rw e (above-empty t.mint 1 t.source)
    go true (Memᴰ.tail (Memᴰ.tail (Memᴰ.head e))) = rw e (above-empty t.mint 1 t.destination)
    go true (Memᴰ.tail (Memᴰ.tail (Memᴰ.tail j))) = absurd (Memᴰ.not-nil j)
    go false (Memᴰ.head e) = rw e (above-empty t.mint 0 (zeros 32))
    go false (Memᴰ.tail j) = absurd (Memᴰ.not-nil j)

pub lines-above : (ts : List FedTransfer) (k : Line) → Memᴰ k (lines_in ts) → Below [] k
lines-above ts k i = let m = lines-mem ts i in touched-above m.0 k m.2

-- the lines that some transfers bring to a report
module _ (r : Report) (ts : List FedTransfer) where
  abbrev pub fresh : List Line
  fresh = new_above (lines_of r) [] (lines_in ts)

  -- as many as feeding brings
  fresh-used : Sorted r → used r + length fresh ≡ used (fed_into r ts)
  fresh-used s = omega (arith, fed-used ts s, new-count (lines_of r) (lines_in ts) (λ k i. lines-above ts k i))

  -- three to a transfer at most
  fresh-whole : length ts ≤ 1024 → take 3072 fresh ≡ fresh
  fresh-whole h = take_all 3072 fresh (omega (arith, new-count (lines_of r) (lines_in ts) (λ k i. lines-above ts k i), new-most (lines_of r) (lines_in ts), lines-length ts))

  -- none of them is there
  fresh-out : (x : Line) → Memᴰ x fresh → among x (lines_of r) ≡ false
  fresh-out x i = among-out x (lines_of r) (new-of (lines_of r) [] (lines_in ts) i).2

  empty-lines : (ks : List Line) → lines_of (empty_rows ks) ≡ ks
  empty-lines [] = refl
  empty-lines (k ∷ ks) = ap (λ (l : List Line). k ∷ l) (empty-lines ks)

  empty-held : (k : Line) (ks : List Line) → held_on k (empty_rows ks) ≡ nothing
  unfolding held_on
  empty-held k [] = refl
  empty-held k (x ∷ ks) = rw (empty-held k ks) (go (same k x))
    where
      go : (b : Bool) → plus (cond b nothing nothing) nothing ≡ nothing
      go true = plus-nothing nothing
      go false = plus-nothing nothing

  -- with empty rows for them every line of the transfers is there
  admitted-lines : SameMembers (lines_of (add_rows r (empty_rows fresh))) (lines_of r ++ fresh)
  admitted-lines = rw (empty-lines fresh) at (add-all-lines r (empty_rows fresh))

  admitted-in : (k : Line) → Memᴰ k (lines_in ts) → Memᴰ k (lines_of (add_rows r (empty_rows fresh)))
  admitted-in k i = go (mem? k (lines_of r))
    where
      go : Memᴰ k (lines_of r) ⊎ (¬ Memᴰ k (lines_of r)) → Memᴰ k (lines_of (add_rows r (empty_rows fresh)))
      go (inl j) = admitted-lines.from (Memᴰ.append_left fresh j)
      go (inr n) = admitted-lines.from (Memᴰ.append_right (lines_of r) (new_in-above i (lines-above ts k i) n))

  pub admitted-all : all_among (lines_in ts) (lines_of (add_rows r (empty_rows fresh))) ≡ true
  admitted-all = all_in (lines_in ts) (lines_of (add_rows r (empty_rows fresh))) (λ k i. admitted-in k i)

  -- and they bring nothing else
  pub admitted-fed : fed_into (add_rows r (empty_rows fresh)) ts ≡ fed_into r ts
  admitted-fed =
      report-unique
      (fed-sorted (add_rows r (empty_rows fresh)) ts)
      (fed-sorted r ts)
      (record { to = λ i. to (Memᴰ.append_cases (lines_of (add_rows r (empty_rows fresh))) (fed-of (add_rows r (empty_rows fresh)) i)); from = λ i. from (Memᴰ.append_cases (lines_of r) (fed-of r i)) })
      each
    where
      fed-of : (s : Report) {k : Line} → Memᴰ k (lines_of (fed_into s ts)) → Memᴰ k (lines_of s ++ lines_in ts)
      fed-of s i = (ascending-same (lines_of s ++ lines_in ts)).to (rw (fed-lines s ts) at i)

      in-fed : (s : Report) {k : Line} → Memᴰ k (lines_of s ++ lines_in ts) → Memᴰ k (lines_of (fed_into s ts))
      in-fed s i = rw (fed-lines s ts) ((ascending-same (lines_of s ++ lines_in ts)).from i)

      known : {k : Line} → Memᴰ k (lines_of r) ⊎ Memᴰ k fresh → Memᴰ k (lines_of (fed_into r ts))
      known (inl i) = in-fed r (Memᴰ.append_left (lines_in ts) i)
      known (inr i) = in-fed r (Memᴰ.append_right (lines_of r) (new-of (lines_of r) [] (lines_in ts) i).0)

      to : {k : Line} → Memᴰ k (lines_of (add_rows r (empty_rows fresh))) ⊎ Memᴰ k (lines_in ts) → Memᴰ k (lines_of (fed_into r ts))
      to (inl i) = known (Memᴰ.append_cases (lines_of r) (admitted-lines.to i))
      to (inr i) = in-fed r (Memᴰ.append_right (lines_of r) i)

      from : {k : Line} → Memᴰ k (lines_of r) ⊎ Memᴰ k (lines_in ts) → Memᴰ k (lines_of (fed_into (add_rows r (empty_rows fresh)) ts))
      from (inl i) = in-fed (add_rows r (empty_rows fresh)) (Memᴰ.append_left (lines_in ts) (admitted-lines.from (Memᴰ.append_left fresh i)))
      from (inr i) = in-fed (add_rows r (empty_rows fresh)) (Memᴰ.append_right (lines_of (add_rows r (empty_rows fresh))) i)

      each : (k : Line) → held_on k (fed_into (add_rows r (empty_rows fresh)) ts) ≡ held_on k (fed_into r ts)
      each k =
          fed-held k (add_rows r (empty_rows fresh)) ts
          ∙ ap (λ (u : Sums). plus u (sums_of k ts)) (add-all-held k r (empty_rows fresh) ∙ ap (plus (held_on k r)) (empty-held k fresh) ∙ plus-nothing (held_on k r))
          ∙ sym (fed-held k r ts)

-- what stands in a buffer after feeding
pub stands-fed : (b : List ℕ) (n : ℕ) (r : Report) (ts : List FedTransfer) → n * 118 ≤ length b → rows_to b n ≡ fed_into r ts → Stands b n
stands-fed b n r ts h e = record { inside = h; sorted = rw e (fed-sorted r ts) }

-- one of the waiting transfers posted: the report has its lines
pub posted : (r cur next : Report) (t wait : List ℕ) (i : ℕ) (b : Bool) → ((j : ℕ) → get_or t j 0 < 256) → i < length wait → length wait ≤ 1024
    → PlacesIn t wait → all_among (lines_in (transfers_at t wait)) (lines_of r) ≡ true
    → cur ≡ fed_into r (transfers_at t (take i wait)) → Bears (length wait - i) cur
    → b ≡ has_all cur (fed_at t (get_or wait i 0)) → next ≡ cond b (fed_into cur (fed_at t (get_or wait i 0) ∷ [])) cur
    → (next ≡ fed_into r (transfers_at t (take (i + 1) wait))) × Bears (length wait - (i + 1)) next
posted r cur next t wait i b bytes h m places all ec w eb en =
    let x = fed_at t (get_or wait i 0) in
    let ws = transfers_at t (take i wait) in
    let yes : b ≡ true = eb ∙ ap (λ (s : Report). has_all s x) ec ∙ has-still r ws (transfers_at t wait) x all (at_there t wait i h) in
    let e : next ≡ fed_into cur (x ∷ []) = en ∙ rw yes in (
      e ∙ ap (λ (s : Report). fed_into s (x ∷ [])) ec ∙ sym (fed-behind r x ws) ∙ ap (fed_into r) (sym (transfers-next t wait i (omega arith))),
      rw e (bears-fed (length wait - (i + 1)) (transfer-formed t (get_or wait i 0 * 150) bytes (place_in t wait i places h)) (rw ec (fed-sorted r ws)) (omega arith)
          (bears-less (suc (length wait - (i + 1))) (length wait - i) cur (omega arith) w)),
    )

-- a walk's step: the transfer at its place is posted, or it waits
module _ (r cur next : Report) (t wait : List ℕ) (from waiting i : ℕ) (later : fed_into cur (transfers_at t (take waiting wait)) ≡ fed_into r (transfers_from t from (i - from))) (past : from ≤ i) where
  ahead : fed_into r (transfers_from t from (i + 1 - from)) ≡ fed_into (fed_into r (transfers_from t from (i - from))) (fed_at t i ∷ [])
  ahead =
      let n : i + 1 - from ≡ suc (i - from) = omega arith in
      let k : from + (i - from) ≡ i = omega arith in
      rw n (ap (fed_into r) (from_more t from (i - from) ∙ ap (λ (j : ℕ). transfers_from t from (i - from) ++ (fed_at t j ∷ [])) k)
      ∙ fed-behind r (fed_at t i) (transfers_from t from (i - from)))

  pub step-posts : next ≡ fed_into cur (fed_at t i ∷ []) → fed_into next (transfers_at t (take waiting wait)) ≡ fed_into r (transfers_from t from (i + 1 - from))
  step-posts e =
      ap (λ (s : Report). fed_into s (transfers_at t (take waiting wait))) e
      ∙ fed-before cur (fed_at t i) (transfers_at t (take waiting wait))
      ∙ ap (λ (s : Report). fed_into s (fed_at t i ∷ [])) later
      ∙ sym ahead

  pub step_waits : next ≡ cur → waiting < length wait → fed_into next (transfers_at t (take (waiting + 1) (set wait waiting i))) ≡ fed_into r (transfers_from t from (i + 1 - from))
  step_waits e h =
      ap (λ (s : Report). fed_into s (transfers_at t (take (waiting + 1) (set wait waiting i)))) e
      ∙ ap (fed_into cur) (rw (add-one, take-suc-set wait waiting i h) (map-join (fed_at t) (take waiting wait) (i ∷ [])))
      ∙ fed-behind cur (fed_at t i) (transfers_at t (take waiting wait))
      ∙ ap (λ (s : Report). fed_into s (fed_at t i ∷ [])) later
      ∙ sym ahead

-- one more place that waits
pub places-more : (t wait : List ℕ) (waiting i : ℕ) → waiting < length wait → i * 150 + 150 ≤ length t → PlacesIn t (take waiting wait) → PlacesIn t (take (waiting + 1) (set wait waiting i))
places-more t wait waiting i h l f j m = go (Memᴰ.append_cases (take waiting wait) (rw (add-one, take-suc-set wait waiting i h) at m))
  where
    go : Memᴰ j (take waiting wait) ⊎ Memᴰ j (i ∷ []) → j * 150 + 150 ≤ length t
    go (inl k) = f j k
    go (inr k) = rw (Memᴰ.eq_of_singleton k) l

-- where a walk begins
pub from-none : (t : List ℕ) (i : ℕ) → transfers_from t i (i - i) ≡ []
unfolding tab
from-none t i = let z : i - i ≡ 0 = omega arith in rw z

-- rows for the lines that some waiting transfers bring
module _
    (r : Report)
    (t wait : List ℕ)
    {lines : List Line}
    (few : length wait ≤ 1024)
    (g : lines ≡ take 3072 (new_above (lines_of r) [] (lines_in (transfers_at t wait)))) where
  all-fresh : lines ≡ fresh r (transfers_at t wait)
  all-fresh = g ∙ fresh-whole r (transfers_at t wait) (omega (arith, length-map wait (fed_at t)))

  pub admit-used : Sorted r → used r + length lines ≡ used (fed_into r (transfers_at t wait))
  admit-used s = omega (arith, fresh-used r (transfers_at t wait) s, ap (λ (l : List Line). length l) all-fresh)

  pub admit-out : (x : Line) → Memᴰ x lines → among x (lines_of r) ≡ false
  admit-out x i = fresh-out r (transfers_at t wait) x (rw all-fresh at i)

  pub admit-rows : add_rows r (empty_rows lines) ≡ add_rows r (empty_rows (fresh r (transfers_at t wait)))
  admit-rows = ap (λ (l : List Line). add_rows r (empty_rows l)) all-fresh

-- a table up to a place, and to its end
pub fed-start : (t : List ℕ) {r : Report} → Sorted r → r ≡ fed_into r (transfers_to t 0)
unfolding transfers_to
fed-start t s = sym (fed-nothing s)

pub to_end : (t : List ℕ) (n : ℕ) → n ≡ length t / 150 → transfers_to t n ≡ transfers_in t
unfolding transfers_in
to_end t n e = ap (transfers_to t) e

pub room-part : (r : Report) (t : List ℕ) (n : ℕ) → n ≤ length t / 150 → used (fed_into r (transfers_to t n)) ≤ used (fed_into r (transfers_in t))
room-part r t n h =
    let e : n + (length t / 150 - n) ≡ length t / 150 = omega arith in
    omega (
      arith,
      fed-part-used r (transfers_to t n) (transfers_from t n (length t / 150 - n)),
      ap (λ (l : List FedTransfer). used (fed_into r l)) (sym (to-from t n (length t / 150 - n)) ∙ to_end t (n + (length t / 150 - n)) e),
    )

-- a part of a table fed behind the parts before it
pub batch : (r cur : Report) (t : List ℕ) (from to : ℕ) → ((j : ℕ) → get_or t j 0 < 256) → from < to → to ≤ length t / 150 → length t / 150 ≤ 4294967295
    → cur ≡ fed_into r (transfers_to t from) → Bears (length t / 150 - from) cur
    → (fed_into cur (transfers_from t from (to - from)) ≡ fed_into r (transfers_to t to)) × Bears (length t / 150 - to) (fed_into cur (transfers_from t from (to - from)))
batch r cur t from to bytes h l m e w =
    let k : from + (to - from) ≡ to = omega arith in
    let n = tab-length (fed_at t) from (to - from) in
    let f = transfers_from t from (to - from) in (
      ap (λ (s : Report). fed_into s f) e ∙ fed-fed r (transfers_to t from) f ∙ ap (fed_into r) (sym (to-from t from (to - from)) ∙ ap (transfers_to t) k),
      bears-all f cur (length t / 150 - to) (from-formed t from (to - from) bytes (omega arith)) (rw e (fed-sorted r (transfers_to t from))) (omega (arith, n))
          (bears-less (length t / 150 - to + length f) (length t / 150 - from) cur (omega (arith, n)) w),
    )
