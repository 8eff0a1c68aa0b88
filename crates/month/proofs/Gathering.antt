-- Transfers looked at one after the other leave the least new lines of all: each brings its lines, which are numbered three to a transfer.
-- Assumes nothing.
use Rattle.std.proofs.Common.{◌≡◌, ℕ, ◌+◌, ◌*◌, ◌<◌, ◌≤◌, true, false, List, [], ◌∷◌, ◌++◌, length, get_or, take, sym, append_assoc, append-nil, add-one, take-suc}
use lib.Seq.{take-nil}
use Rattle.month.specs.Transfers.{FedTransfer, Line, summed, touched}
use Rattle.month.specs.Report.{lines_in}
use Rattle.month.specs.Bytes.{transfers_to}
use Rattle.month.specs.Lookup.{fed_at, transfers_at, line_numbered, least_with, least_of, new_above}
use Rattle.month.specs.Standing.{PlacesIn}
use Rattle.month.proofs.Views.{mem-at}
use Rattle.month.proofs.Numbered.{line-own, line-source, line-destination}
use Rattle.month.proofs.Least.{least-of, new_none}
use Rattle.month.proofs.Noting.{map-join}

module _ (most : ℕ) (old : List Line) (bound : Line) (t : List ℕ) (i : ℕ) (l : List Line) where
  -- a transfer counted apart brings one line
  pub one-noted : summed (fed_at t i) ≡ false → least_with most old bound (line_numbered t (3 * i)) l ≡ least_of most old bound (touched (fed_at t i)) l
  unfolding touched least_of
  one-noted s = rw (s, line-own t i)

  -- a summed one three
  pub three-noted : summed (fed_at t i) ≡ true
      → least_with most old bound (line_numbered t (3 * i + 2)) (least_with most old bound (line_numbered t (3 * i + 1)) (least_with most old bound (line_numbered t (3 * i)) l))
      ≡ least_of most old bound (touched (fed_at t i)) l
  unfolding touched least_of
  three-noted s = rw (s, line-own t i, line-source t i, line-destination t i)

-- the lines of one transfer more
lines_next : (ts : List FedTransfer) (x : FedTransfer) → lines_in (ts ++ (x ∷ [])) ≡ lines_in ts ++ touched x
unfolding lines_in
lines_next [] x = append-nil (touched x)
lines_next (y ∷ ts) x = rw (lines_next ts x) (sym (append_assoc (touched y) (lines_in ts) (touched x)))

pub none-gathered : (most : ℕ) (old : List Line) (bound : Line) → [] ≡ take most (new_above old bound (lines_in []))
unfolding lines_in
none-gathered most old bound = rw (new_none old bound) (sym (take-nil most))

pub one-gathered : (most : ℕ) (old : List Line) (bound : Line) (ts : List FedTransfer) (x : FedTransfer)
    → least_of most old bound (touched x) (take most (new_above old bound (lines_in ts))) ≡ take most (new_above old bound (lines_in (ts ++ (x ∷ []))))
one-gathered most old bound ts x = rw (lines_next ts x) (least-of old bound most (lines_in ts) (touched x))

-- the transfer at one place more
pub transfers-next : (t places : List ℕ) (i : ℕ) → i < length places → transfers_at t (take (i + 1) places) ≡ transfers_at t (take i places) ++ (fed_at t (get_or places i 0) ∷ [])
transfers-next t places i h = rw (add-one i, take-suc places i 0 h) (map-join (fed_at t) (take i places) (get_or places i 0 ∷ []))

pub place_in : (t places : List ℕ) (i : ℕ) → PlacesIn t places → i < length places → get_or places i 0 * 150 + 150 ≤ length t
place_in t places i f p = f (get_or places i 0) (mem-at places 0 i p)

pub transfers-more : (t : List ℕ) (i : ℕ) → transfers_to t (i + 1) ≡ transfers_to t i ++ (fed_at t i ∷ [])
unfolding transfers_to
transfers-more t i = rw (add-one i)
