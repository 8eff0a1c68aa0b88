-- What the passes, the marks and the order come to is the mint table of the definitions, since the working table holds at each point what theirs holds.
-- Assumes nothing.
use mathlib.Core.Path.{◌≡◌, refl, sym, ap, ◌∙◌, subst}
use mathlib.Core.Option.{Option, none, some}
use mathlib.Core.List.{List, map}
use Prim.Native.Nat.{ℕ, zero, suc, ◌≤◌}
use native.Mathlib.Omega.{arith}
use lib.ListN.{length, take}
use lib.Seq.{length-take-le}
use Rattle.ids.specs.Keys.{Key}
use Rattle.evidence.specs.Table.{Table}
use Rattle.evidence.specs.Evidence.{Evidence, recorded}
use Rattle.evidence.specs.Passes.{Transfers}
use Rattle.evidence.specs.Run.{TableAfter}
use Rattle.evidence.specs.Infer.{infer}
use Rattle.evidence.proofs.Infer.{infer-settled}
use Rattle.evidence.specs.MintTable.{MintAnswer, mints}
use Rattle.evidence.proofs.Loops.{mints-some, mints-none}
use Rattle.mints.specs.declared.row.Row.{Row}
use Rattle.mints.specs.Cells.{mint_at, state_at, state_says}
use Rattle.mints.specs.declared.pass.Transfer.{Transfer}
use Rattle.mints.specs.Gather.{Gathered}
use Rattle.mints.specs.Pass.{EndsWithin, Ran, passes}
use Rattle.mints.specs.Doubt.{doubts_of}
use Rattle.mints.specs.Order.{sort_to, mints_to}
use Rattle.mints.specs.Bytes.{mints_of}
use Rattle.mints.proofs.Holding.{RowsApart, HoldsRows, was}
use Rattle.mints.proofs.Stepped.{Held, pairs_to}
use Rattle.mints.proofs.Runs.{Ended, done, over, ran}
use Rattle.mints.proofs.Marked.{doubts-marked}
use Rattle.mints.proofs.Written.{cell, table-right, mints-right}
use Rattle.mints.proofs.Observed.{Indexed}
use Rattle.mints.proofs.Collected.{Collected, taken, taken-within}

-- before the passes what a row holds is recorded
was-held : (s : ℕ) (m : Key) → s ≤ 2 → state_says s m ≡ was s m
unfolding state_says was
was-held zero m h = refl
was-held (suc zero) m h = refl
was-held (suc (suc zero)) m h = refl
was-held (suc (suc (suc s))) m h = absurd (omega arith)

start : {n : ℕ} {α : ℕ → Key} {w : List Row} {t : Table} → HoldsRows 2 n α w t → Held n α t w t
start {w} h =
    record {
      now = record { long = h.long; account = λ r l. h.account r l; first = h.first; low = λ r l. omega (arith, h.low r l); said = λ r z l. h.said r z l; mint = λ r l o. h.mint r l o; cover = λ a m q. h.cover a m q };
      then = record { wrote = λ r z l. h.said r z l ∙ was-held (state_at w r) (mint_at w r) (h.low r l) };
    }

module _ {n : ℕ} {α : ℕ → Key} (p : RowsApart n α) (e : Evidence) (ps : Transfers) (x : Gathered) (h : Collected n α 1024 x (recorded e) ps) (count : x.count ≤ 1024) where
  -- the transfers alone
  abbrev pub listed : List Transfer
  listed = take x.count x.transfers

  listed-pairs : pairs_to α listed (length listed) ≡ ps
  listed-pairs =
      let e : length listed ≡ x.count = length-take-le x.count x.transfers (rw h.whole count) in
      ap (pairs_to α listed) e ∙ taken α x.transfers x.count x.count (omega arith) ∙ h.pairs

  listed-within : EndsWithin n listed
  listed-within = taken-within n x.transfers x.count p.some_row h.ends

  -- the table when the passes are over, and when the marks are set
  abbrev pub over_all : Ran
  over_all = passes listed x.noted.table x.noted.room

  abbrev pub marked_all : List Row
  marked_all = doubts_of listed over_all.table n

  ended : Ended n α (recorded e) over_all (infer 512 e ps)
  ended =
      subst
      (λ (qs : Transfers). Ended n α (recorded e) over_all (infer 512 e qs))
      listed-pairs
      (ran p listed (λ i. (listed-within i).0) (λ i. (listed-within i).1) e x.noted.room (start h.notes.holds) h.notes.counts)

  -- too many passes, or the mint table
  pub data Right : Option MintAnswer → Type 0 where
    too_many : over_all.passes ≡ none → Right none
    made : {y : MintAnswer} → y.rows ≡ map (cell marked_all) (sort_to marked_all n) → y.room ≡ over_all.room → over_all.passes ≡ some y.passes
        → ((row : List ℕ) (κ : ℕ → Key) (c : ℕ) → Indexed n α κ row → mints_to marked_all row c ≡ mints_of y.rows κ c) → Right (some y)

  pub right : Right (mints 512 e ps)
  right = go (infer 512 e ps) refl ended
    where
      go : (o : Option TableAfter) → infer 512 e ps ≡ o → Ended n α (recorded e) over_all o → Right (mints 512 e ps)
      go none q (over z) = rw (mints-none 512 e ps q) (too_many z)
      go (some r) q (done {u} {k} state_says count k-is) =
          let s = infer-settled 512 e ps q in
          let m = doubts-marked p s state_says listed listed-pairs (λ i. (listed-within i).0) (λ i. (listed-within i).1) in
          rw (mints-some 512 e ps q)
          (made
          (sym (table-right p s state_says m))
          count
          k-is
          (λ row κ c at. mints-right p s state_says m row κ c (λ i l. at i)))
