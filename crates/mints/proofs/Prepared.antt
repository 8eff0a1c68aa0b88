-- When all evidence is noted, the working table holds what is recorded, and the list has the plain transfers: balance rows first, then the instructions,
-- as the evidence is put together.
-- Assumes nothing.
use mathlib.Core.Path.{◌≡◌, refl, sym, subst}
use mathlib.Core.List.{List, []}
use Prim.Native.Nat.{ℕ, ◌/◌, ◌≤◌, ◌<◌}
use native.Mathlib.Omega.{arith}
use lib.ListN.{length, take, length-map, length-replicate}
use lib.Seq.{take_all}
use Rattle.ids.specs.Keys.{Key, key_count, key_of}
use Rattle.ids.specs.Which.{program_at}
use Rattle.pack.specs.Invocation.{Instruction, instruction_at}
use Rattle.pack.specs.View.{balances_in}
use Rattle.pack.proofs.Rows.{balances-length}
use Rattle.evidence.specs.Evidence.{Evidence, note_all, recorded}
use Rattle.evidence.specs.Passes.{Transfers}
use Rattle.evidence.specs.Gather.{gather}
use Rattle.evidence.proofs.Loops.{note_all-append}
use Rattle.mints.specs.Cells.{account_at}
use Rattle.mints.specs.Note.{balances_to}
use Rattle.mints.specs.Inference.{balance_says, says, moves, evidence_of, transfers_of}
use Rattle.mints.specs.Prepare.{laid_of, begun, gathered_of}
use Rattle.mints.proofs.Begun.{laid-apart, laid-holds}
use Rattle.mints.proofs.Holding.{RowsApart}
use Rattle.mints.proofs.Stepped.{pairs_to}
use Rattle.mints.proofs.Observed.{Notes, balances-noted}
use Rattle.mints.specs.declared.pass.Transfer.{Transfer}
use Rattle.mints.specs.Pass.{no_transfer}
use Rattle.mints.proofs.Full.{full-of}
use Rattle.mints.proofs.Collected.{Collected, instructions, collected}
use Rattle.mints.proofs.Preparing.{rows-laid, laid-index}

module _ (ks b p o : List ℕ) (few : key_count ks ≤ 256) (short : length o ≤ 1024) where
  -- the evidence and the transfers that the sections give
  unfoldable pub evidence_in : Evidence
  evidence_in = evidence_of (key_of ks) (program_at ks) (balances_in b) (instructions p o)

  unfoldable pub transfers_in : Transfers
  transfers_in = transfers_of (key_of ks) (program_at ks) (instructions p o)

  abbrev pub accounts : ℕ → Key
  accounts r = account_at (laid_of ks).table r

  pub apart : RowsApart (laid_of ks).rows accounts
  apart = laid-apart (rows-laid ks few)

  balances : Notes (laid_of ks).rows accounts (balances_to b (laid_of ks).row (laid_of ks).table (length b / 36)) (note_all [] (gather (balance_says (key_of ks)) (balances_in b)))
  balances =
      subst
      (λ (l : List (ℕ × Key)). Notes (laid_of ks).rows accounts (balances_to b (laid_of ks).row (laid_of ks).table (length b / 36)) (note_all [] (gather (balance_says (key_of ks)) l)))
      (take_all (length b / 36) (balances_in b) (omega (arith, balances-length b)))
      (balances-noted apart (laid_of ks).row (λ j. laid-index ks few j) b (laid_of ks).table [] (record { holds = laid-holds (rows-laid ks few) (omega arith); counts = refl }) (length b / 36) (omega arith))

  all_read : take (length o) (instructions p o) ≡ instructions p o
  all_read = take_all (length o) (instructions p o) (omega (arith, length-map o (instruction_at p)))

  pub prepared : Collected (laid_of ks).rows accounts 1024 (gathered_of ks b p o) (recorded evidence_in) transfers_in
  unfolding gathered_of recorded evidence_in transfers_in evidence_of transfers_of pairs_to
  prepared =
      rw (note_all-append [] (gather (balance_says (key_of ks)) (balances_in b)) (gather (says (key_of ks) (program_at ks)) (instructions p o)))
      (subst
      (λ (l : List Instruction). Collected (laid_of ks).rows accounts 1024 (gathered_of ks b p o) (note_all (note_all [] (gather (balance_says (key_of ks)) (balances_in b))) (gather (says (key_of ks) (program_at ks)) l)) (gather (moves (key_of ks) (program_at ks)) l))
      all_read
      (collected
      apart
      ks
      p
      o
      (laid_of ks).row
      (λ j. laid-index ks few j)
      1024
      (begun ks b)
      (note_all [] (gather (balance_says (key_of ks)) (balances_in b)))
      refl
      (record {
        notes = balances;
        pairs = refl;
        ends = λ j. subst (λ (t : Transfer). (t.from < (laid_of ks).rows) × (t.to < (laid_of ks).rows)) (sym (full-of 1024 j no_transfer)) (apart.some_row, apart.some_row);
        whole = length-replicate 1024 no_transfer;
      })
      (length o)
      (omega arith)
      short))
