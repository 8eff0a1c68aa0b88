-- Laying, noting and listing, one after the other; accounts that the balance rows record are counted on top of those that the instructions record.
-- Assumes nothing.
use mathlib.Core.Path.{◌≡◌}
use mathlib.Core.List.{List}
use Prim.Native.Nat.{ℕ, zero, suc, ◌+◌, ◌*◌, ◌/◌, ◌≤◌, ◌<◌}
use native.Mathlib.Nat.{add-zero}
use native.Mathlib.Omega.{arith}
use borrow.Author.Tests.{le-ltb}
use lib.ListN.{length, get_or, take, drop, replicate}
use Rattle.wire.specs.Le.{le}
use Rattle.wire.specs.Zeros.{zeros}
use Rattle.ids.specs.Keys.{zero_key, key_count, key_of}
use Rattle.mints.specs.declared.row.Row.{Row}
use Rattle.mints.specs.Cells.{blank_row, account_at, Fits}
use Rattle.mints.specs.Lay.{KeyRows, laid}
use Rattle.mints.specs.Note.{note_at, balances_to}
use Rattle.mints.specs.declared.pass.Transfer.{Transfer}
use Rattle.mints.specs.Pass.{no_transfer}
use Rattle.mints.specs.Gather.{Gathered, gather_all}
use Rattle.mints.specs.Prepare.{laid_of, gathered_of}
use Rattle.mints.proofs.Noting.{one-new}
use Rattle.mints.proofs.Gathering.{gather-on-top}
use Rattle.mints.proofs.Laid.{Rows}
use Rattle.mints.proofs.Begun.{laid-rows, row-right}

-- a key past the section is zero
key-past : (ks : List ℕ) (j : ℕ) → key_count ks ≤ j → key_of ks j ≡ zero_key
key-past ks j h = rw (le-ltb j (key_count ks) h)

module _ (ks : List ℕ) (h : key_count ks ≤ 256) where
  pub rows-laid : Rows (key_of ks) 257 (key_count ks) (laid_of ks)
  unfolding laid_of
  rows-laid = laid-rows (key_of ks) 257 256 (key_count ks) h (omega arith)

  -- each key index has its row
  pub laid-index : (j : ℕ) → (get_or (laid_of ks).row j 0 < (laid_of ks).rows) × (account_at (laid_of ks).table (get_or (laid_of ks).row j 0) ≡ key_of ks j)
  laid-index j = row-right rows-laid (λ i l. key-past ks i l) j

  -- these rows fit into a table of 257
  pub laid-fits : (t : List Row) → length t ≡ 257 → Fits t (laid_of ks).row
  laid-fits t w j = omega (arith, (laid-index j).0, rows-laid.few)

pub laid-is : (ks : List ℕ) (t : List Row) (r : List ℕ) {x : KeyRows} → t ≡ replicate 257 blank_row → r ≡ zeros 256 → laid (key_of ks) t r (key_count ks) ≡ x → laid_of ks ≡ x
unfolding laid_of
laid-is ks t r e f h = rw (e, f) at h

pub balances-bound : (s row : List ℕ) (t : List Row) (i : ℕ) → (balances_to s row t i).room ≤ i
unfolding balances_to note_at
balances-bound s row t zero = omega arith
balances-bound s row t (suc i) = omega (arith, balances-bound s row t i, one-new (balances_to s row t i).table (get_or row (le 4 s (i * 36)) 0) (take 32 (drop (i * 36 + 4) s)))

-- the rows laid, the balances noted and the instructions gathered on top
pub gathered-is : (ks b p o : List ℕ) {t : List Row} {r : List ℕ} {u v : List Row} {ts : List Transfer} {rows recorded room count : ℕ}
    → laid_of ks ≡ record { table = t; row = r; rows = rows }
    → balances_to b r t (length b / 36) ≡ record { table = u; room = recorded }
    → gather_all ks p o r u (replicate 1024 no_transfer) ≡ record { noted = record { table = v; room = room }; transfers = ts; count = count }
    → gathered_of ks b p o ≡ record { noted = record { table = v; room = recorded + room }; transfers = ts; count = count }
unfolding gathered_of
gathered-is ks b p o {r} {u} {recorded} laid noted gathered =
    let s : Gathered = record { noted = record { table = u; room = 0 }; transfers = replicate 1024 no_transfer; count = 0 } in
    rw (laid, noted) (rw (gathered, add-zero recorded) at (gather-on-top ks p o r recorded s (length o)))
