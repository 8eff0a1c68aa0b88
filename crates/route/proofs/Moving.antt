-- What is written of a transfer that is known by its index bytes.
-- Assumes nothing.
use mathlib.Core.Path.{◌≡◌, refl, sym, ◌∙◌}
use mathlib.Core.Bool.{Bool, true, false, cond}
use mathlib.Core.List.{List}
use mathlib.Core.Option.{Option, none}
use Prim.Native.Nat.{ℕ, ◌*◌, ◌≤◌}
use native.Mathlib.Omega.{arith}
use lib.Dec.{eqb}
use lib.ListN.{length}
use lib.Seq.{sets}
use Rattle.ids.specs.Keys.{Key, key_of}
use Rattle.pack.specs.Invocation.{Instruction}
use Rattle.token.specs.Programs.{is_token}
use Rattle.std.specs.Prelude.{Result, Ok, Err}
use Rattle.token.specs.declared.moved.Transfer.{Transfer}
use Rattle.token.specs.declared.moved.Reason.{Reason}
use Rattle.token.specs.declared.moved.Reason.TheVariants.{NotToken, UnsupportedTag, TooFewAccounts, DataTooShort, ZeroKey}
use Rattle.token.specs.Moved.{transfer_value, reason_of, source_by}
use Rattle.token.specs.Reasons.{reason}
use Rattle.token.specs.Rows.{transfer_row, transfer_bytes}
use Rattle.token.proofs.Laws.{moved_value}
use Rattle.token.proofs.Reading.{read_none}
use Rattle.route.specs.Widths.{transfer_width}
use Rattle.route.specs.Lay.{placed}
use Rattle.route.specs.Known.{row_if}
use Rattle.route.specs.Program.{program_of}
use Rattle.route.specs.Transfers.{transfer_of, reason_in, transfer_count}

pub rows-le : (r : ℕ) → transfer_count r ≤ 1
unfolding transfer_count
rows-le r = go (eqb r 0)
  where
    go : (b : Bool) → cond b 1 0 ≤ 1
    go true = omega arith
    go false = omega arith

-- no other program gives a transfer
pub no-transfer : (ks : List ℕ) (x : Instruction) → is_token (program_of ks x) ≡ false → transfer_of ks x ≡ none
unfolding transfer_of
no-transfer ks x e =
    sym (moved_value (key_of ks) (program_of ks x) x.accounts x.bytes) ∙ rw (read_none (program_of ks x) (length x.accounts) x.bytes e)

-- and that is why
pub no-token : (ks : List ℕ) (x : Instruction) → is_token (program_of ks x) ≡ false → reason_in ks x ≡ 1
unfolding reason_in reason
no-token ks x e = rw e

-- κ gives the key of an index, μ the final mint of a key, mint the one that is handed on
module _ (κ : ℕ → Key) (μ : Key → Option Key) (i : ℕ) (program : Key) (mint : Option Key) where
  pub row-counted : (m : Result Transfer Reason) → transfer_count (reason_of m) ≡ length (row_if (λ t. transfer_row i program (μ t.source) t) (transfer_value κ m))
  unfolding transfer_count
  row-counted (Ok t) = refl
  row-counted (Err NotToken) = refl
  row-counted (Err UnsupportedTag) = refl
  row-counted (Err TooFewAccounts) = refl
  row-counted (Err DataTooShort) = refl
  row-counted (Err ZeroKey) = refl

  pub row-placed : (m : Result Transfer Reason) → mint ≡ μ (κ (source_by m)) → (out : List ℕ) (k : ℕ)
      → sets out (k * transfer_width) (transfer_bytes i program mint (transfer_value κ m)) ≡ placed transfer_width k (row_if (λ t. transfer_row i program (μ t.source) t) (transfer_value κ m)) out
  unfolding placed
  row-placed (Ok t) h out k = rw h
  row-placed (Err e) h out k = refl
