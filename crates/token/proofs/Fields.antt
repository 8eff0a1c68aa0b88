-- A row is written field by field: each field begins where the one before it ends, and the last one ends the row.
-- Assumes nothing.
use mathlib.Core.Path.{◌≡◌, refl, ap, ◌∙◌, subst}
use mathlib.Core.List.{List, ◌∷◌, ◌++◌}
use mathlib.Core.Option.{Option, none, some, none-ne-some, some-injective}
use Prim.Native.Nat.{ℕ, suc}
use native.Mathlib.Omega.{arith}
use lib.ListN.{length, set, length-append}
use lib.Seq.{sets}
use mir.Val.{bool_byte}
use Rattle.std.specs.Prelude.{Result, Ok, Err}
use Rattle.std.specs.Prelude as rust
use Rattle.wire.specs.Le.{le_bytes}
use Rattle.wire.proofs.Laws.{le_bytes-length}
use Rattle.wire.proofs.Sets.{sets-next, sets-whole}
use Rattle.ids.specs.declared.Id.{Id}
use Rattle.ids.specs.Keys.{Key}
use Rattle.ids.specs.Mints.{mint_field}
use Rattle.token.specs.Transfers.{Transfer, transfer}
use Rattle.token.specs.Rows.{transfer_width, fee_field, transfer_row}
use Rattle.token.specs.Moved.{fee_value, transfer_value, moved_of}
use Rattle.token.specs.declared.moved.Transfer as numbered
use Rattle.token.specs.declared.moved.Reason.{Reason}
use Rattle.token.proofs.Laws.{moved_value}

-- the fields of a row of the table of transfers fill it
pub fields : (l i p s d m a f : List ℕ) (told : ℕ) → length l ≡ transfer_width → length i ≡ 4 → length p ≡ 32 → length s ≡ 32 → length d ≡ 32 → length m ≡ 33 → length a ≡ 8 → length f ≡ 8 → sets (set (sets (sets (sets (sets (sets (sets l 0 i) 4 p) 36 s) 68 d) 100 m) 133 a) 141 told) 142 f ≡ (i ++ p ++ s ++ d ++ m ++ a ++ (told ∷ f))
fields l i p s d m a f told hl hi hp hs hd hm ha hf =
    rw (
      sets-next l 0 i p 4 (omega arith),
      sets-next l 0 (i ++ p) s 36 (simp length-append (omega arith)),
      sets-next l 0 (i ++ p ++ s) d 68 (simp length-append (omega arith)),
      sets-next l 0 (i ++ p ++ s ++ d) m 100 (simp length-append (omega arith)),
      sets-next l 0 (i ++ p ++ s ++ d ++ m) a 133 (simp length-append (omega arith)),
      sets-next l 0 (i ++ p ++ s ++ d ++ m ++ a) (told ∷ f) 141 (simp length-append (omega arith)),
    )
    (sets-whole l (i ++ p ++ s ++ d ++ m ++ a ++ (told ∷ f)) (simp length-append (omega arith)))

fee-length : (f : Option ℕ) → length (fee_field f) ≡ 9
fee-length none = refl
fee-length (some f) = ap suc (le_bytes-length 8 f)

-- a fee behind its flag, both 0 where it is not known
pub fee_told : (f : rust.Option ℕ) → fee_field (fee_value f) ≡ (bool_byte (rust.is_some f) ∷ le_bytes 8 (rust.unwrap_or f 0))
unfolding le_bytes
fee_told rust.None = refl
fee_told (rust.Some f) = refl

-- a row has the width of the table
pub row-length : (i : ℕ) (p : Key) (m : Option Key) (t : Transfer) → length p ≡ 32 → length (mint_field m) ≡ 33 → length t.source ≡ 32 → length t.destination ≡ 32 → length (transfer_row i p m t) ≡ transfer_width
unfolding transfer_row
row-length i p m t hp hm hs hd =
    simp (length-append, le_bytes-length, hp, hs, hd, hm, fee-length t.fee)

-- so has the row of a transfer that an instruction gives, whose ends are keys
pub transfer-length : (κ : ℕ → Key) → ((j : ℕ) → length (κ j) ≡ 32) → (id : Id) (accounts bytes : List ℕ) {t : Transfer} → transfer κ id accounts bytes ≡ some t
    → (i : ℕ) (p : Key) (m : Option Key) → length p ≡ 32 → length (mint_field m) ≡ 33 → length (transfer_row i p m t) ≡ transfer_width
transfer-length κ long id accounts bytes {t} e i p m hp hm = go (moved_of κ id accounts bytes) (moved_value κ id accounts bytes ∙ e)
  where
    by : {x : Transfer} → length x.source ≡ 32 → length x.destination ≡ 32 → some x ≡ some t → length (transfer_row i p m t) ≡ transfer_width
    by {x} hs hd q = subst (λ (y : Transfer). length (transfer_row i p m y) ≡ transfer_width) (some-injective x t q) (row-length i p m x hp hm hs hd)

    go : (r : Result numbered.Transfer Reason) → transfer_value κ r ≡ some t → length (transfer_row i p m t) ≡ transfer_width
    go (Ok x) q = by (long x.source) (long x.destination) q
    go (Err e) q = absurd (none-ne-some t q)
