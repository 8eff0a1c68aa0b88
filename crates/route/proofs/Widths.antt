-- Every row of tables 1 to 4 has the width of its table, because every key and every mint that is put into one has 32 bytes.
-- Assumes nothing.
use mathlib.Core.Path.{◌≡◌, refl, sym, subst, ◌∙◌}
use mathlib.Core.Logic.{⊎_elim}
use mathlib.Core.List.Memᴰ
use mathlib.Core.List.{List, [], ◌∷◌, ◌++◌, Memᴰ}
use mathlib.Core.Option.{Option, none, some}
use Prim.Native.Nat.{ℕ, zero, suc}
use lib.ListN.{length}
use Rattle.ids.specs.Keys.{Key, key_of, key_count}
use Rattle.ids.specs.Mints.{mint_field}
use Rattle.ids.proofs.Keys.{key-length, mint-length}
use Rattle.pack.specs.Invocation.{Instruction, Position}
use Rattle.token.specs.Rows.{transfer_row}
use Rattle.token.proofs.Fields.{transfer-length}
use Rattle.natives.specs.Rows.{action_row_by}
use Rattle.natives.proofs.Fields.{action-length}
use Rattle.swaps.specs.Row.{leg_row}
use Rattle.swaps.proofs.Rows.{leg-length}
use Rattle.evidence.specs.MintTable.{MintRow, mint_in}
use Rattle.mints.specs.Bytes.{or_zero}
use Rattle.wire.specs.Tab.{tab}
use Rattle.route.specs.Widths.{invocation_width, transfer_width, leg_width, action_width}
use Rattle.route.specs.Lay.{rows_of}
use Rattle.route.specs.Known.{row_if}
use Rattle.route.specs.Program.{program_of}
use Rattle.route.specs.Transfers.{transfer_of, transfer_rows}
use Rattle.route.specs.Legs.{leg_of, leg_rows}
use Rattle.route.specs.Actions.{action_of, action_rows}
use Rattle.route.specs.Tables.{invocation_at}
use Rattle.route.proofs.Row.{row-length}
use Rattle.route.proofs.Legging.{leg-swap}
use Rattle.route.proofs.OrderTable.{Rowed}
use Rattle.route.proofs.Inferring.{Sound, told}

-- rows that are made item by item have w bytes where those of each item have
module _ (w : ℕ) where
  empty : Rowed w []
  empty = record { each = λ r i. absurd (Memᴰ.not-nil i) }

  one : {r : List ℕ} {l : List (List ℕ)} → length r ≡ w → Rowed w l → Rowed w (r ∷ l)
  one {r} {l} e h = record { each = λ x i. go x i }
    where
      go : (x : List ℕ) → Memᴰ x (r ∷ l) → length x ≡ w
      go x (Memᴰ.head q) = rw q e
      go x (Memᴰ.tail i) = h.each x i

  both : {a b : List (List ℕ)} → Rowed w a → Rowed w b → Rowed w (a ++ b)
  both {a} h k = record { each = λ r i. ⊎_elim (λ j. h.each r j) (λ j. k.each r j) (Memᴰ.append_cases a i) }

  all-rowed : {A : Type 0} (f : ℕ → A → List (List ℕ)) → ((i : ℕ) (x : A) → Rowed w (f i x)) → (i : ℕ) (l : List A) → Rowed w (rows_of f i l)
  unfolding rows_of
  all-rowed f h i [] = empty
  all-rowed f h i (x ∷ l) = both (h i x) (all-rowed f h (suc i) l)

  tab-rowed : (f : ℕ → List ℕ) → ((i : ℕ) → length (f i) ≡ w) → (i n : ℕ) → Rowed w (tab f i n)
  unfolding tab
  tab-rowed f h i zero = empty
  tab-rowed f h i (suc n) = one (h i) (tab-rowed f h (suc i) n)

  if-rowed : {A : Type 0} (f : A → List ℕ) (o : Option A) → ((x : A) → o ≡ some x → length (f x) ≡ w) → Rowed w (row_if f o)
  if-rowed f none h = empty
  if-rowed f (some x) h = one (h x refl) empty

-- the rows of instructions, by the key section and rows of table 0 whose mints have 32 bytes
module _ (ks : List ℕ) {table : List MintRow} (s : Sound table) where
  field : (k : Key) → length (mint_field (mint_in table k)) ≡ 33
  field k = subst (λ (o : Option Key). length (mint_field o) ≡ 33) (told s k) (mint-length (or_zero (mint_in table k)))

  pub transfers-rowed : (xs : List Instruction) → Rowed transfer_width (rows_of (transfer_rows ks table) 0 xs)
  unfolding transfer_rows transfer_of
  transfers-rowed xs =
      all-rowed
      transfer_width
      (transfer_rows ks table)
      (λ i x.
      if-rowed transfer_width (λ t. transfer_row i (key_of ks x.program) (mint_in table t.source) t) (transfer_of ks x)
      (λ t e. transfer-length (key_of ks) (key-length ks) (program_of ks x) x.accounts x.bytes e i (key_of ks x.program) (mint_in table t.source) (key-length ks x.program) (field t.source)))
      0
      xs

  pub natives-rowed : (xs : List Instruction) → Rowed action_width (rows_of (action_rows ks table) 0 xs)
  unfolding action_rows action_of
  natives-rowed xs =
      all-rowed
      action_width
      (action_rows ks table)
      (λ i x.
      if-rowed action_width (λ a. action_row_by i a.held a.action) (action_of ks table x)
      (λ a e. action-length (key_of ks) (key-length ks) (key_count ks) (program_of ks x) x.accounts x.bytes (mint_in table) e i))
      0
      xs

  pub legs-rowed : (names : List ℕ) (pools : List Key) (xs : List Instruction) → Rowed leg_width (rows_of (leg_rows names ks pools table) 0 xs)
  unfolding leg_rows
  legs-rowed names pools xs =
      all-rowed
      leg_width
      (leg_rows names ks pools table)
      (λ i x.
      if-rowed leg_width (leg_row i (key_of ks x.program)) (leg_of names ks pools table x)
      (λ l e. leg-length names (key_of ks) (key-length ks) (program_of ks x) x.accounts x.bytes (mint_in table) field pools (sym (leg-swap names ks pools table x) ∙ e) i (key_of ks x.program) (key-length ks x.program)))
      0
      xs

-- the rows of table 1
pub invocations-rowed : (names ks : List ℕ) (pools : List Key) (table : List MintRow) (ps : List Position) (xs : List Instruction) → Rowed invocation_width (tab (invocation_at names ks pools table ps xs) 0 (length xs))
unfolding invocation_at
invocations-rowed names ks pools table ps xs = tab-rowed invocation_width (invocation_at names ks pools table ps xs) (λ i. row-length _ _ _ _ _ _) 0 (length xs)
