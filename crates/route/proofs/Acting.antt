-- What is written of an action that is known by its index bytes.
-- Assumes nothing.
use Rattle.std.specs.Prelude as rust
use Rattle.std.specs.Int.{from_bool}
use Rattle.std.specs.Prelude.{is_some}
use mathlib.Core.Path.{◌≡◌, refl, ap, ◌∙◌}
use mathlib.Core.Bool.{false}
use mathlib.Core.Option.{Option, none}
use mathlib.Core.List.{List}
use Prim.Native.Nat.{ℕ, ◌*◌, ◌≤◌}
use native.Mathlib.Omega.{arith}
use lib.ListN.{length}
use lib.Seq.{sets}
use Rattle.ids.specs.Keys.{Key}
use Rattle.ids.specs.declared.Id.{Id}
use Rattle.natives.specs.declared.Native.{Native}
use Rattle.natives.specs.declared.Native.TheVariants.{Fund, Sync, Close}
use Rattle.natives.specs.Natives.{native_action}
use Rattle.natives.specs.Numbers.{action_value, sized_of}
use Rattle.natives.proofs.Forms.{unsized}
use Rattle.natives.proofs.Laws.{native-is, no-form}
use Rattle.natives.specs.Rows.{action_row_by, action_bytes}
use Rattle.route.specs.Widths.{action_width}
use Rattle.route.specs.Lay.{placed}
use Rattle.route.specs.Known.{row_if}

-- one row at most
pub present-le : (n : rust.Option Native) → from_bool (is_some n) ≤ 1
present-le rust.None = omega arith
present-le (rust.Some n) = omega arith

-- an instruction of a size that no action has is none
pub unasked : (κ : ℕ → Key) (count : ℕ) (id : Id) (accounts d : List ℕ) (μ : Key → Option Key) → sized_of id (length d) ≡ false → native_action κ count id accounts d μ ≡ none
unasked κ count id accounts d μ e =
    native-is κ count id accounts d μ
    ∙ rw (unsized id accounts d e) (ap (action_value κ) (no-form count accounts (μ (κ 0))))

-- κ gives the key of an index
module _ (κ : ℕ → Key) (i : ℕ) where
  pub row-counted : (n : rust.Option Native) → from_bool (is_some n) ≡ length (row_if (λ a. action_row_by i a.held a.action) (action_value κ n))
  row-counted rust.None = refl
  row-counted (rust.Some (Fund h s l)) = refl
  row-counted (rust.Some (Sync h)) = refl
  row-counted (rust.Some (Close h d a)) = refl

  pub row-placed : (n : rust.Option Native) (out : List ℕ) (k : ℕ)
      → sets out (k * action_width) (action_bytes i (action_value κ n)) ≡ placed action_width k (row_if (λ a. action_row_by i a.held a.action) (action_value κ n)) out
  unfolding placed
  row-placed rust.None out k = refl
  row-placed (rust.Some (Fund h s l)) out k = refl
  row-placed (rust.Some (Sync h)) out k = refl
  row-placed (rust.Some (Close h d a)) out k = refl
