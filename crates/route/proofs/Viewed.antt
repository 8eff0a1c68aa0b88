-- The tables are those of the pack's View: a lookup in section 0 is a lookup among the View's keys, so the original's functions are given the same either way.
-- Assumes nothing.
use mathlib.Core.Path.{◌≡◌, sym, fun_ext}
use mathlib.Core.Bool.{cond}
use mathlib.Core.List.{List}
use mathlib.Core.Option.{none}
use Prim.Native.Nat.{ℕ}
use lib.ListN.{length}
use Rattle.ids.specs.Keys.{key_count, key_of}
use Rattle.ids.specs.Which.{program_at}
use Rattle.pack.specs.Sections.{section_of}
use Rattle.pack.specs.View.{view_of}
use Rattle.pack.proofs.Rows.{key-is, program-is}
use Rattle.pack.proofs.Sizes.{key-rows}
use Rattle.token.specs.Transfers.{transfer}
use Rattle.token.specs.Reasons.{reason}
use Rattle.natives.specs.Natives.{native_action}
use Rattle.swaps.specs.Swap.{swap}
use Rattle.evidence.specs.MintTable.{mint_in}
use Rattle.mints.specs.Inference.{inferred}
use Rattle.route.specs.Program.{skips}
use Rattle.route.specs.Transfers.{transfer_of, reason_in}
use Rattle.route.specs.Legs.{leg_of}
use Rattle.route.specs.Actions.{action_of}
use Rattle.route.specs.Order.{instructions_in}
use Rattle.route.specs.Viewed.{key_by, program_by, ReadsView}

module _ (names p : List ℕ) where
  κ : key_of (section_of p 0) ≡ key_by p
  unfolding view_of
  κ = fun_ext (key-is (section_of p 0))

  ι : program_at (section_of p 0) ≡ program_by p
  unfolding view_of
  ι = fun_ext (program-is (section_of p 0))

  count : key_count (section_of p 0) ≡ length (view_of p).keys
  unfolding view_of
  count = sym (key-rows (section_of p 0))

  pub reads-view : ReadsView names p
  unfolding view_of transfer_of reason_in leg_of action_of
  reads-view =
      record {
        mints = λ i. inferred (κ i) (ι i) (view_of p).balances (instructions_in p);
        transfers = λ x i. transfer (κ i) (ι i x.program) x.accounts x.bytes;
        reasons = λ x i. reason (κ i) (ι i x.program) x.accounts x.bytes;
        legs =
            λ table x i.
            cond (skips (ι i x.program)) none (swap names (κ i) (ι i x.program) x.accounts x.bytes (mint_in table) (view_of p).pools);
        natives = λ table x i. native_action (κ i) (count i) (ι i x.program) x.accounts x.bytes (mint_in table);
        keys = key-is (section_of p 0);
        programs = program-is (section_of p 0);
      }
