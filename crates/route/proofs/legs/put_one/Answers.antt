-- The leg that is found, with the mints of its two accounts, is the instruction's swap, and its row is put; a program that does not trade has none.
use Rattle.route.proofs.Legging.{passed_over, leg-swap}
use Rattle.route.specs.Known.{known_mint, Holds}
use Rattle.route.specs.Lay.{placed}
use Rattle.route.specs.Legs.{leg_rows}
use Rattle.route.specs.Program.{program_of}
use Rattle.swaps.proofs.View.{no_leg, a-leg}
use Rattle.std.specs.Prelude.{Some, None}
use Rattle.pack.specs.View.{pools_in}
use Rattle.swaps.specs.Swap.{trades, swap, leg_in_numbers}
use Rattle.swaps.specs.Leg.{leg_with}
use Rattle.swaps.specs.declared.Swap.{Swap}
use Rattle.evidence.specs.MintTable.{MintRow, mint_in}
use Rattle.pack.specs.Invocation.{Instruction, instruction_at}
use Rattle.ids.specs.Keys.{Key, key_of}
use Rattle.ids.specs.Mints.{mint_of}
use mathlib.Core.List.{List}
use mathlib.Core.Path.{◌≡◌, sym, ◌∙◌}
use mathlib.Core.Bool.{false}
use Prim.Native.Nat.{ℕ, ◌<◌}
use mathlib.Core.Option.{some}
use native.Mathlib.Omega.{arith}
use Rattle.route.proofs.legs.put_one.Goals as goal

pub returns-then-not-trades : goal.returns-then-not-trades
unfolding leg_rows placed
returns-then-not-trades c =
    let a = c.args in
    let v = instruction_at a.pack.now a.x.at in
    let ks = a.keys.now in
    let pools = pools_in a.pools.now in
    let e : trades (program_of ks v) ≡ false =
    rw (← c.requires.1) (sym c.trades.ensures ∙ c.if-not-trades.true) in
    record { few = omega arith; counted = λ table h. rw (passed_over a.names.now ks pools table v e); rows = λ table h. rw (passed_over a.names.now ks pools table v e) }

pub returns-in_default : goal.returns-in_default
unfolding leg_rows placed
returns-in_default c =
    let a = c.args in
    let v = instruction_at a.pack.now a.x.at in
    let ks = a.keys.now in
    let pools = pools_in a.pools.now in
    let e : leg_in_numbers a.names.now (key_of ks) (program_of ks v) v.accounts v.bytes ≡ None =
    sym (c.leg.ensures ∙ rw (c.accounts.ensures, c.«data».ensures, c.requires.1)) ∙ c.in_default.is in
    record {
      few = omega arith;
      counted = λ table h. rw (leg-swap a.names.now ks pools table v, no_leg a.names.now (key_of ks) (program_of ks v) v.accounts v.bytes (mint_in table) pools e);
      rows = λ table h. rw (leg-swap a.names.now ks pools table v, no_leg a.names.now (key_of ks) (program_of ks v) v.accounts v.bytes (mint_in table) pools e);
    }

-- the leg that is found, with the mints that are handed on, is the instruction's swap
is-leg : (ms names ks : List ℕ) (pools : List Key) (v : Instruction) (s : Swap)
    → leg_in_numbers names (key_of ks) (program_of ks v) v.accounts v.bytes ≡ Some s
    → (table : List MintRow) → Holds ms ks table → s.input < 256 → s.output < 256
    → swap names (key_of ks) (program_of ks v) v.accounts v.bytes (mint_in table) pools ≡ some (leg_with (key_of ks) (mint_of (known_mint ms s.input)) (mint_of (known_mint ms s.output)) pools s)
is-leg ms names ks pools v s e table h p q =
    a-leg names (key_of ks) (program_of ks v) v.accounts v.bytes (mint_in table) pools s (known_mint ms s.input) (known_mint ms s.output) e
    (h s.input p)
    (h s.output q)

pub returns : goal.returns
unfolding leg_rows placed
returns c =
    let a = c.args in
    let v = instruction_at a.pack.now a.x.at in
    let ks = a.keys.now in
    let pools = pools_in a.pools.now in
    let s = c.in-Some.leg in
    let e : leg_in_numbers a.names.now (key_of ks) (program_of ks v) v.accounts v.bytes ≡ Some s =
    sym (c.leg.ensures ∙ rw (c.accounts.ensures, c.«data».ensures, c.requires.1)) ∙ c.in-Some.is in
    let small : s.input < 256 = omega arith in
    let small2 : s.output < 256 = omega arith in
    record {
      few = omega arith;
      counted = λ table h. rw (leg-swap a.names.now ks pools table v, is-leg a.mints.now a.names.now ks pools v s e table h small small2);
      rows =
          λ table h.
          rw
          (leg-swap a.names.now ks pools table v, is-leg a.mints.now a.names.now ks pools v s e table h small small2, c.put_leg.ensures, c.mint-spent.ensures, c.mint-bought.ensures, c.program-program.ensures);
    }
