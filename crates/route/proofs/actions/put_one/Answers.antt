-- Where a program acts and the length is an action's, the action that is settled is the instruction's, and its row is put; else there is none.
use Rattle.route.proofs.Acting.{present-le, row-counted, row-placed, unasked}
use Rattle.route.specs.Actions.{action_of, action_rows}
use Rattle.route.specs.Known.{known_mint, Holds}
use Rattle.route.specs.Program.{program_of}
use Rattle.route.specs.Lay.{placed}
use Rattle.ids.specs.Mints.{mint_of}
use Rattle.natives.specs.declared.Native.{Native}
use Rattle.std.specs.Prelude.{Option}
use Rattle.natives.proofs.Laws.{native-is, idle}
use Rattle.natives.specs.Natives.{is_system}
use Rattle.natives.specs.Numbers.{action_value, form_of, held_by, acted_of, sized_of, settled}
use Rattle.token.specs.Programs.{is_token}
use Rattle.evidence.specs.MintTable.{MintRow, mint_in}
use Rattle.pack.specs.Invocation.{Instruction, instruction_at}
use Rattle.ids.specs.declared.Id.{Id}
use Rattle.ids.specs.Keys.{key_of, key_count}
use mathlib.Core.List.{List}
use mathlib.Core.Path.{◌≡◌, sym, ap, ◌∙◌}
use mathlib.Core.Bool.{false, ◌||◌}
use lib.ListN.{length}
use Prim.Native.Nat.{ℕ, ◌<◌}
use native.Mathlib.Omega.{arith}
use Rattle.route.proofs.actions.put_one.Goals as goal
use Rattle.route.proofs.actions.put_one.Goals.{After-put_row, Start}

pub returns-then-not-acts : goal.returns-then-not-acts
unfolding action_rows action_of placed
returns-then-not-acts c =
    let a = c.args in
    let v = instruction_at a.pack.now a.x.at in
    let ks = a.keys.now in
    let e : (is_token (program_of ks v) || is_system (program_of ks v)) ≡ false =
    ap (λ (i : Id). (is_token i || is_system i)) (sym c.requires.1) ∙ sym c.acts.ensures ∙ c.if-not-acts.true in
    record {
      few = omega arith;
      counted = λ table h. rw (idle (key_of ks) (key_count ks) (program_of ks v) v.accounts v.bytes (mint_in table) e);
      rows = λ table h. rw (idle (key_of ks) (key_count ks) (program_of ks v) v.accounts v.bytes (mint_in table) e);
    }

pub returns-then-not-sized : goal.returns-then-not-sized
unfolding action_rows action_of placed
returns-then-not-sized c =
    let a = c.args in
    let v = instruction_at a.pack.now a.x.at in
    let ks = a.keys.now in
    let e : sized_of (program_of ks v) (length v.bytes) ≡ false =
    rw (← c.requires.1, ← c.data-data.ensures) (sym c.sized.ensures ∙ c.if-not-sized.true) in
    record {
      few = omega arith;
      counted = λ table h. rw (unasked (key_of ks) (key_count ks) (program_of ks v) v.accounts v.bytes (mint_in table) e);
      rows = λ table h. rw (unasked (key_of ks) (key_count ks) (program_of ks v) v.accounts v.bytes (mint_in table) e);
    }

abbrev keys : After-put_row → List ℕ
keys c = c.args.keys.now

abbrev item : After-put_row → Instruction
item c = instruction_at c.args.pack.now c.args.x.at

-- what the instruction asks for
formed : (c : After-put_row) → c.form-asked.result ≡ form_of (program_of (keys c) (item c)) (item c).accounts (item c).bytes
formed c =
    let a = c.accounts-accounts in
    let d = c.data-data in
    c.form-asked.ensures
    ∙ ap (λ (i : Id). form_of i a.result.now d.result.now) c.requires.1
    ∙ ap (λ (l : List ℕ). form_of (program_of (keys c) (item c)) l d.result.now) a.ensures
    ∙ ap (λ (l : List ℕ). form_of (program_of (keys c) (item c)) (item c).accounts l) d.ensures

-- the account that it asks about
held : (c : After-put_row) → c.held.result ≡ acted_of (program_of (keys c) (item c)) (item c).accounts (item c).bytes
held c = c.held.ensures ∙ ap held_by (formed c)

-- what is settled is the instruction's action
value : (c : After-put_row) (table : List MintRow) → Holds c.args.mints.now (keys c) table → action_value (key_of (keys c)) c.settle-native.result ≡ action_of (keys c) table (item c)
unfolding action_of
value c table h =
    let ks = keys c in
    let v = item c in
    let i = acted_of (program_of ks v) v.accounts v.bytes in
    let small : i < 256 = rw (← (held c)) (omega arith) in
    let a = c.accounts-accounts in
    let m = c.mint in
    let minted : mint_of m.result.now ≡ mint_in table (key_of ks i) = ap mint_of (m.ensures ∙ ap (known_mint c.args.mints.now) (held c)) ∙ h i small in
    ap (action_value (key_of ks))
    (c.settle-native.ensures
    ∙ ap (λ (f : Option Native). settled (key_count ks) f a.result.now (mint_of m.result.now)) (formed c)
    ∙ ap (λ (l : List ℕ). settled (key_count ks) (form_of (program_of ks v) v.accounts v.bytes) l (mint_of m.result.now)) a.ensures
    ∙ ap (settled (key_count ks) (form_of (program_of ks v) v.accounts v.bytes) v.accounts) minted)
    ∙ sym (native-is (key_of ks) (key_count ks) (program_of ks v) v.accounts v.bytes (mint_in table))

pub returns : goal.returns
unfolding action_rows
returns c =
    let a = c.args in
    let native = c.settle-native.result in
    record {
      few = rw (c.from.ensures, c.is_some.ensures) (present-le native);
      counted = λ table h. rw (c.from.ensures, c.is_some.ensures) (row-counted (key_of a.keys.now) a.x.number native ∙ rw (value (goal.at.returns c).After-put_row table h));
      rows = λ table h. c.put_row.ensures ∙ row-placed (key_of a.keys.now) a.x.number native a.out.now a.x.row ∙ rw (value (goal.at.returns c).After-put_row table h);
    }
