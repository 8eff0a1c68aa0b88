-- What a token program moves is the instruction's transfer, and its row is put with the source's mint, or it says why there is none; no other program gives one.
use native.Mathlib.Omega.{arith}
use Rattle.route.proofs.Moving.{rows-le, no-transfer, no-token, row-counted, row-placed}
use Rattle.route.specs.Known.{known_mint}
use Rattle.route.specs.Lay.{placed}
use Rattle.route.specs.Program.{program_of}
use Rattle.route.specs.Transfers.{transfer_of, transfer_rows, reason_in, transfer_count}
use Rattle.token.specs.Programs.{is_token}
use Rattle.token.specs.Moved.{transfer_value, reason_of, source_by}
use Rattle.token.specs.Reasons.{reason}
use Rattle.token.specs.Transfers.{transfer}
use Rattle.ids.specs.declared.Id.{Id}
use Rattle.ids.specs.Mints.{mint_of}
use Rattle.evidence.specs.MintTable.{mint_in}
use Rattle.pack.specs.Invocation.{Instruction, instruction_at}
use Rattle.ids.specs.Keys.{key_of}
use mathlib.Core.List.{List}
use mathlib.Core.Path.{◌≡◌, sym, ap, ◌∙◌}
use mathlib.Core.Bool.{false}
use Prim.Native.Nat.{ℕ}
use Rattle.route.proofs.transfers.put_one.Goals as goal
use Rattle.route.proofs.transfers.put_one.Goals.{After-reason-2, Start}

pub returns-then-not-token_program : goal.returns-then-not-token_program
unfolding transfer_rows placed transfer_count
returns-then-not-token_program c =
    let a = c.args in
    let v = instruction_at a.pack.now a.x.at in
    let program = c.token_program in
    let e : is_token (program_of a.keys.now v) ≡ false =
    rw (← c.requires.1) (sym program.ensures ∙ c.if-not-token_program.true) in
    record {
      value = c.reason.ensures ∙ sym (no-token a.keys.now v e);
      puts =
          rw c.reason.ensures
          record { few = omega arith; counted = λ table h. rw (no-transfer a.keys.now v e); rows = λ table h. rw (no-transfer a.keys.now v e) };
    }

abbrev keys : After-reason-2 → List ℕ
keys c = c.args.keys.now

abbrev item : After-reason-2 → Instruction
item c = instruction_at c.args.pack.now c.args.x.at

-- program, accounts and data are the instruction's
read : {A : Type 0} (f : Id → List ℕ → List ℕ → A) (c : After-reason-2)
    → f c.args.x.program c.accounts.result.now c.«data».result.now ≡ f (program_of (keys c) (item c)) (item c).accounts (item c).bytes
read f c =
    let a = c.accounts in
    let d = c.«data» in
    ap (λ (i : Id). f i a.result.now d.result.now) c.requires.1
    ∙ ap (λ (l : List ℕ). f (program_of (keys c) (item c)) l d.result.now) a.ensures
    ∙ ap (f (program_of (keys c) (item c)) (item c).accounts) d.ensures

-- so what is moved is its transfer, and the reason its own
value : (c : After-reason-2) → transfer_value (key_of (keys c)) c.transfer-moved.result ≡ transfer_of (keys c) (item c)
unfolding transfer_of
value c = c.transfer-moved.ensures.transfer ∙ read (transfer (key_of (keys c))) c

told : (c : After-reason-2) → reason_of c.transfer-moved.result ≡ reason_in (keys c) (item c)
unfolding reason_in
told c = c.transfer-moved.ensures.reason ∙ read (reason (key_of (keys c))) c

pub returns : goal.returns
unfolding transfer_rows
returns c =
    let a = c.args in
    let moved = c.transfer-moved.result in
    let program = key_of (keys (goal.at.returns c).After-reason-2) (item (goal.at.returns c).After-reason-2).program in
    let mint = mint_of (known_mint a.mints.now (source_by moved)) in
    record {
      value = c.reason-2.ensures ∙ told (goal.at.returns c).After-reason-2;
      puts = record {
        few = rows-le c.reason-2.result;
        counted = λ table h. rw c.reason-2.ensures (row-counted (key_of (keys (goal.at.returns c).After-reason-2)) (mint_in table) a.x.number program mint moved ∙ rw (value (goal.at.returns c).After-reason-2));
        rows =
            λ table h.
            rw (c.put_row.ensures, c.mint.ensures, c.source.ensures, c.program.ensures)
            (row-placed (key_of (keys (goal.at.returns c).After-reason-2)) (mint_in table) a.x.number program mint moved (h (source_by moved) (rw (← c.source.ensures) (omega arith))) a.out.now a.x.row ∙ rw (value (goal.at.returns c).After-reason-2));
      };
    }
