-- Each turn reads one instruction more: another program's changes nothing, a token program's is noted and listed as the definition says, and counts grow by
-- at most two and one.
use Rattle.mints.proofs.Gathering.{program-next, programs-all, token-is, token-none, gather-pass, gather-next, room_next, count_next}
use Rattle.mints.specs.Gather.{is_plain, Gathered, gather_to}
use lib.ListN.{length}
use mathlib.Core.Path.{◌≡◌, refl, sym, ◌∙◌}
use native.Mathlib.Omega.{arith}
use Rattle.mints.proofs.notes.gather.Goals as goal

pub loop-i-init : goal.loop-i-init
unfolding gather_to
loop-i-init c = (refl, refl, omega arith, omega arith, refl, refl)

pub loop-i-preserved-then-not-token_program : goal.loop-i-preserved-then-not-token_program
loop-i-preserved-then-not-token_program c =
    let l = c.loop-i in
    let a = c.args in
    let ks = a.keys.now in
    let p = a.pack.now in
    let o = a.at.now in
    let few = c.requires.fits.1 in
    let filled = c.fill.ensures in
    let program = c.program.ensures in
    let id = c.program-id.ensures in
    let s : Gathered = record { noted = record { table = a.table.now; room = 0 }; transfers = a.transfers.now; count = 0 } in (
      l.invariant.0,
      l.invariant.1,
      omega (arith, l.invariant.2),
      omega (arith, l.invariant.3),
      gather-pass ks p o a.row.now s l.i (token-none ks p o l.i few filled program id (sym c.token_program.ensures ∙ c.if-not-token_program.true)) l.invariant.4,
      program-next ks p o l.i few filled program id c.loop-i-test.true a.programs.now l.invariant.5,
    )

pub loop-i-preserved-in_default : goal.loop-i-preserved-in_default
loop-i-preserved-in_default c =
    let l = c.loop-i in
    let a = c.args in
    let ks = a.keys.now in
    let p = a.pack.now in
    let o = a.at.now in
    let few = c.requires.fits.1 in
    let filled = c.fill.ensures in
    let program = c.program.ensures in
    let id = c.program-id.ensures in
    let token = token-is ks p o l.i few filled program id c.accounts-accounts.ensures c.«data».ensures (sym c.in_default.is ∙ c.parse.ensures) in
    let s : Gathered = record { noted = record { table = a.table.now; room = 0 }; transfers = a.transfers.now; count = 0 } in (
      l.invariant.0,
      l.invariant.1,
      omega (arith, l.invariant.2),
      omega (arith, l.invariant.3),
      gather-pass ks p o a.row.now s l.i token l.invariant.4,
      program-next ks p o l.i few filled program id c.loop-i-test.true a.programs.now l.invariant.5,
    )

pub overflow_add-room : goal.overflow_add-room
overflow_add-room c =
    let l = c.loop-i in
    omega (arith, l.invariant.2, room_next c.args.keys.now c.args.row.now c.in-Some.token c.accounts-accounts.result.now l.table l.room l.i c.observe-room.ensures l.invariant.2)

pub loop-i-preserved : goal.loop-i-preserved
loop-i-preserved c =
    let l = c.loop-i in
    let a = c.args in
    let ks = a.keys.now in
    let p = a.pack.now in
    let o = a.at.now in
    let row = a.row.now in
    let few = c.requires.fits.1 in
    let filled = c.fill.ensures in
    let program = c.program.ensures in
    let id = c.program-id.ensures in
    let token = token-is ks p o l.i few filled program id c.accounts-accounts.ensures c.«data».ensures (sym c.in-Some.is ∙ c.parse.ensures) in
    let kept : length c.observe-room.new.table ≡ length l.table = c.observe-room.auto.table in
    let listed : length c.list-count.new.transfers ≡ length l.transfers = c.list-count.auto.transfers in
    let q = c.list-count.ensures in (
      kept ∙ l.invariant.0,
      listed ∙ l.invariant.1,
      room_next ks row c.in-Some.token c.accounts-accounts.result.now l.table l.room l.i c.observe-room.ensures l.invariant.2,
      count_next (is_plain c.in-Some.token) l.count l.i q.value l.invariant.3,
      gather-next ks p o row (record { noted = record { table = a.table.now; room = 0 }; transfers = a.transfers.now; count = 0 }) l.i l.invariant.4 token c.accounts-accounts.ensures c.observe-room.ensures q.value q.transfers_after,
      program-next ks p o l.i few filled program id c.loop-i-test.true a.programs.now l.invariant.5,
    )

pub returns : goal.returns
returns c =
    let l = c.loop-i in
    let a = c.args in
    let n : l.i ≡ length a.at.now = omega arith in
    record { to_value = rw n at l.invariant.4; programs_after = programs-all a.keys.now a.pack.now a.at.now a.programs.now n l.invariant.5 }
