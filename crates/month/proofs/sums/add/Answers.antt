-- Each field is written behind the last, so it is read as it was; the four together are the row with the sums added.
use Rattle.std.proofs.Common.{◌≡◌, ℕ, ◌+◌, ◌-◌, ◌*◌, ◌^◌, ◌<◌, ◌≤◌, List, sym, ap, ◌∙◌, subst, arith}
use lib.Seq.{sets}
use Rattle.wire.specs.Le.{le, le_bytes}
use Rattle.month.specs.Bytes.{rows_to}
use Rattle.month.proofs.Posting.{room, sum_kept, takes_at, row-taken, row-added}
use Rattle.month.proofs.sums.add.Goals as goal
use Rattle.month.proofs.sums.add.Goals.{After-add_wide, After-add_wide-2, After-add_wide-3}

-- each field has room (`takes_at`), and is read as it was
past : (n j : ℕ) (c : After-add_wide) → c.args.place * 118 + 82 ≤ j → le n c.add_wide.new.d j ≡ le n c.args.report.now j
past n j c h =
    let b = c.args.report.now in
    let i = c.args.place * 118 + 66 in
    sum_kept n b c.add_wide.new.d i (le 16 b i + c.args.debit) j c.add_wide.ensures (omega arith)

past2 : (n j : ℕ) (c : After-add_wide-2) → c.args.place * 118 + 98 ≤ j → le n c.add_wide-2.new.d j ≡ le n c.add_wide.new.d j
past2 n j c h =
    let b = c.add_wide.new.d in
    let i = c.args.place * 118 + 82 in
    sum_kept n b c.add_wide-2.new.d i (le 16 b i + c.args.credit) j c.add_wide-2.ensures (omega arith)

past3 : (n j : ℕ) (c : After-add_wide-3) → c.args.place * 118 + 114 ≤ j → le n c.add_wide-3.new.d j ≡ le n c.add_wide-2.new.d j
past3 n j c h =
    let b = c.add_wide-2.new.d in
    let i = c.args.place * 118 + 98 in
    sum_kept n b c.add_wide-3.new.d i (le 16 b i + c.args.fee) j c.add_wide-3.ensures (omega arith)

pub add_wide-requires : goal.add_wide-requires
add_wide-requires c =
    let a = c.args in
    let r = takes_at a.report.now a.rows a.place c.requires.0 c.requires.3 in
    (omega (arith, c.requires.2.inside), room (2 ^ 128) (2 ^ 64) (le 16 a.report.now (a.place * 118 + 66)) a.debit r.0 (omega arith))

pub add_wide-requires-2 : goal.add_wide-requires-2
add_wide-requires-2 c =
    let a = c.args in
    let at = a.place * 118 in
    let r = takes_at a.report.now a.rows a.place c.requires.0 c.requires.3 in
    let d = (goal.at.add_wide-requires-2 c).After-add_wide in
    let h : le 16 c.add_wide.new.d (at + 82) < 2 ^ 128 - 2 ^ 64 = subst (λ (k : ℕ). k < 2 ^ 128 - 2 ^ 64) (sym (past 16 (at + 82) d (omega arith))) r.1 in
    (omega (arith, c.requires.2.inside, c.add_wide.auto.d), room (2 ^ 128) (2 ^ 64) (le 16 c.add_wide.new.d (at + 82)) a.credit h (omega arith))

pub add_wide-requires-3 : goal.add_wide-requires-3
add_wide-requires-3 c =
    let a = c.args in
    let at = a.place * 118 in
    let r = takes_at a.report.now a.rows a.place c.requires.0 c.requires.3 in
    let p = goal.at.add_wide-requires-3 c in
    let e : le 16 c.add_wide-2.new.d (at + 98) ≡ le 16 a.report.now (at + 98) = past2 16 (at + 98) p.After-add_wide-2 (omega arith) ∙ past 16 (at + 98) p.After-add_wide (omega arith) in
    let h : le 16 c.add_wide-2.new.d (at + 98) < 2 ^ 128 - 2 ^ 64 = subst (λ (k : ℕ). k < 2 ^ 128 - 2 ^ 64) (sym e) r.2 in
    (omega (arith, c.requires.2.inside, c.add_wide.auto.d, c.add_wide-2.auto.d), room (2 ^ 128) (2 ^ 64) (le 16 c.add_wide-2.new.d (at + 98)) a.fee h (omega arith))

pub overflow_add-before : goal.overflow_add-before
overflow_add-before c =
    let a = c.args in
    let at = a.place * 118 in
    let r = takes_at a.report.now a.rows a.place c.requires.0 c.requires.3 in
    let p = goal.at.overflow_add-before c in
    omega (arith, c.u32_at-before.ensures, past3 4 (at + 114) p.After-add_wide-3 (omega arith), past2 4 (at + 114) p.After-add_wide-2 (omega arith), past 4 (at + 114) p.After-add_wide (omega arith), r.3, c.requires.1)

pub returns : goal.returns
returns c =
    let a = c.args in
    let at = a.place * 118 in
    let b = a.report.now in
    let p = c.put_u32 in
    let q = p.ensures ∙ ap (λ (k : ℕ). sets c.add_wide-3.new.d (at + 114) (le_bytes 4 (k + a.apart))) c.u32_at-before.ensures in
    let t = row-taken b c.add_wide.new.d c.add_wide-2.new.d c.add_wide-3.new.d p.new.d at a.debit a.credit a.fee a.apart (omega (arith, c.requires.2.inside)) c.add_wide.ensures c.add_wide-2.ensures c.add_wide-3.ensures q in
    ap (λ (l : List ℕ). rows_to l a.rows) t
    ∙ row-added b a.rows a.place c.requires.0 (record { debits = a.debit; credits = a.credit; fees = a.fee; apart = a.apart }) c.requires.2.inside c.requires.2.sorted c.requires.3 (omega arith) (omega arith) (omega arith) c.requires.1
