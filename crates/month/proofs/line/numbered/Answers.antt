-- After the first test the line is the mint and zeros; an account goes behind its flag.
use Rattle.std.proofs.Common.{◌≡◌, ℕ, ◌+◌, ◌-◌, ◌*◌, ◌/◌, ◌%◌, List, ◌++◌, take, drop, set, sym, ap, ◌∙◌, arith, length-drop, length-take-le}
use native.Mathlib.Nat.{add-sub_cancel_left}
use lib.Seq.{sets}
use Rattle.wire.specs.Zeros.{zeros}
use Rattle.month.specs.Lookup.{fed_at}
use Rattle.month.proofs.Numbered.{mint-laid, mint-none, mint-long, account-laid, numbered-account, numbered-mint}
use Rattle.month.proofs.line.numbered.Goals as goal
use Rattle.month.proofs.line.numbered.Goals.{then-t-at-eq1, else-t-at-eq1, Joined-t-at-eq1}

first : (c : Joined-t-at-eq1) → c.if-t-at-eq1.line ≡ (fed_at c.args.t.now (c.args.n / 3)).mint ++ zeros 33
first c =
    let a = c.args in
    let at = a.n / 3 * 150 in
    let size : at + 133 - (at + 100) ≡ 33 = omega arith in
    elim c.if-t-at-eq1.branch [
      | then-t-at-eq1 w ↦ w.line-is ∙ w.put.ensures ∙ rw size (mint-laid a.t.now at c.requires w.if-t-at-eq1.true)
      | else-t-at-eq1 w ↦ w.line-is ∙ mint-none a.t.now at w.if-t-at-eq1.false
    ]

pub returns-else-which-ne0 : goal.returns-else-which-ne0
returns-else-which-ne0 c =
    let a = c.args in
    first (goal.at.returns-else-which-ne0 c).Joined-t-at-eq1 ∙ sym (numbered-mint a.t.now a.n c.if-which-ne0.false)

pub returns-then-which-ne0 : goal.returns-then-which-ne0
returns-then-which-ne0 c =
    let a = c.args in
    let from = a.n / 3 * 150 + 4 + a.n % 3 * 32 in
    let k = length-take-le 32 (drop from a.t.now) (omega (arith, length-drop from a.t.now, c.requires)) in
    simp add-sub_cancel_left at c.put-then-which-ne0.ensures
    ∙ ap (λ (l : List ℕ). sets (set l 33 1) 34 (take 32 (drop from a.t.now))) (first (goal.at.returns-then-which-ne0 c).Joined-t-at-eq1)
    ∙ account-laid (fed_at a.t.now (a.n / 3)).mint (take 32 (drop from a.t.now)) (mint-long a.t.now (a.n / 3 * 150) c.requires) k
    ∙ sym (numbered-account a.t.now a.n c.if-which-ne0.true)
