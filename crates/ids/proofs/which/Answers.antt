-- A key can be no other program than the one that its fifth byte leads to, so one comparison tells.
-- Assumes nothing.
use mathlib.Core.Path.{sym, ◌∙◌}
use native.Mathlib.Omega.{arith}
use Rattle.ids.specs.Keys.{zero_key}
use Rattle.ids.proofs.Chosen.{zero-chosen, row-chosen, none-chosen, other-chosen}
use Rattle.ids.proofs.which.Goals as goal
use Rattle.ids.proofs.which.Goals.{in-System, in-Other, in_default}

pub returns-then-same : goal.returns-then-same
unfolding zero_key
returns-then-same c =
    let key = c.args.key.now in
    elim c.match-id.branch [
      | in-System w ↦ w.in-System.is ∙ zero-chosen key (sym w.equal-same.ensures ∙ (sym w.same-is ∙ c.if-same.true))
      | in-Other w ↦ grind arith
      | in_default w ↦ row-chosen key c.candidate-id.result c.byte.result c.byte.ensures c.candidate-id.ensures w.in_default.not-System w.in_default.not-Other (sym w.is_row-same.ensures ∙ (sym w.same-is ∙ c.if-same.true))
    ]

pub returns-else-same : goal.returns-else-same
unfolding zero_key
returns-else-same c =
    let none = none-chosen c.args.key.now c.candidate-id.result c.byte.result c.byte.ensures c.candidate-id.ensures in
    elim c.match-id.branch [
      | in-System w ↦ none (λ q. sym w.equal-same.ensures ∙ (sym w.same-is ∙ c.if-same.false)) (λ n. absurd (n w.in-System.is))
      | in-Other w ↦ other-chosen c.args.key.now c.candidate-id.result c.byte.result c.byte.ensures c.candidate-id.ensures w.in-Other.is
      | in_default w ↦ none (λ q. absurd (w.in_default.not-System q)) (λ n m. sym w.is_row-same.ensures ∙ (sym w.same-is ∙ c.if-same.false))
    ]
