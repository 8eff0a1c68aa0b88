-- Each arm's answer is the definition's, and so has the Rust's value and the layouts' reason (`tells`).
-- Assumes nothing.
use mathlib.Core.Path.{sym, ◌∙◌}
use Rattle.token.proofs.Reasons.{tells}
use Rattle.token.proofs.transfer.Goals as goal

pub returns-in-None : goal.returns-in-None
returns-in-None c = tells _ _ _ _ (rw (sym c.parse.ensures ∙ c.in-None.is, c.why_none.ensures))

pub returns-in-Some-Initialise : goal.returns-in-Some-Initialise
returns-in-Some-Initialise c = tells _ _ _ _ (rw (sym c.parse.ensures ∙ c.in-Some-Initialise.is, c.in-Some-Initialise.field-0-is))

pub returns-in-Some-Plain : goal.returns-in-Some-Plain
returns-in-Some-Plain c =
    tells _ _ _ _ (rw (sym c.parse.ensures ∙ c.in-Some-Plain.is, c.in-Some-Plain.field-0-is, c.sent_to.ensures, c.unnamed_fee.ensures))

pub returns-in-Some-Checked : goal.returns-in-Some-Checked
returns-in-Some-Checked c =
    tells _ _ _ _ (rw (sym c.parse.ensures ∙ c.in-Some-Checked.is, c.in-Some-Checked.field-0-is, c.sent_checked.ensures, c.unnamed_fee-in-Some-Checked.ensures))

pub returns-in-Some-WithFee : goal.returns-in-Some-WithFee
returns-in-Some-WithFee c =
    tells _ _ _ _ (rw (sym c.parse.ensures ∙ c.in-Some-WithFee.is, c.in-Some-WithFee.field-0-is, c.sent_checked-in-Some-WithFee.ensures))
