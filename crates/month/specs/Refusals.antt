-- Why a table is not fed, and the number that says so. Assumes nothing.
use Rattle.std.specs.Prelude.{ℕ}
use Rattle.month.specs.declared.Refusal.{Refusal}
use Rattle.month.specs.declared.Refusal.TheVariants.{BadTransfers, BadReport, NoRoom, PastLimit}

-- the number that a refusal is answered with
abbrev pub number_of : Refusal → ℕ
number_of BadTransfers = 19
number_of BadReport = 20
number_of NoRoom = 9
number_of PastLimit = 10
