-- A program is the one of its number, so one that is not a given program has another number than that.
-- Assumes nothing.
use mathlib.Core.Path.{◌≡◌, refl, sym, ap, ◌∙◌}
use mathlib.Core.Logic.{◌≢◌}
use mathlib.Core.Bool.{false}
use borrow.Author.Tests.{ne_eqb}
use Rattle.ids.specs.declared.Id.{Id}
use Rattle.ids.specs.declared.Id.TheVariants.{SplToken, Token2022, WrappedSol, ComputeBudget, AssociatedToken, Memo, PumpFun, LaunchLab, PumpSwap, Clmm, Cpmm, AmmV4, Orca, Dlmm, System, Other, Unresolved}
use Rattle.ids.specs.Which.{number_of, same_id, of_number}

of-own-number : (id : Id) → of_number (number_of id) ≡ id
unfolding of_number
of-own-number SplToken = refl
of-own-number Token2022 = refl
of-own-number WrappedSol = refl
of-own-number ComputeBudget = refl
of-own-number AssociatedToken = refl
of-own-number Memo = refl
of-own-number PumpFun = refl
of-own-number LaunchLab = refl
of-own-number PumpSwap = refl
of-own-number Clmm = refl
of-own-number Cpmm = refl
of-own-number AmmV4 = refl
of-own-number Orca = refl
of-own-number Dlmm = refl
of-own-number System = refl
of-own-number Other = refl
of-own-number Unresolved = refl

pub another : (id p : Id) → id ≢ p → same_id id p ≡ false
another id p h = ne_eqb _ _ (λ e. h (sym (of-own-number id) ∙ ap of_number e ∙ of-own-number p))
