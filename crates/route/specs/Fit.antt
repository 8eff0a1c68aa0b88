-- The answer alone, as the code decides on it.
-- Assumes nothing.
use Rattle.std.specs.Prelude.{ℕ, Result, Ok, Err}
use Rattle.pack.specs.Verdict.{refusal_number, place_of}
use Rattle.route.specs.declared.Answer.{Answer}
use Rattle.route.specs.declared.refusal.Refusal.{Refusal}
use Rattle.route.specs.declared.refusal.Refusal.TheVariants.{Names, Pack, Passes, Room}
use Rattle.route.specs.Route.{Lent, refused, too_small, by_room}

-- a refusal's answer
abbrev pub refusal : ℕ → ℕ → Answer
refusal number place = (refused number place (record { mints = 0; invocations = 0; transfers = 0; legs = 0; natives = 0 })).answer

-- the number and the place of a case
abbrev pub number_of : Refusal → ℕ
number_of Names = 1
number_of (Pack r) = refusal_number (Err r)
number_of Passes = 7
number_of (Room k) = 8

abbrev pub place_in : Refusal → ℕ
place_in Names = 0
place_in (Pack r) = place_of (Err r)
place_in Passes = 0
place_in (Room k) = k

-- the answer of a call, refused or not
abbrev pub answered : Result Answer Refusal → Answer
answered (Ok a) = a
answered (Err r) = refusal (number_of r) (place_in r)

-- the answer itself, or the refusal at the table that is too small
unfoldable pub fits : Lent → ℕ → Answer → Result Answer Refusal
fits l room a = by_room (Ok a) (λ k. Err (Room k)) (too_small l room a)
