-- What the call answers to names of another length, and to packs with too many keys, with balances that name none, or with too many invocations.
-- Assumes nothing.
use Prim.Native.Nat.{ℕ}
use mathlib.Core.Path.{◌≡◌, refl}
use mathlib.Core.Logic.{◌≢◌}
use mathlib.Core.List.{List}
use borrow.Author.Tests.{ne_eqb}
use lib.ListN.{length}
use Rattle.std.specs.Prelude.{Err}
use Rattle.pack.specs.declared.Refusal.TheVariants.{Keys, Balances, Invocations}
use Rattle.pack.specs.Verdict.{verdict}
use Rattle.route.specs.Route.{Lent, refused, judged, route}
use Rattle.route.specs.Order.{RefusedWith}

-- names that are not 88 bytes, whatever the pack is and whatever tables are lent
pub other-names : (names p : List ℕ) (l : Lent) → length names ≢ 88 → RefusedWith (route names p l).answer 1 0
unfolding route refused
other-names names p l n = rw (ne_eqb (length names) 88 n) (refl, refl)

-- what a pack's verdict comes to, for names of 88 bytes
pub five : (names p : List ℕ) (l : Lent) → length names ≡ 88 → verdict p ≡ Err Keys → RefusedWith (route names p l).answer 5 0
unfolding route judged refused
five names p l e v = rw (e, v) (refl, refl)

pub eleven : (names p : List ℕ) (l : Lent) → length names ≡ 88 → verdict p ≡ Err Balances → RefusedWith (route names p l).answer 11 1
unfolding route judged refused
eleven names p l e v = rw (e, v) (refl, refl)

pub six : (names p : List ℕ) (l : Lent) → length names ≡ 88 → verdict p ≡ Err Invocations → RefusedWith (route names p l).answer 6 0
unfolding route judged refused
six names p l e v = rw (e, v) (refl, refl)
