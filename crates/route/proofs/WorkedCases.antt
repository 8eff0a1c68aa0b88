-- Each worked case shows its bytes: its pack goes through the whole of `route`, which antt computes.
-- Assumes nothing.
use mathlib.Core.Path.{◌≡◌, refl}
use mathlib.Core.List.{List, ◌++◌, map, map-append, flat_map}
use Prim.Native.Nat.{ℕ}
use Rattle.wire.specs.Le.{le, le_bytes}
use Rattle.ids.specs.Ids.{ids}
use Rattle.pack.specs.Invocation.{instruction_at}
use Rattle.pack.specs.Sections.{mark, start_of, has_section, section_of}
use Rattle.pack.specs.Items.{rows, item_end, outers_from, height_at, inners_end, inners_from, group_end, group_at, groups_from}
use Rattle.pack.specs.View.{View, keys_in, balances_in, outer_in, groups_in, pools_in, view_of}
use Rattle.wire.specs.Tab.{tab}
use Rattle.route.specs.Row.{flagged}
use Rattle.route.specs.MarkedCases.{key}
use Rattle.route.specs.WorkedForm.{Shown, shown, due, row, first, second, names, worked_room}
use Rattle.route.specs.WorkedLegs.{forms, leg_cases}
use Rattle.route.specs.WorkedCases.{row_cases, key_cases, room_cases, worked}
use Rattle.route.specs.Packing.{pack_of, called, looked, ReadBack}
use Rattle.route.proofs.Opened.{opened}

-- what is found of a case, and what is expected
abbrev pub found : View × Shown → ℕ × Shown
found c = looked shown c.1 (called c.0)

abbrev pub expected : View × Shown → ℕ × Shown
expected c = (due c.1, c.1)

-- in four parts: one computation of all would pass the limit of steps
rows_right : map found row_cases ≡ map expected row_cases
unfolding opened key row first second names worked_room row_cases called pack_of
rows_right = refl

keys-right : map found key_cases ≡ map expected key_cases
unfolding opened key row first second names worked_room key_cases called pack_of
keys-right = refl

room-right : map found room_cases ≡ map expected room_cases
unfolding opened key names worked_room room_cases called pack_of
room-right = refl

legs-right : map found leg_cases ≡ map expected leg_cases
unfolding opened key row first second names worked_room forms leg_cases called pack_of
legs-right = refl

-- two lists of cases one after the other
joined : (a b : List (View × Shown)) → map found a ≡ map expected a → map found b ≡ map expected b → map found (a ++ b) ≡ map expected (a ++ b)
joined a b x y = rw (map-append found a b, map-append expected a b, x, y)

-- each case has its answer, and shows its bytes
pub worked-cases : map found worked ≡ map expected worked
unfolding worked
worked-cases = joined (row_cases ++ key_cases ++ room_cases) leg_cases (joined (row_cases ++ key_cases) room_cases (joined row_cases key_cases rows_right keys-right) room-right) legs-right

-- and none of this comes of a garbled pack
pub worked-packs : ReadBack row_cases × ReadBack key_cases × ReadBack room_cases × ReadBack leg_cases
unfolding key first second names row_cases key_cases room_cases forms leg_cases pack_of flat_map flagged tab ids le le_bytes mark start_of has_section section_of instruction_at rows item_end outers_from height_at inners_end inners_from group_end group_at groups_from keys_in balances_in outer_in groups_in pools_in view_of
worked-packs = (refl, refl, refl, refl)
