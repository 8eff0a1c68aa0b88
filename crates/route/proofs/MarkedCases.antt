-- Each marked case has its outcome: its pack, as bytes, says what the case says and goes through the whole of `route`. Antt computes both.
-- Assumes nothing.
use mathlib.Core.Path.{◌≡◌, refl}
use mathlib.Core.List.{map, flat_map}
use Prim.Native.Nat.{ℕ}
use Rattle.wire.specs.Le.{le, le_bytes}
use Rattle.ids.specs.Ids.{ids}
use Rattle.pack.specs.Invocation.{instruction_at}
use Rattle.pack.specs.Sections.{mark, start_of, has_section, section_of}
use Rattle.pack.specs.Items.{rows, item_end, outers_from, height_at, inners_end, inners_from, group_end, group_at, groups_from}
use Rattle.pack.specs.View.{View, keys_in, balances_in, outer_in, groups_in, pools_in, view_of}
use Rattle.wire.specs.Tab.{tab}
use Rattle.route.specs.Row.{flagged}
use Rattle.route.specs.MarkedCases.{Outcome, seen, key, cases}
use Rattle.route.specs.WorkedForm.{names, worked_room}
use Rattle.route.specs.Packing.{pack_of, called, looked, ReadBack}
use Rattle.route.proofs.Opened.{opened}

-- what is found of a case, and what is expected
abbrev pub found : View × Outcome → ℕ × Outcome
found c = looked seen c.1 (called c.0)

abbrev pub expected : View × Outcome → ℕ × Outcome
expected c = (0, c.1)

-- no case is refused, and each has its outcome
pub marked-cases : map found cases ≡ map expected cases
unfolding opened key cases names worked_room called pack_of
marked-cases = refl

-- so none of these outcomes comes of a garbled pack
pub marked-packs : ReadBack cases
unfolding key cases pack_of flat_map flagged tab ids le le_bytes mark start_of has_section section_of instruction_at rows item_end outers_from height_at inners_end inners_from group_end group_at groups_from keys_in balances_in outer_in groups_in pools_in view_of
marked-packs = refl
