-- The pack that says what a View says: how cases are handed to the public call.
-- Assumes nothing.
use Rattle.std.specs.Prelude.{ℕ, ◌≡◌, length}
use mathlib.Core.List.{List, ◌∷◌, ◌++◌, map, flat_map}
use Rattle.std.proofs.Math.Option.{Option}
use Rattle.wire.specs.Le.{le_bytes}
use Rattle.ids.specs.Keys.{Key}
use Rattle.pack.specs.Invocation.{Instruction}
use Rattle.pack.specs.Group.{Group}
use Rattle.pack.specs.View.{View, view_of}
use Rattle.pack.proofs.Cases.{packed}
use Rattle.route.specs.Row.{flagged}
use Rattle.route.specs.Route.{Routed, route}
use Rattle.route.specs.WorkedForm.{names, worked_room}

-- a key after its flag, a mint after its account's index
abbrev pub key_row : ℕ × Key → List ℕ
key_row k = k.0 ∷ k.1

abbrev pub balance_row : ℕ × Key → List ℕ
balance_row b = le_bytes 4 b.0 ++ b.1

-- program index, number of accounts, length of the data, both of these
abbrev pub instruction_item : Instruction → List ℕ
instruction_item x = le_bytes 4 x.program ++ le_bytes 2 (length x.accounts) ++ le_bytes 2 (length x.bytes) ++ x.accounts ++ x.bytes

-- a height, then as an outer instruction
abbrev pub inner_item : Option ℕ × Instruction → List ℕ
inner_item x = flagged x.0 ++ instruction_item x.1

abbrev pub group_item : Group Instruction → List ℕ
group_item g = le_bytes 4 g.index ++ le_bytes 2 (length g.items) ++ flat_map inner_item g.items

unfoldable pub pack_of : View → List ℕ
pack_of v =
    packed
    (flat_map key_row v.keys)
    (flat_map balance_row v.balances)
    (flat_map instruction_item v.outer)
    (flat_map group_item v.groups)
    (flat_map (λ k. k) v.pools)

-- what the call leaves of that pack
unfoldable pub called : View → Routed
called v = route names (pack_of v) worked_room

-- of what a call leaves: the number of its refusal, and what is seen there
abbrev pub looked : {B : Type 0} → (Routed → B → B) → B → Routed → ℕ × B
looked see b r = (r.answer.number, see r b)

-- the packs of cases, read back, say what the cases say
abbrev pub ReadBack : {B : Type 0} → List (View × B) → Type 0
ReadBack {B} cs = map (λ (c : View × B). view_of (pack_of c.0)) cs ≡ map (λ (c : View × B). c.0) cs
