-- Where the rows, instructions and groups of a section stand, and whether they fill it. `s` is the section's bytes and `at` an offset in them.
-- Assumes nothing.
use Rattle.std.specs.Prelude.{ℕ, zero, suc, ◌+◌, ◌*◌, ◌/◌, ◌%◌, Bool, true, false, cond, ◌&&◌, List, [], ◌∷◌, leb, ltb, eqb, length, get_or, take, drop}
use Rattle.std.proofs.Math.Option.{Option, none, some}
use Rattle.wire.specs.Le.{le}
use Rattle.wire.specs.Below.{all_below}
use Rattle.pack.specs.Group.{Group}

-- n rows of w bytes
unfoldable pub rows : ℕ → ℕ → List ℕ → List (List ℕ)
rows w zero s = []
rows w (suc n) s = take w s ∷ rows w n (drop w s)

-- sections 1 and 4: rows of w bytes fill the section
unfoldable pub rows_fill : ℕ → List ℕ → Bool
rows_fill w s = eqb (length s % w) 0

-- section 0: rows of 33 bytes fill it, and the flag of each is 0 or 1
unfoldable pub keys_fill : List ℕ → Bool
keys_fill s = rows_fill 33 s && all_below (λ i. leb (get_or s (i * 33) 0) 1) (length s / 33)

-- where the instruction at an offset ends: 8 bytes, an index byte for each account, its data
unfoldable pub item_end : List ℕ → ℕ → ℕ
item_end s at = at + 8 + le 2 s (at + 4) + le 2 s (at + 6)

-- section 2: where its instructions start, from `at` on; the second number bounds how many are left
unfoldable pub outers_from : List ℕ → ℕ → ℕ → List ℕ
outers_from s zero at = []
outers_from s (suc f) at = let rest = outers_from s f (item_end s at) in cond (ltb at (length s)) (at ∷ rest) []

-- and whether they fill it, the last one ending with the section
unfoldable pub outers_fill : List ℕ → ℕ → ℕ → Bool
outers_fill s zero at = false
outers_fill s (suc f) at =
    let rest = outers_fill s f (item_end s at) in
    cond (ltb at (length s)) (leb (item_end s at) (length s) && rest) true

-- no section has more instructions or groups than bytes
abbrev pub outers_at : List ℕ → List ℕ
outers_at s = outers_from s (suc (length s)) 0

abbrev pub outers_whole : List ℕ → Bool
outers_whole s = outers_fill s (suc (length s)) 0

-- an inner instruction: height flag, height u32, then as an outer one
unfoldable pub height_at : List ℕ → ℕ → Option ℕ
height_at s at = cond (eqb (get_or s at 0) 0) none (some (le 4 s (at + 1)))

-- flag 0 with no height, or flag 1
unfoldable pub height_good : List ℕ → ℕ → Bool
height_good s at = cond (eqb (get_or s at 0) 0) (eqb (le 4 s (at + 1)) 0) (eqb (get_or s at 0) 1)

-- where n inner instructions end, from `at` on
unfoldable pub inners_end : List ℕ → ℕ → ℕ → ℕ
inners_end s zero at = at
inners_end s (suc n) at = inners_end s n (item_end s (at + 5))

-- they lie in the section, each with a good height
unfoldable pub inners_good : List ℕ → ℕ → ℕ → Bool
inners_good s zero at = true
inners_good s (suc n) at =
    let rest = inners_good s n (item_end s (at + 5)) in
    leb (item_end s (at + 5)) (length s) && (height_good s at && rest)

-- what they are: each one's height, and what r reads where its program index stands
unfoldable pub inners_from : {A : Type 0} → (ℕ → A) → List ℕ → ℕ → ℕ → List (Option ℕ × A)
inners_from r s zero at = []
inners_from r s (suc n) at = (height_at s at, r (at + 5)) ∷ inners_from r s n (item_end s (at + 5))

-- a group: outer index u32, count u16, and as many inner instructions
abbrev pub count_at : List ℕ → ℕ → ℕ
count_at s at = le 2 s (at + 4)

unfoldable pub group_end : List ℕ → ℕ → ℕ
group_end s at = inners_end s (count_at s at) (at + 6)

unfoldable pub group_good : List ℕ → ℕ → Bool
group_good s at = leb (at + 6) (length s) && inners_good s (count_at s at) (at + 6)

unfoldable pub group_at : {A : Type 0} → (ℕ → A) → List ℕ → ℕ → Group A
group_at r s at = record { index = le 4 s at; items = inners_from r s (count_at s at) (at + 6) }

-- section 3: where its groups start, from `at` on; the second number bounds how many are left
unfoldable pub groups_from : List ℕ → ℕ → ℕ → List ℕ
groups_from s zero at = []
groups_from s (suc f) at = let rest = groups_from s f (group_end s at) in cond (ltb at (length s)) (at ∷ rest) []

-- and whether they are good and fill it
unfoldable pub groups_fill : List ℕ → ℕ → ℕ → Bool
groups_fill s zero at = false
groups_fill s (suc f) at =
    let rest = groups_fill s f (group_end s at) in
    cond (ltb at (length s)) (group_good s at && rest) true

abbrev pub groups_at : List ℕ → List ℕ
groups_at s = groups_from s (suc (length s)) 0

abbrev pub groups_whole : List ℕ → Bool
groups_whole s = groups_fill s (suc (length s)) 0
