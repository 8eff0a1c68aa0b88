-- The refusals of the call, in the order of their tests: of those that are met the first is given. docs/FORMAT.md, the C header and the Rust crate list them in
-- this order, with these places; `bindings/rust/tests/refusals.rs` holds them to it.
-- Assumes nothing.
use Rattle.std.specs.Prelude.{ℕ, Bool, true, false, cond, not, List, [], ◌∷◌, map, ltb, eqb, length}
use Rattle.std.proofs.Math.Option.{Option, none, some}
use Rattle.pack.specs.Sections.{marked, ordered, section_of}
use Rattle.pack.specs.Items.{keys_fill, rows_fill, outers_whole, groups_whole}
use Rattle.pack.specs.View.{balances_named, view_of}
use Rattle.pack.specs.Flatten.{flatten}
use Rattle.route.specs.Tables.{Tables}
use Rattle.route.specs.Route.{Lent, accepted, too_small, tables_in}

-- a refusal: its number, the places that it can have, and at which of them names, pack and lent tables meet it, if they do, whatever else they meet
pub record Refusal : Type 0 where
  pub number : ℕ
  pub places : List ℕ
  pub met : List ℕ → List ℕ → Lent → Option ℕ

abbrev entry : ℕ → List ℕ → (List ℕ → List ℕ → Lent → Option ℕ) → Refusal
entry number places met = record { number = number; places = places; met = met }

-- met at place k where the test fails
abbrev met_at : ℕ → Bool → Option ℕ
met_at k fails = cond fails (some k) none

-- the lowest section that does not consist of whole rows or items, with flags and heights as they may be
unfoldable pub broken : List ℕ → Option ℕ
broken p =
    cond (not (keys_fill (section_of p 0))) (some 0)
    (cond (not (rows_fill 36 (section_of p 1))) (some 1)
    (cond (not (outers_whole (section_of p 2))) (some 2)
    (cond (not (groups_whole (section_of p 3))) (some 3)
    (cond (not (rows_fill 32 (section_of p 4))) (some 4)
    none))))

-- whether there are no tables, since the passes do not suffice
unfoldable pub unfinished : Option Tables → Bool
unfinished none = true
unfinished (some t) = false

-- the lowest lent table that is too small for those that there are
unfoldable pub crowds : Lent → Option Tables → Option ℕ
crowds l none = none
crowds l (some t) = too_small l t.room (accepted t l).answer

unfoldable pub refusal_table : List Refusal
refusal_table =
    -- the length of the names
    entry 1 (0 ∷ []) (λ names p l. met_at 0 (not (eqb (length names) 88))) ∷
    -- size and mark of the pack
    entry 2 (0 ∷ []) (λ names p l. met_at 0 (not (marked p))) ∷
    -- the starts of its sections
    entry 3 (0 ∷ []) (λ names p l. met_at 0 (not (ordered p))) ∷
    -- their rows and items
    entry 4 (0 ∷ 1 ∷ 2 ∷ 3 ∷ 4 ∷ []) (λ names p l. broken p) ∷
    -- the number of keys
    entry 5 (0 ∷ []) (λ names p l. met_at 0 (ltb 256 (length (view_of p).keys))) ∷
    -- the account indexes of balances
    entry 11 (1 ∷ []) (λ names p l. met_at 1 (not (balances_named (length (view_of p).keys) (view_of p).balances))) ∷
    -- the number of invocations that are kept
    entry 6 (0 ∷ []) (λ names p l. met_at 0 (ltb 1024 (length (flatten (view_of p))))) ∷
    -- the passes over the plain transfers
    entry 7 (0 ∷ []) (λ names p l. met_at 0 (unfinished (tables_in names p))) ∷
    -- the room in the tables
    entry 8 (0 ∷ 1 ∷ 2 ∷ 3 ∷ 4 ∷ []) (λ names p l. crowds l (tables_in names p)) ∷
    []

-- their numbers
abbrev pub refusal_numbers : List ℕ
refusal_numbers = map (λ (x : Refusal). x.number) refusal_table

-- number and place where a refusal is met, else those of the refusals after it
abbrev pub met_else : ℕ → Option ℕ → ℕ × ℕ → ℕ × ℕ
met_else number none later = later
met_else number (some place) later = (number, place)

-- number and place of the first refusal that is met, 0 and 0 where none is
unfoldable pub first_met : List Refusal → List ℕ → List ℕ → Lent → ℕ × ℕ
first_met [] names p l = (0, 0)
first_met (x ∷ xs) names p l = met_else x.number (x.met names p l) (first_met xs names p l)
