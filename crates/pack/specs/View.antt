-- What a pack says.
-- Assumes nothing.
use Rattle.std.specs.Prelude.{ℕ, ◌/◌, Bool, cond, List, [], map, ltb, eqb, length, get_or, drop}
use Rattle.wire.specs.Le.{le}
use Rattle.wire.specs.Below.{all_below}
use Rattle.ids.specs.Keys.{Key, zero_key}
use Rattle.ids.specs.Which.{which}
use Rattle.ids.specs.declared.Id.{Id}
use Rattle.ids.specs.declared.Id.TheVariants.{Unresolved}
use Rattle.pack.specs.Invocation.{Instruction, instruction_at}
use Rattle.pack.specs.Group.{Group}
use Rattle.pack.specs.Sections.{section_of}
use Rattle.pack.specs.Items.{rows, outers_at, groups_at, group_at}

-- keys with their flags, balances with their account indexes, outer instructions, groups of inner ones, graduated pools
pub record View : Type 0 where
  pub keys : List (ℕ × Key)
  pub balances : List (ℕ × Key)
  pub outer : List Instruction
  pub groups : List (Group Instruction)
  pub pools : List Key

-- section 0: rows of 33 bytes, flag and key
unfoldable pub keys_in : List ℕ → List (ℕ × Key)
keys_in s = map (λ (r : List ℕ). (get_or r 0 0, drop 1 r)) (rows 33 (length s / 33) s)

-- section 1: rows of 36 bytes, account index and mint
unfoldable pub balances_in : List ℕ → List (ℕ × Key)
balances_in s = map (λ (r : List ℕ). (le 4 r 0, drop 4 r)) (rows 36 (length s / 36) s)

-- what refusal 11 asks of balances: the account index of every row, whatever its mint is, is below the number of keys
unfoldable pub balances_named : ℕ → List (ℕ × Key) → Bool
balances_named keys bs = all_below (λ i. ltb (get_or bs i (0, [])).0 keys) (length bs)

-- section 2: instructions, one after the other
unfoldable pub outer_in : List ℕ → List Instruction
outer_in s = map (instruction_at s) (outers_at s)

-- section 3: groups, one after the other
unfoldable pub groups_in : List ℕ → List (Group Instruction)
groups_in s = map (group_at (instruction_at s) s) (groups_at s)

-- section 4: rows of 32 bytes
unfoldable pub pools_in : List ℕ → List Key
pools_in s = rows 32 (length s / 32) s

-- what the five sections of a pack say
unfoldable pub view_of : List ℕ → View
view_of p =
    record {
      keys = keys_in (section_of p 0);
      balances = balances_in (section_of p 1);
      outer = outer_in (section_of p 2);
      groups = groups_in (section_of p 3);
      pools = pools_in (section_of p 4);
    }

-- the key of an index, zero past the keys
unfoldable pub key_in : List (ℕ × Key) → ℕ → Key
key_in ks i = get_or (map (λ (k : ℕ × Key). k.1) ks) i zero_key

-- which program an index names: resolved only in range with flag 1
unfoldable pub program_in : List (ℕ × Key) → ℕ → Id
program_in ks i = cond (eqb (get_or (map (λ (k : ℕ × Key). k.0) ks) i 0) 1) (which (key_in ks i)) Unresolved
