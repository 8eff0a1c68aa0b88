-- What the protocols read of an instruction's data d.
-- Assumes nothing.
use Rattle.std.specs.Prelude.{ℕ, ◌+◌, Bool, false, cond, ◌&&◌, ◌||◌, List, leb, ltb, eqb, length, get_or, Option, Some, None}
use Rattle.wire.specs.Le.{le}
use Rattle.swaps.specs.Discriminators.{SWAP, SWAP_V2}
use Rattle.swaps.specs.Draft.{in_order}

-- `disc`: the first eight bytes as one number, if they are there
abbrev pub discriminator : List ℕ → Option ℕ
discriminator d = cond (leb 8 (length d)) (Some (le 8 d 0)) None

-- a number that is there, and is x
abbrev pub is_number : Option ℕ → ℕ → Bool
is_number None x = false
is_number (Some v) x = eqb v x

-- `disc == Some(&x[..])`: the first eight bytes are there, and are x
unfoldable pub is : List ℕ → ℕ → Bool
is d x = is_number (discriminator d) x

-- `read_option_bool_idl(d, at)` is Some: the byte is there, and is 0 or 1
abbrev pub is_flag : List ℕ → ℕ → Bool
is_flag d at = ltb at (length d) && ltb (get_or d at 0) 2

-- the bool that it then is
abbrev pub flag : List ℕ → ℕ → Bool
flag d at = eqb (get_or d at 0) 1

-- `read_option_bool_idl(d, at)`
abbrev pub flag_at : List ℕ → ℕ → Option Bool
flag_at d at = cond (is_flag d at) (Some (flag d at)) None

-- go on if the test holds; without it the whole of `swap` is None
abbrev pub when : {A : Type 0} → Bool → Option A → Option A
when test f = cond test f None

-- go on with `u64_at(d, at)?` and `u64_at(d, at + 8)?`: where the second is there, so is the first
abbrev pub both : {A : Type 0} → List ℕ → ℕ → (ℕ → ℕ → Option A) → Option A
both d at f = when (leb (at + 16) (length d)) (f (le 8 d at) (le 8 d (at + 8)))

-- the two numbers
abbrev pub numbers_at : List ℕ → ℕ → Option (ℕ × ℕ)
numbers_at d at = both d at (λ first second. Some (first, second))

-- amount and threshold, the two numbers in the order that `exact` asks for
abbrev pub stated_at : List ℕ → ℕ → Bool → Option (ℕ × ℕ)
stated_at d at exact = both d at (λ first second. Some (in_order exact first second))

-- whether it is `swap_v2` and not `swap`, with at least so many accounts for each
abbrev pub swap_form : ℕ → ℕ → ℕ → List ℕ → Option Bool
swap_form floor floor_v2 n d = when ((is d SWAP || is d SWAP_V2) && leb (cond (is d SWAP_V2) floor_v2 floor) n) (Some (is d SWAP_V2))
