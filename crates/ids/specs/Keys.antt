-- Keys, and what a lookup in the key section answers.
-- Assumes nothing.
use Rattle.std.specs.Prelude.{ℕ, ◌+◌, ◌*◌, ◌/◌, List, Bool, cond, ltb, length, get_or, take, drop}
use Rattle.wire.specs.Same.{same}
use Rattle.wire.specs.Zeros.{zeros}

-- a key: 32 bytes in use
abbrev pub Key : Type 0
Key = List ℕ

-- the stand-in for a key that is missing, and the System program's key
unfoldable pub zero_key : Key
zero_key = zeros 32

-- whether a key is zero: it stands for no account and for no mint
abbrev pub is_zero : Key → Bool
is_zero k = same k zero_key

-- how many 33-byte rows stand in a key section: each a flag, then a key
abbrev pub key_count : List ℕ → ℕ
key_count ks = length ks / 33

-- the key of row i, or the stand-in z where there is no row i
abbrev pub key_at : List ℕ → Key → ℕ → Key
key_at ks z i = cond (ltb i (key_count ks)) (take 32 (drop (i * 33 + 1) ks)) z

-- the Rust's `key`: the key of row i, zero past the end
abbrev pub key_of : List ℕ → ℕ → Key
key_of ks i = key_at ks zero_key i

-- the Rust's `account`: the key that an instruction's account i names; κ gives the key of an index
abbrev pub account : (ℕ → Key) → List ℕ → ℕ → Key
account κ accounts i = cond (ltb i (length accounts)) (κ (get_or accounts i 0)) zero_key
