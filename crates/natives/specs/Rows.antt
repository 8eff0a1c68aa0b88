-- A row of the table of native actions: invocation, kind, account, source or destination, authority, lamports. Absent fields are zero.
-- Assumes nothing.
use Rattle.std.specs.Prelude.{ℕ, List, [], ◌∷◌, ◌++◌}
use Rattle.std.specs.Prelude as rust
use Rattle.std.proofs.Math.Option.{Option, none, some}
use Rattle.wire.specs.Le.{le_bytes}
use Rattle.ids.specs.Keys.{Key, zero_key}
use Rattle.natives.specs.Natives.{Action, fund, sync, close, NativeAction}

-- the bytes of a row
abbrev pub action_width : ℕ
action_width = 109

-- the key of an index, if there is one
abbrev pub key_if : (ℕ → Key) → rust.Option ℕ → Key
key_if κ rust.None = zero_key
key_if κ (rust.Some i) = κ i

-- one row's bytes
unfoldable pub fields_of : ℕ → ℕ → Key → Key → Key → ℕ → List ℕ
fields_of i kind held other authority lamports =
    le_bytes 4 i ++ (kind ∷ []) ++ held ++ other ++ authority ++ le_bytes 8 lamports

-- kinds: 1 fund, 2 sync, 3 close
abbrev pub action_row_by : ℕ → Key → Action → List ℕ
action_row_by i held (fund source lamports) = fields_of i 1 held source zero_key lamports
action_row_by i held sync = fields_of i 2 held zero_key zero_key 0
action_row_by i held (close destination authority) = fields_of i 3 held destination authority 0

-- the bytes that an instruction adds to the table
abbrev pub action_bytes : ℕ → Option NativeAction → List ℕ
action_bytes i none = []
action_bytes i (some a) = action_row_by i a.held a.action
