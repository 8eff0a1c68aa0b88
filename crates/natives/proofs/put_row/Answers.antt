-- Each call stores one field into the row, which the fields fill (`fields`), and the last one puts the row; the case says which fields.
-- Assumes nothing.
use mathlib.Core.Path.{◌≡◌, refl, ap, ◌∙◌}
use mathlib.Core.List.{List}
use Prim.Native.Nat.{ℕ}
use lib.ListN.{length}
use lib.Seq.{sets}
use Rattle.std.specs.Prelude.{Option, Some, None}
use Rattle.wire.specs.Zeros.{zeros}
use Rattle.ids.specs.Keys.{key_of, zero_key}
use Rattle.ids.proofs.Keys.{key-length}
use Rattle.natives.specs.Rows.{action_width, key_if, fields_of}
use Rattle.natives.proofs.Fields.{fields}
use Rattle.natives.proofs.put_row.Goals as goal
use Rattle.natives.proofs.put_row.Goals.{in-Fund, in-Sync, in-Close}

-- a key that may be missing has 32 bytes
key_if-length : (ks : List ℕ) (i : Option ℕ) → length (key_if (key_of ks) i) ≡ 32
unfolding zero_key
key_if-length ks None = refl
key_if-length ks (Some i) = key-length ks i

pub returns : goal.returns
returns c =
    let a = c.args in
    let k = key_of a.keys.now in
    let t = c.match-native-2.told in
    let e : c.put.new.d ≡ sets a.out.now a.at (fields_of a.invocation t.kind (k t.account) (key_if k t.other) (key_if k t.authority) t.lamports) =
    rw (
      c.put.ensures,
      c.put_u64.ensures,
      c.put_key-3.ensures,
      c.put_key-2.ensures,
      c.put_key.ensures,
      c.from.ensures,
      c.put_byte.ensures,
      c.put_u32.ensures,
    )
    (ap
    (sets a.out.now a.at)
    (fields (zeros action_width) a.invocation t.kind (k t.account) (key_if k t.other) (key_if k t.authority) t.lamports
    refl (key-length a.keys.now t.account) (key_if-length a.keys.now t.other) (key_if-length a.keys.now t.authority))) in
    e ∙ rw c.in-Some.is (elim c.match-native-2.branch [
      | in-Fund w ↦ rw (w.told-is, w.in-Fund.is)
      | in-Sync w ↦ rw (w.told-is, w.in-Sync.is)
      | in-Close w ↦ rw (w.told-is, w.in-Close.is)
    ])
