-- Each call stores one field into the row, which the fields fill (`fields`), and the last one puts the row.
-- Assumes nothing.
use mathlib.Core.Path.{refl, ap}
use lib.Seq.{sets}
use mir.Val.{bool_byte}
use Rattle.std.specs.Prelude.{is_some, unwrap_or}
use Rattle.wire.specs.Le.{le_bytes}
use Rattle.wire.specs.Zeros.{zeros}
use Rattle.wire.proofs.Laws.{le_bytes-length}
use Rattle.ids.specs.Keys.{key_of}
use Rattle.ids.specs.Mints.{mint_of, mint_field}
use Rattle.ids.proofs.Keys.{key-length, mint-length}
use Rattle.token.specs.Rows.{transfer_width, transfer_row}
use Rattle.token.proofs.Fields.{fields, fee_told}
use Rattle.token.proofs.row.put_row.Goals as goal

pub returns : goal.returns
unfolding transfer_row
returns c =
    let a = c.args in
    let k = key_of a.keys.now in
    let m = c.in-Ok.transfer in
    rw (
      c.in-Ok.is,
      fee_told m.fee,
      c.put.ensures,
      c.put_u64-2.ensures,
      c.put_byte.ensures,
      c.put_u64.ensures,
      c.put_mint.ensures,
      c.put_key-3.ensures,
      c.put_key-2.ensures,
      c.put_key.ensures,
      c.put_u32.ensures,
      c.from.ensures,
      c.is_some.ensures,
      c.unwrap_or.ensures,
    )
    (ap
    (sets a.out.now a.at)
    (fields (zeros transfer_width) (le_bytes 4 a.invocation) (k a.program) (k m.source) (k m.destination) (mint_field (mint_of a.mint.now)) (le_bytes 8 m.amount) (le_bytes 8 (unwrap_or m.fee 0)) (bool_byte (is_some m.fee))
    refl (le_bytes-length 4 a.invocation) (key-length a.keys.now a.program) (key-length a.keys.now m.source) (key-length a.keys.now m.destination) (mint-length a.mint.now) (le_bytes-length 8 m.amount) (le_bytes-length 8 (unwrap_or m.fee 0))))
