-- What `conclude` leaves is the definition's working table, and written in order it is the mint table; past 512 passes both have none.
use Rattle.mints.proofs.Working.{none_right, some_right, concluded-rows, concluded-fits}
use Rattle.mints.specs.Conclude.{Concluded}
use Rattle.mints.specs.Inference.{answer_of, mint_bytes, final_of}
use Rattle.ids.specs.Keys.{zero_key, key_count}
use Rattle.std.proofs.lemmas.Result.{err_from_is_err_and}
use lib.ListN.{length, length-take}
use Prim.Native.Nat.{◌≤◌}
use mathlib.Core.Path.{◌≡◌, refl, ap, ◌∙◌}
use native.Mathlib.Omega.{arith}
use Rattle.mints.proofs.infer.Goals as goal

pub conclude-requires : goal.conclude-requires
unfolding zero_key
conclude-requires c =
    let a = c.args in (
      omega (arith, ap length c.first_keys-keys.ensures, length-take 8448 a.keys.now),
      omega (arith, ap length c.first_offsets-at.ensures, length-take 1024 a.at.now),
      refl,
      refl,
    )

pub returns-in_err-done : goal.returns-in_err-done
unfolding answer_of mint_bytes final_of
returns-in_err-done c =
    let first-keys = c.first_keys-keys in
    let first-offsets = c.first_offsets-at in
    let a = c.args in
    let ks = first-keys.result.now in
    let o = first-offsets.result.now in
    let few : key_count ks ≤ 256 = omega (arith, ap length first-keys.ensures, length-take 8448 a.keys.now) in
    let short : length o ≤ 1024 = omega (arith, ap length first-offsets.ensures, length-take 1024 a.at.now) in
    let q = c.in_err-done.ensures in
    let none = none_right ks a.balances.now a.pack.now o few short q.value in
    let p = err_from_is_err_and c.from_residual.result c.from_residual.ensures.1 in
    rw (p.1, ← first-keys.ensures, ← first-offsets.ensures, none) (record { value = refl; rows_after = refl; known_after = refl; programs_after = q.programs_after })

pub publish-k-requires : goal.publish-k-requires
publish-k-requires c =
    let first-keys = c.first_keys-keys in
    let first-offsets = c.first_offsets-at in
    let conclude = c.conclude in
    let a = c.args in
    let ks = first-keys.result.now in
    let o = first-offsets.result.now in
    let few : key_count ks ≤ 256 = omega (arith, ap length first-keys.ensures, length-take 8448 a.keys.now) in
    let q = c.in_ok-done.ensures in
    let table = conclude.new.table in
    let t : length table ≡ 257 = conclude.auto.table in
    let r : length conclude.new.row ≡ 256 = conclude.auto.row in
    let n = c.key_count.ensures in record {
      rows_bound = (
        omega (arith, ap (λ (x : Concluded). x.rows) q.value, concluded-rows ks a.balances.now a.pack.now o few),
        omega (arith, n, r, few),
        omega (arith, n, few),
        t,
        λ i. rw q.value at (concluded-fits ks a.balances.now a.pack.now o few table t i),
      );
      known_value = refl;
    }

pub returns : goal.returns
returns c =
    let first-keys = c.first_keys-keys in
    let first-offsets = c.first_offsets-at in
    let a = c.args in
    let ks = first-keys.result.now in
    let o = first-offsets.result.now in
    let few : key_count ks ≤ 256 = omega (arith, ap length first-keys.ensures, length-take 8448 a.keys.now) in
    let short : length o ≤ 1024 = omega (arith, ap length first-offsets.ensures, length-take 1024 a.at.now) in
    let q = c.in_ok-done.ensures in
    let u = c.publish-k.ensures in
    let y = rw q.value at (some_right ks a.balances.now a.pack.now o few short (ap (λ (x : Concluded). x.passes) q.value)) in
    rw (← first-keys.ensures, ← first-offsets.ensures)
    (record { value = rw u.value y.answer; rows_after = u.out_after ∙ rw y.rows; known_after = u.known_after ∙ rw (c.key_count.ensures, y.final); programs_after = q.programs_after })
