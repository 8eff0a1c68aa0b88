-- A shorter section is all of its own first bytes.
use Rattle.std.proofs.lemmas.List.{take_min}
use lib.ListN.{length, take}
use Prim.Native.Nat.{ℕ, min}
use mathlib.Core.Path.{◌≡◌, ap, ◌∙◌}
use native.Mathlib.Omega.{arith}
use Rattle.mints.proofs.first_keys.Goals as goal

pub returns : goal.returns
returns c =
    let l = c.args.keys.now in
    let e : c.min.result ≡ min 8448 (length l) = omega arith in
    ap (λ (n : ℕ). take n l) e ∙ take_min 8448 l
