-- A reader is read to its end, or as far as it may be: what it gives is the start of what it had.
-- Assumes nothing.
use mathlib.Core.Path.{◌≡◌}
use mathlib.Core.List.{List, [], ◌++◌}
use Prim.Native.Nat.{ℕ}
use lib.ListN.{take}
use Rattle.std.specs.declared.option.Option.{Option}
use Rattle.std.specs.Prelude.{None, Some}
use Rattle.std.specs.Option.{IfSome, option_map}
use Rattle.listing.proofs.read.Goals as goal

within_limit : {limit n : ℕ} (left : Option (List ℕ)) {front : List ℕ} (bytes : List ℕ) → limit ≡ n → front ≡ []
    → IfSome (option_map (take limit) left) (λ all. bytes ≡ front ++ all) → IfSome left (λ all. bytes ≡ take n all)
within_limit None bytes e f h = tt
within_limit (Some all) bytes e f h = rw (e, f) at h

pub returns : goal.returns
returns g c =
    let t = c.take.ensures in
    within_limit (g.R.Read.remaining c.args.input) _ t.limit c.new-bytes.ensures.items (rw t.inner at c.in_ok-read_to_end.ensures.bytes)
