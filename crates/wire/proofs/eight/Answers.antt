-- The number of the bytes is theirs by weight.
-- Assumes nothing.
use mathlib.Core.Path.{◌≡◌, ap, ◌∙◌}
use mathlib.Core.List.{List}
use Prim.Native.Nat.{ℕ, ◌-◌}
use lib.ListN.{length, get_or, take, drop, length-drop}
use lib.Seq.{take-length}
use Rattle.std.proofs.lemmas.List.{append-nil}
use Rattle.wire.proofs.Numbers.{part-at, worth-le}
use Rattle.wire.proofs.eight.Goals as goal

pub returns : goal.returns
returns c =
    let s = c.args.s.now in
    let i = c.args.i in
    let all : take (length s - i) (drop i s) ≡ drop i s = rw (← length-drop) (take-length _) in
    let bytes = c.front.ensures ∙ append-nil _ ∙ ap (take 8) all in
    c.from_le_bytes.ensures ∙ worth-le 7 c.front.result s i (λ k h. ap (λ (l : List ℕ). get_or l k 0) bytes ∙ part-at 8 s i k h)
