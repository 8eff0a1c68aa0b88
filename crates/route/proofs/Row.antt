-- Laws of the rows of table 1.
-- Assumes nothing.
use mathlib.Core.Path.{◌≡◌, refl, sym, ap, ◌∙◌}
use mathlib.Core.Logic.{◌≢◌}
use mathlib.Core.List.{List, [], ◌∷◌, ◌++◌}
use mathlib.Core.Option.{Option, none, some}
use mathlib.Core.Bool.{Bool, true, false, cond}
use Prim.Native.Nat.{ℕ, zero, suc, ◌+◌, ◌-◌, ◌≤◌}
use native.Mathlib.Omega.{arith}
use lib.Dec.{ltb, eqb}
use lib.ListN.{length, set, length-append}
use lib.Seq.{sets}
use Rattle.ids.specs.declared.Id.{Id}
use Rattle.wire.specs.Le.{le_bytes}
use Rattle.wire.proofs.Sets.{sets-next, sets-whole}
use Rattle.wire.proofs.Laws.{le_bytes-length}
use Rattle.pack.specs.Invocation.{Position, lowered}
use Rattle.route.specs.Arrays.{own_bits}
use Rattle.route.specs.Program.{skips, resolved, program_bits}
use Rattle.route.specs.Row.{invocation_width, flagged, invocation_row}

-- a number that is held one higher
pub lowered-above : (n : ℕ) → n ≢ 0 → lowered n ≡ some (n - 1)
unfolding lowered
lowered-above zero h = absurd (h refl)
lowered-above (suc n) h =
    let e : n ≡ suc n - 1 = omega arith in
    ap some e

pub flagged-length : (o : Option ℕ) → length (flagged o) ≡ 5
unfolding flagged
flagged-length none = ap suc (le_bytes-length 4 0)
flagged-length (some x) = ap suc (le_bytes-length 4 x)

-- a row has the width of the table
pub row-length : (p : Position) (end bits leg parent reason : ℕ) → length (invocation_row p end bits leg parent reason) ≡ invocation_width
unfolding invocation_row
row-length p end bits leg parent reason = simp (length-append, le_bytes-length, flagged-length)

-- the fields, each begun where the one before it ends, fill a row
pub fields : (l : List ℕ) (p : Position) (end bits leg parent reason : ℕ) → length l ≡ invocation_width → set (sets (sets (set (sets (sets (sets (sets l 0 (le_bytes 4 p.outer)) 4 (flagged p.inner)) 9 (flagged p.height)) 14 (le_bytes 4 end)) 18 bits) 19 (le_bytes 4 leg)) 23 (le_bytes 4 parent)) 27 reason ≡ invocation_row p end bits leg parent reason
unfolding invocation_row
fields l p end bits leg parent reason hl =
    let o = le_bytes 4 p.outer in
    let i = flagged p.inner in
    let h = flagged p.height in
    let e = le_bytes 4 end in
    let ho : length (le_bytes 4 p.outer) ≡ 4 = le_bytes-length 4 p.outer in
    let hi : length (flagged p.inner) ≡ 5 = flagged-length p.inner in
    let hh : length (flagged p.height) ≡ 5 = flagged-length p.height in
    let he : length (le_bytes 4 end) ≡ 4 = le_bytes-length 4 end in
    let hg : length (le_bytes 4 leg) ≡ 4 = le_bytes-length 4 leg in
    let hp : length (le_bytes 4 parent) ≡ 4 = le_bytes-length 4 parent in
    let told : set (sets l 0 (o ++ i ++ h ++ e)) 18 bits ≡ sets l 0 (o ++ i ++ h ++ e ++ (bits ∷ [])) = sets-next l 0 (o ++ i ++ h ++ e) (bits ∷ []) 18 (simp length-append (omega arith)) in
    let whole = o ++ i ++ h ++ e ++ (bits ∷ []) ++ le_bytes 4 leg ++ le_bytes 4 parent in
    let last : set (sets l 0 whole) 27 reason ≡ sets l 0 (whole ++ (reason ∷ [])) = sets-next l 0 whole (reason ∷ []) 27 (simp length-append (omega arith)) in
    rw (
      sets-next l 0 o i 4 (omega arith),
      sets-next l 0 (o ++ i) h 9 (simp length-append (omega arith)),
      sets-next l 0 (o ++ i ++ h) e 14 (simp length-append (omega arith)),
      told,
      sets-next l 0 (o ++ i ++ h ++ e ++ (bits ∷ [])) (le_bytes 4 leg) 19 (simp length-append (omega arith)),
      sets-next l 0 (o ++ i ++ h ++ e ++ (bits ∷ []) ++ le_bytes 4 leg) (le_bytes 4 parent) 23 (simp length-append (omega arith)),
      last,
    )
    (sets-whole l (invocation_row p end bits leg parent reason) (row-length p end bits leg parent reason ∙ sym hl))

-- the bits of a program, and those of what an invocation has itself, leave room for two more
pub program_bits-le : (id : Id) → program_bits id ≤ 12
unfolding program_bits
program_bits-le id = go (skips id) (resolved id)
  where
    go : (a b : Bool) → cond a 4 0 + cond b 8 0 ≤ 12
    go true true = omega arith
    go true false = omega arith
    go false true = omega arith
    go false false = omega arith

pub own_bits-le : (reason leg : ℕ) → own_bits reason leg ≤ 48
unfolding own_bits
own_bits-le reason leg = go (ltb 0 leg) (eqb reason 0)
  where
    go : (a b : Bool) → cond a 16 0 + cond b 32 0 ≤ 48
    go true true = omega arith
    go true false = omega arith
    go false true = omega arith
    go false false = omega arith
