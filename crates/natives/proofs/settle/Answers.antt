-- A mint that is not wrapped SOL, and an index past the keys, leave nothing.
-- Assumes nothing.
use mathlib.Core.Path.{◌≡◌, refl, sym, ap, ◌∙◌}
use mathlib.Core.Bool.{Bool, true, false, cond, ◌&&◌, and-false}
use mathlib.Core.List.{List, [], ◌∷◌}
use Prim.Native.Nat.{ℕ, suc, ◌+◌}
use native.Mathlib.Nat.{add-zero, zero-add, sub-zero}
use native.Mathlib.Omega.{arith}
use lib.Dec.{ltb}
use lib.ListN.{length, get_or}
use Rattle.std.proofs.Common.{rules, tests}
use Rattle.std.specs.Prelude.{Some, None}
use Rattle.std.specs.Bool.{then_some}
use Rattle.std.specs.List.{list_all, range_with_len}
use Rattle.std.proofs.lemmas.Iterator.{YieldsList-from_range}
use Rattle.std.proofs.lemmas.Iterator.Search.{all_from_yields_List}
use Rattle.ids.specs.Keys.{key_count}
use Rattle.natives.specs.Natives.{indexes_below}
use Rattle.natives.specs.declared.Native.{Native}
use Rattle.natives.specs.Numbers.{settled}
use Rattle.natives.proofs.Laws.{wrapped-mint}
use Rattle.natives.proofs.settle.Goals as goal

pub returns-then-not-is_wrapped_sol : goal.returns-then-not-is_wrapped_sol
unfolding settled
returns-then-not-is_wrapped_sol c =
    rw (wrapped-mint c.args.mint.now, sym c.is_wrapped_sol.ensures ∙ c.if-not-is_wrapped_sol.true) (simp and-false)

-- the definition's test of the indexes is that of the index at each place, f from place a on
each-below : (count : ℕ) (f : ℕ → ℕ) (a : ℕ) (xs : List ℕ) → ((k : ℕ) → f (a + k) ≡ get_or xs k 0)
    → list_all (λ i. ltb (f i) count) (range_with_len a (length xs)) ≡ indexes_below count xs
unfolding indexes_below
each-below count f a [] h = refl
each-below count f a (x ∷ xs) h =
    let first : f a ≡ x = ap f (sym (add-zero a)) ∙ h 0 in
    rw (first, each-below count f (a + 1) xs (λ k. ap f (omega arith) ∙ h (suc k)))

kept : (b : Bool) (n : Native) → then_some b n ≡ cond (b && true) (Some n) None
kept true n = refl
kept false n = refl

pub returns : goal.returns
unfolding settled
returns c =
    let xs = c.args.accounts.now in
    let n = length xs in
    let count = c.key_count-count.result in
    let f : ℕ → Bool = λ i. ltb (get_or xs i 0) count in
    let all = all_from_yields_List f _ _ c.all.result c.all.ensures.ran (YieldsList-from_range 0 n n refl (sub-zero n)) (λ x b q k. search (rules, tests)) in
    rw (wrapped-mint c.args.mint.now, sym c.is_wrapped_sol.ensures ∙ c.if-not-is_wrapped_sol.false, ← each-below (key_count c.args.keys.now) (λ i. get_or xs i 0) 0 xs (λ k. simp zero-add refl), c.in_ok-native.was, ← c.key_count-count.ensures, ← all, c.then_some.ensures)
    (kept c.all.result c.in_ok-native.native)
