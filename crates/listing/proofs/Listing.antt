-- Lines one after the other, and what a call with the input leaves.
-- Assumes nothing.
use mathlib.Core.Path.{◌≡◌, refl, sym, ap, ◌∙◌}
use mathlib.Core.List.{List, ◌++◌, append-nil, append_assoc}
use Prim.Native.Nat.{ℕ, zero, suc, ◌+◌}
use native.Mathlib.Nat.{zero-add, add-zero, add-suc, suc-add}
use native.Mathlib.Numerals.{add-one}
use lib.ListN.{take, drop}
use Rattle.route.specs.declared.Answer.{Answer}
use Rattle.route.specs.Route.{lent, Leaves}
use Rattle.listing.specs.Listing.{line, row_in, lines_from, listed, lent_room, route_of, listing}

-- one line more
pub lines_more : (rows : List ℕ) (n i : ℕ) → lines_from rows (suc n) i ≡ lines_from rows n i ++ line (row_in rows (i + n))
unfolding lines_from
lines_more rows zero i = rw (add-zero) (append-nil (line (row_in rows i)))
lines_more rows (suc n) i =
    ap (λ (l : List ℕ). line (row_in rows i) ++ l) (lines_more rows n (suc i))
    ∙ rw (suc-add, add-suc) (sym (append_assoc (line (row_in rows i)) (lines_from rows n (suc i)) (line (row_in rows (suc (i + n))))))

-- the lines of one row more
pub lines-next : (rows : List ℕ) (i : ℕ) → lines_from rows (i + 1) 0 ≡ lines_from rows i 0 ++ line (row_in rows i)
lines-next rows i = rw (add-one i) (lines_more rows i 0 ∙ rw (zero-add i))

-- what a call of `route` with both parts of the input and the room that is lent leaves
pub routed-by : (input : List ℕ) {names p t0 t1 t2 t3 t4 : List ℕ} {r : Answer} {o0 o1 o2 o3 o4 : List ℕ} → Leaves names p t0 t1 t2 t3 t4 r o0 o1 o2 o3 o4
    → names ≡ take 88 input → p ≡ drop 88 input → lent t0 t1 t2 t3 t4 ≡ lent_room → (r ≡ (route_of input).answer) × (o1 ≡ (route_of input).invocations)
unfolding route_of
routed-by input x n q l = rw (x.answer, x.invocations, n, q, l) (refl, refl)

-- what is printed of it is the listing
pub listing-by : (input : List ℕ) {names p t0 t1 t2 t3 t4 : List ℕ} {r : Answer} {o0 o1 o2 o3 o4 : List ℕ} → Leaves names p t0 t1 t2 t3 t4 r o0 o1 o2 o3 o4
    → names ≡ take 88 input → p ≡ drop 88 input → lent t0 t1 t2 t3 t4 ≡ lent_room → listed r o1 ≡ listing input
unfolding listing
listing-by input x n q l = rw (x.answer, x.invocations, n, q, l)
