-- Tables with the rows that `room` answers always suffice: each row of table 0 is of a key of its own, and no instruction makes two rows of another table.
-- Assumes nothing.
use mathlib.Core.Path.{◌≡◌, refl, sym, ◌∙◌}
use mathlib.Core.Bool.{Bool, true, false, cond}
use mathlib.Core.List.{List, [], ◌∷◌}
use mathlib.Core.Logic.{◌≢◌}
use mathlib.Core.Option.{Option, none, some}
use Prim.Native.Nat.{ℕ, suc, ◌/◌, ◌≤◌}
use native.Mathlib.Omega.{arith}
use lib.Dec.{eqb}
use lib.ListN.{length, length-map, length-append}
use borrow.Author.Tests.{le-ltb, eq-eqb, ne_eqb, eqb-true, eqb-false}
use Rattle.ids.specs.Keys.{key_count, key_of}
use Rattle.pack.specs.Sections.{section_of}
use Rattle.pack.specs.View.{view_of}
use Rattle.pack.specs.Flatten.{flatten}
use Rattle.pack.specs.Verdict.{Verdict, verdict, refusal_number, place_of}
use Rattle.pack.proofs.Sizes.{keys_length}
use Rattle.evidence.specs.MintTable.{MintAnswer}
use Rattle.evidence.proofs.Bound.{rows_bound}
use Rattle.wire.proofs.Tab.{tab-length}
use Rattle.route.specs.Known.{row_if}
use Rattle.route.specs.Lay.{rows_of}
use Rattle.route.specs.Transfers.{transfer_of, transfer_rows}
use Rattle.route.specs.Legs.{leg_of, leg_rows}
use Rattle.route.specs.Actions.{action_of, action_rows}
use Rattle.route.specs.Widths.{mint_width, invocation_width, transfer_width, leg_width, action_width}
use Rattle.route.specs.Tables.{Tables, positions_of, invocation_at, tables_with, tables_if, tables}
use Rattle.route.specs.Route.{Lent, refused, accepted, fitted, passed, tables_in, judged, route}
use Rattle.route.specs.Enough.{rows_for, needed_by, needed, Enough}
use Rattle.route.specs.Order.{instructions_in, mints_in}
use Rattle.route.proofs.OrderKeys.{among}
use Rattle.route.proofs.OrderMints.{answered, made}
use Rattle.route.proofs.Ways.{of-pack}

-- what is answered of a pack that is refused
pub needed-refused : (p : List ℕ) {v : Verdict} {a b : ℕ} → refusal_number (verdict p) ≢ 0 → v ≡ verdict p → a ≡ refusal_number v → b ≡ place_of v
    → record { number = a; place = b; mints = 0; invocations = 0; transfers = 0; legs = 0; natives = 0 } ≡ needed p
unfolding needed_by
needed-refused p n v a b = rw (ne_eqb _ 0 n, a, b, v)

-- and of one that is not
pub needed-rows : (p : List ℕ) {k n : ℕ} → refusal_number (verdict p) ≡ 0 → k ≡ length (view_of p).keys → n ≡ length (flatten (view_of p)) → rows_for k n ≡ needed p
unfolding needed_by
needed-rows p e k n = rw (eq-eqb _ 0 e, k, n)

needed-number : (p : List ℕ) → (needed p).number ≢ 8
unfolding needed_by
needed-number p = go (eqb (refusal_number (verdict p)) 0) refl
  where
    go : (b : Bool) → eqb (refusal_number (verdict p)) 0 ≡ b
        → (cond b (rows_for (length (view_of p).keys) (length (flatten (view_of p)))) (record { number = refusal_number (verdict p); place = place_of (verdict p); mints = 0; invocations = 0; transfers = 0; legs = 0; natives = 0 })).number ≢ 8
    go true e q = omega arith
    go false e q = (of-pack (verdict p) (eqb-false (refusal_number (verdict p)) 0 e)).no_eight q

one-row : {A : Type 0} (f : A → List ℕ) (o : Option A) → length (row_if f o) ≤ 1
one-row f none = omega arith
one-row f (some x) = omega arith

-- items that make at most one row each
rows_few : {A : Type 0} (f : ℕ → A → List (List ℕ)) → ((i : ℕ) (x : A) → length (f i x) ≤ 1) → (i : ℕ) (l : List A) → length (rows_of f i l) ≤ length l
unfolding rows_of
rows_few f h i [] = omega arith
rows_few f h i (x ∷ l) = omega (arith, h i x, rows_few f h (suc i) l, length-append (f i x) (rows_of f (suc i) l))

-- tables that need no more rows than k keys and n invocations
data Small (k n : ℕ) : Option Tables → Type 0 where
  small : {t : Tables} → t.room ≤ k → length t.invocations ≤ n → length t.transfers ≤ n → length t.legs ≤ n → length t.natives ≤ n → Small k n (some t)

module _ (p : List ℕ) where
  -- the accounts of the mint table are keys of the pack, none of them twice
  room-keys : {x : MintAnswer} → mints_in p ≡ some x → x.room ≤ length (view_of p).keys
  room-keys q =
      let y = made p q in
      omega (arith, y.room, rows_bound (among (section_of p 0) (view_of p).balances (instructions_in p)) y.settled.grows, tab-length (key_of (section_of p 0)) 0 (key_count (section_of p 0)), keys_length p)

  tables-small : (names : List ℕ) {x : MintAnswer} → mints_in p ≡ some x → Small (length (view_of p).keys) (length (flatten (view_of p))) (tables_in names p)
  unfolding tables tables_if tables_with transfer_rows leg_rows action_rows
  tables-small names {x} q =
      let ks = section_of p 0 in
      let pools = (view_of p).pools in
      let xs = instructions_in p in
      let ps = positions_of (flatten (view_of p)) in
      let n = length-map (flatten (view_of p)) (λ v. v.instruction) in
      rw q (small {t = tables_with names ks pools ps xs x} (room-keys q)
      (omega (arith, n, tab-length (invocation_at names ks pools x.rows ps xs) 0 (length xs)))
      (omega (arith, n, rows_few (transfer_rows ks x.rows) (λ i y. one-row _ (transfer_of ks y)) 0 xs))
      (omega (arith, n, rows_few (leg_rows names ks pools x.rows) (λ i y. one-row _ (leg_of names ks pools x.rows y)) 0 xs))
      (omega (arith, n, rows_few (action_rows ks x.rows) (λ i y. one-row _ (action_of ks x.rows y)) 0 xs)))

  module _ (l : Lent) where
    -- with enough room such tables are accepted
    small-fits : {k n : ℕ} (o : Option Tables) → Small k n o → Enough (rows_for k n) l → ((passed o l).answer.number ≡ 0) × ((passed o l).answer.place ≡ 0)
    unfolding passed fitted accepted
    small-fits {k = k} {n = n} none x'' h = elim x'' [ ]
    small-fits (some t) (small a b c d e) h =
        rw (
          le-ltb (l.mints / mint_width) t.room (omega (arith, h.mints)),
          le-ltb (l.invocations / invocation_width) (length t.invocations) (omega (arith, h.invocations)),
          le-ltb (l.transfers / transfer_width) (length t.transfers) (omega (arith, h.transfers)),
          le-ltb (l.legs / leg_width) (length t.legs) (omega (arith, h.legs)),
          le-ltb (l.natives / action_width) (length t.natives) (omega (arith, h.natives)),
        )
        (refl, refl)

    -- For names of 88 bytes and tables with that room, the refusal that `room` answers, or its 0, is the one of `route`.
    pub room-answers : (names : List ℕ) → length names ≡ 88 → Enough (needed p) l
        → ((route names p l).answer.number ≡ (needed p).number) × ((route names p l).answer.place ≡ (needed p).place)
    unfolding route judged needed_by refused
    room-answers names g h = go (eqb (refusal_number (verdict p)) 0) refl
      where
        go : (b : Bool) → eqb (refusal_number (verdict p)) 0 ≡ b → ((route names p l).answer.number ≡ (needed p).number) × ((route names p l).answer.place ≡ (needed p).place)
        go true e = rw (eq-eqb (length names) 88 g, e) (small-fits (tables_in names p) (tables-small names (answered p (eqb-true (refusal_number (verdict p)) 0 e)).1) (rw e at h))
        go false e = rw (eq-eqb (length names) 88 g, e) (refl, refl)

    -- So no call with that room is refused for want of room, whatever its names are.
    pub room-suffices : (names : List ℕ) → Enough (needed p) l → (route names p l).answer.number ≢ 8
    unfolding route refused
    room-suffices names h = go (eqb (length names) 88) refl
      where
        go : (b : Bool) → eqb (length names) 88 ≡ b → (route names p l).answer.number ≢ 8
        go true e q = needed-number p (sym (room-answers names (eqb-true (length names) 88 e) h).0 ∙ q)
        go false e q = absurd (omega (arith, rw e at q))
