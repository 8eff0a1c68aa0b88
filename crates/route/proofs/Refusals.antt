-- The call gives the first refusal of the table that is met, and with it a place of that refusal.
-- Assumes nothing.
use mathlib.Core.Path.{◌≡◌, refl, sym, ap, subst, ◌∙◌}
use mathlib.Core.Logic.{◌≢◌}
use mathlib.Core.Bool.{Bool, true, false, cond, not, ◌&&◌}
use mathlib.Core.List.{List, [], ◌∷◌, Memᴰ}
use mathlib.Core.Option.{Option, none, some, none-ne-some, some-injective}
use Prim.Native.Nat.{ℕ, ◌/◌}
use borrow.Author.Tests.{eqb-false, ne_eqb, not-true}
use native.Mathlib.Omega.{arith}
use lib.Dec.{ltb, eqb}
use lib.ListN.{length}
use Rattle.wire.proofs.Below.{and_left, and_right}
use Rattle.pack.specs.declared.Refusal.TheVariants.{Mark, Starts, Section, Keys, Balances, Invocations}
use Rattle.std.specs.Prelude.{Ok, Err}
use Rattle.pack.specs.Sections.{marked, ordered, section_of}
use Rattle.pack.specs.Items.{keys_fill, rows_fill, outers_whole, groups_whole}
use Rattle.pack.specs.View.{balances_named, view_of}
use Rattle.pack.specs.Flatten.{flatten}
use Rattle.pack.specs.Verdict.{Verdict, verdict, refusal_number, place_of}
use Rattle.route.specs.declared.Answer.{Answer}
use Rattle.route.specs.Widths.{mint_width, invocation_width, transfer_width, leg_width, action_width}
use Rattle.route.specs.Tables.{Tables}
use Rattle.route.specs.Route.{Lent, refused, accepted, too_small, by_room, fitted, passed, tables_in, judged, route}
use Rattle.route.specs.Refusals.{Refusal, broken, unfinished, crowds, refusal_table, refusal_numbers, met_else, first_met}

-- number and place of an answer
abbrev pub told : Answer → ℕ × ℕ
told r = (r.number, r.place)

-- a list without 0
abbrev without-0 : List ℕ → Bool
without-0 [] = true
without-0 (n ∷ l) = not (eqb n 0) && without-0 l

not-0 : {n : ℕ} (l : List ℕ) → without-0 l ≡ true → Memᴰ n l → n ≢ 0
not-0 {n = n} [] e h z = elim h [ ]
not-0 (k ∷ l) e (Memᴰ.head q) z = eqb-false k 0 (not-true _ (and_left (not (eqb k 0)) (without-0 l) e)) (sym q ∙ z)
not-0 (k ∷ l) e (Memᴰ.tail m) z = not-0 l (and_right (not (eqb k 0)) (without-0 l) e) m z

-- number and place of a refusal of the table
pub record Listed (number place : ℕ) : Type 0 where
  pub refusal : Refusal
  pub listed : Memᴰ refusal refusal_table
  pub is : refusal.number ≡ number
  pub own : Memᴰ place refusal.places

-- every refusal has a number
pub numbered : {n : ℕ} → Memᴰ n refusal_numbers → n ≢ 0
unfolding refusal_table
numbered m = not-0 refusal_numbers refl m

-- each of a list's refusals is met at a place of its own
data InPlaces (names p : List ℕ) (l : Lent) : List Refusal → Type 0 where
  done : InPlaces names p l []
  also : {x : Refusal} {xs : List Refusal} → ((k : ℕ) → x.met names p l ≡ some k → Memᴰ k x.places) → InPlaces names p l xs → InPlaces names p l (x ∷ xs)

-- a single place, and the first of five
one_place : (k : ℕ) (b : Bool) {j : ℕ} → cond b (some k) none ≡ some j → Memᴰ j (k ∷ [])
one_place k true e = Memᴰ.head (sym (some-injective _ _ e))
one_place k false e = absurd (none-ne-some _ e)

five-places : (a b c d e : Bool) {j : ℕ} → cond a (some 0) (cond b (some 1) (cond c (some 2) (cond d (some 3) (cond e (some 4) none)))) ≡ some j
    → Memᴰ j (0 ∷ 1 ∷ 2 ∷ 3 ∷ 4 ∷ [])
five-places true b c d e q = Memᴰ.head (sym (some-injective _ _ q))
five-places false true c d e q = Memᴰ.tail (Memᴰ.head (sym (some-injective _ _ q)))
five-places false false true d e q = Memᴰ.tail (Memᴰ.tail (Memᴰ.head (sym (some-injective _ _ q))))
five-places false false false true e q = Memᴰ.tail (Memᴰ.tail (Memᴰ.tail (Memᴰ.head (sym (some-injective _ _ q)))))
five-places false false false false true q = Memᴰ.tail (Memᴰ.tail (Memᴰ.tail (Memᴰ.tail (Memᴰ.head (sym (some-injective _ _ q))))))
five-places false false false false false q = absurd (none-ne-some _ q)

module _ (names p : List ℕ) (l : Lent) where
  -- what passes and room decide
  room-given : (t : Tables) (o : Option ℕ) → told (by_room (accepted t l) (λ k. refused 8 k l) o).answer ≡ met_else 8 o (0, 0)
  unfolding accepted refused
  room-given t none = refl
  room-given t (some k) = refl

  tables-given : (o : Option Tables) → told (passed o l).answer ≡ met_else 7 (cond (unfinished o) (some 0) none) (met_else 8 (crowds l o) (0, 0))
  unfolding passed fitted refused unfinished crowds
  tables-given none = refl
  tables-given (some t) = room-given t (too_small l t.room (accepted t l).answer)

  -- number and place that are given for a verdict on the pack
  record Given (v : Verdict) (t : ℕ × ℕ) : Type 0 where
    is : told (judged names p l v).answer ≡ t

  good-given : Given (Ok tt) (met_else 7 (cond (unfinished (tables_in names p)) (some 0) none) (met_else 8 (crowds l (tables_in names p)) (0, 0)))
  unfolding judged
  good-given = record { is = tables-given (tables_in names p) }

  -- a test that is met, or what comes after it
  test-given : (b : Bool) (x : Verdict) {y : Verdict} {t : ℕ × ℕ} → refusal_number x ≢ 0 → Given y t
      → Given (cond b x y) (met_else (refusal_number x) (cond b (some (place_of x)) none) t)
  unfolding judged refused
  test-given true x h g = record { is = rw (ne_eqb (refusal_number x) 0 h) }
  test-given false x h g = g

  -- the lowest section that is broken
  sections-given : (a b c d e : Bool) {y : Verdict} {t : ℕ × ℕ} → Given y t
      → Given (cond a (Err (Section 0)) (cond b (Err (Section 1)) (cond c (Err (Section 2)) (cond d (Err (Section 3)) (cond e (Err (Section 4)) y)))))
      (met_else 4 (cond a (some 0) (cond b (some 1) (cond c (some 2) (cond d (some 3) (cond e (some 4) none))))) t)
  unfolding judged refused
  sections-given true b c d e g = record { is = refl }
  sections-given false true c d e g = record { is = refl }
  sections-given false false true d e g = record { is = refl }
  sections-given false false false true e g = record { is = refl }
  sections-given false false false false true g = record { is = refl }
  sections-given false false false false false g = g

  names-given : (b : Bool) {v : Verdict} {t : ℕ × ℕ} → Given v t → told (cond b (judged names p l v) (refused 1 0 l)).answer ≡ met_else 1 (cond (not b) (some 0) none) t
  unfolding refused
  names-given true g = g.is
  names-given false g = refl

  -- of the refusals that are met the first one of the table is given
  pub first-given : told (route names p l).answer ≡ first_met refusal_table names p l
  unfolding route verdict broken refusal_table first_met
  first-given =
      names-given (eqb (length names) 88)
      (test-given (not (marked p)) (Err Mark) (λ e. omega arith)
      (test-given (not (ordered p)) (Err Starts) (λ e. omega arith)
      (sections-given (not (keys_fill (section_of p 0))) (not (rows_fill 36 (section_of p 1))) (not (outers_whole (section_of p 2))) (not (groups_whole (section_of p 3))) (not (rows_fill 32 (section_of p 4)))
      (test-given (ltb 256 (length (view_of p).keys)) (Err Keys) (λ e. omega arith)
      (test-given (not (balances_named (length (view_of p).keys) (view_of p).balances)) (Err Balances) (λ e. omega arith)
      (test-given (ltb 1024 (length (flatten (view_of p)))) (Err Invocations) (λ e. omega arith)
      good-given))))))

  -- a refusal of a list that is met
  record FirstOf (xs : List Refusal) (number place : ℕ) : Type 0 where
    refusal : Refusal
    listed : Memᴰ refusal xs
    is : refusal.number ≡ number
    met : refusal.met names p l ≡ some place

  found : (xs : List Refusal) → (first_met xs names p l).0 ≢ 0 → FirstOf xs (first_met xs names p l).0 (first_met xs names p l).1
  unfolding first_met
  found [] z = absurd (z refl)
  found (x ∷ xs) z = go (x.met names p l) refl z (λ w. found xs w)
    where
      go : (o : Option ℕ) → x.met names p l ≡ o → (met_else x.number o (first_met xs names p l)).0 ≢ 0
          → ((first_met xs names p l).0 ≢ 0 → FirstOf xs (first_met xs names p l).0 (first_met xs names p l).1)
          → FirstOf (x ∷ xs) (met_else x.number o (first_met xs names p l)).0 (met_else x.number o (first_met xs names p l)).1
      go (some k) e z later = record { refusal = x; listed = Memᴰ.head refl; is = refl; met = e }
      go none e z later =
          let y = later z in
          record { refusal = y.refusal; listed = Memᴰ.tail y.listed; is = y.is; met = y.met }

  crowded-place : (o : Option Tables) {k : ℕ} → crowds l o ≡ some k → Memᴰ k (0 ∷ 1 ∷ 2 ∷ 3 ∷ 4 ∷ [])
  unfolding crowds
  crowded-place none e = absurd (none-ne-some _ e)
  crowded-place (some t) e =
      let a = (accepted t l).answer in
      five-places
      (ltb (l.mints / mint_width) t.room)
      (ltb (l.invocations / invocation_width) a.invocations)
      (ltb (l.transfers / transfer_width) a.transfers)
      (ltb (l.legs / leg_width) a.legs)
      (ltb (l.natives / action_width) a.natives)
      e

  in-places : InPlaces names p l refusal_table
  unfolding refusal_table broken
  in-places =
      also (λ k e. one_place 0 (not (eqb (length names) 88)) e)
      (also (λ k e. one_place 0 (not (marked p)) e)
      (also (λ k e. one_place 0 (not (ordered p)) e)
      (also (λ k e. five-places (not (keys_fill (section_of p 0))) (not (rows_fill 36 (section_of p 1))) (not (outers_whole (section_of p 2))) (not (groups_whole (section_of p 3))) (not (rows_fill 32 (section_of p 4))) e)
      (also (λ k e. one_place 0 (ltb 256 (length (view_of p).keys)) e)
      (also (λ k e. one_place 1 (not (balances_named (length (view_of p).keys) (view_of p).balances)) e)
      (also (λ k e. one_place 0 (ltb 1024 (length (flatten (view_of p)))) e)
      (also (λ k e. one_place 0 (unfinished (tables_in names p)) e)
      (also (λ k e. crowded-place (tables_in names p) e)
      done))))))))

  places_of : {xs : List Refusal} {x : Refusal} {k : ℕ} → InPlaces names p l xs → Memᴰ x xs → x.met names p l ≡ some k → Memᴰ k x.places
  places_of {k = k} done h e = elim h [ ]
  places_of (also h r) (Memᴰ.head q) e = rw q (h _ (rw q at e))
  places_of (also h r) (Memᴰ.tail m) e = places_of r m e

  -- what is refused is refused with a number of the table, and at a place that this number has there
  pub given-listed : (route names p l).answer.number ≢ 0 → Listed (route names p l).answer.number (route names p l).answer.place
  given-listed z =
      let y = found refusal_table (λ w. z (ap (λ (t : ℕ × ℕ). t.0) first-given ∙ w)) in
      subst (λ (t : ℕ × ℕ). Listed t.0 t.1) (sym first-given)
      (record { refusal = y.refusal; listed = y.listed; is = y.is; own = places_of in-places y.listed y.met })
