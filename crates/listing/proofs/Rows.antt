-- What the rows of table 1 tell, where a call is not refused: each field is read back, and is what the definitions say of the invocation.
-- Assumes nothing.
use mathlib.Core.Path.{◌≡◌, refl, sym, ap, ◌∙◌}
use mathlib.Core.Bool.{Bool, true, false, cond}
use mathlib.Core.List.{List, [], ◌∷◌, map}
use mathlib.Core.Option.{Option, none, some, some-injective}
use Prim.Native.Nat.{ℕ, zero, suc, ◌+◌, ◌*◌, ◌/◌, ◌%◌, ◌≤◌, ◌<◌}
use native.Mathlib.Nat.{zero-add, le_of_suc-le-suc}
use native.Mathlib.Omega.{arith}
use borrow.Author.Tests.{eq-eqb, ne_eqb}
use lib.ListN.{length, get_or, length-map}
use Rattle.wire.specs.Le.{le, le_bytes}
use Rattle.wire.proofs.Laws.{le-written}
use Rattle.wire.proofs.Tab.{tab-length, tab-at}
use Rattle.ids.specs.Keys.{Key}
use Rattle.pack.specs.Invocation.{Position, Instruction}
use Rattle.pack.specs.Sections.{section_of}
use Rattle.pack.specs.View.{view_of}
use Rattle.pack.specs.Flatten.{flatten}
use Rattle.pack.specs.Verdict.{verdict, refusal_number}
use Rattle.pack.proofs.Good.{passed}
use Rattle.evidence.specs.MintTable.{MintRow, MintAnswer}
use Rattle.subtrees.specs.Blocks.{some_in}
use Rattle.subtrees.specs.Subtrees.{position_in, within, odd, has_transfer, has_swap, bits, end_of, inside_of, parent_of, ends_of, insides_of}
use Rattle.subtrees.proofs.Claims.{end_after, parent-le, insides-same}
use Rattle.route.specs.Program.{skips, resolved, program_of, program_bits}
use Rattle.route.specs.Known.{present}
use Rattle.route.specs.Row.{flagged, invocation_row}
use Rattle.route.specs.Transfers.{transfer_of, reason_in}
use Rattle.route.specs.Legs.{leg_of}
use Rattle.route.specs.Tables.{item, own_of, flags_of, invocation_at, tables_with, positions_of, instructions_of}
use Rattle.route.specs.Route.{Lent, route}
use Rattle.route.specs.Order.{Succeeds}
use Rattle.route.specs.Laid.{AllLaid}
use Rattle.route.proofs.Laid.{all_laid}
use Rattle.route.proofs.Named.{no-refusal}
use Rattle.route.proofs.Refusals.{numbered}
use Rattle.route.proofs.Ways.{tables_by, tables-by}
use Rattle.route.proofs.OrderMints.{answered}
use Rattle.listing.specs.Listing.{row_in}
use Rattle.listing.specs.Tree.{own_in}

-- a number of four bytes
four : (x : ℕ) → x < 4294967296 → le 4 (le_bytes 4 x) 0 ≡ x
unfolding le_bytes
four x h = le-written 4 x [] [] 0 refl h

-- the fields that the tree is made of, read back
module _ (p : Position) (end bits leg parent reason : ℕ) where
  -- a row whose index and height are these, each of five bytes whether it is there or not
  abbrev made : Option ℕ → Option ℕ → List ℕ
  made i k = invocation_row (record { outer = p.outer; inner = i; height = k }) end bits leg parent reason

  stand : (i k : Option ℕ) → (le 4 (made i k) 14 ≡ le 4 (le_bytes 4 end) 0) × (get_or (made i k) 18 0 ≡ bits) × (le 4 (made i k) 23 ≡ le 4 (le_bytes 4 parent) 0)
  unfolding le le_bytes flagged invocation_row
  stand none none = (refl, refl, refl)
  stand none (some x) = (refl, refl, refl)
  stand (some x) none = (refl, refl, refl)
  stand (some x) (some y) = (refl, refl, refl)

  end_read : end < 4294967296 → le 4 (invocation_row p end bits leg parent reason) 14 ≡ end
  end_read h = (stand p.inner p.height).0 ∙ four end h

  bits-read : get_or (invocation_row p end bits leg parent reason) 18 0 ≡ bits
  bits-read = (stand p.inner p.height).1

  parent-read : parent < 4294967296 → le 4 (invocation_row p end bits leg parent reason) 23 ≡ parent
  parent-read h = (stand p.inner p.height).2 ∙ four parent h

-- the bits of a row fall apart: two for what lies inside, two for the program, one each for a leg and a transfer of its own
low : (a b : Bool) → cond a 4 0 + cond b 8 0 ≡ (cond a 1 0 + cond b 2 0) * 4
low true true = refl
low true false = refl
low false true = refl
low false false = refl

low-le : (a b : Bool) → cond a 1 0 + cond b 2 0 ≤ 3
low-le true true = omega arith
low-le true false = omega arith
low-le false true = omega arith
low-le false false = omega arith

parts : (i k : ℕ) (c d : Bool) → i ≤ 3 → k ≤ 3
    → ((i + (k * 4 + (cond c 16 0 + cond d 32 0))) % 4 ≡ i)
    × (bits (odd ((i + (k * 4 + (cond c 16 0 + cond d 32 0))) / 32)) (odd ((i + (k * 4 + (cond c 16 0 + cond d 32 0))) / 16)) ≡ bits d c)
parts i k true true p q = (omega arith, rw (eq-eqb ((i + (k * 4 + 48)) / 32 % 2) 1 (omega arith), eq-eqb ((i + (k * 4 + 48)) / 16 % 2) 1 (omega arith)))
parts i k true false p q = (omega arith, rw (ne_eqb ((i + (k * 4 + 16)) / 32 % 2) 1 (λ e. omega arith), eq-eqb ((i + (k * 4 + 16)) / 16 % 2) 1 (omega arith)))
parts i k false true p q = (omega arith, rw (eq-eqb ((i + (k * 4 + 32)) / 32 % 2) 1 (omega arith), ne_eqb ((i + (k * 4 + 32)) / 16 % 2) 1 (λ e. omega arith)))
parts i k false false p q = (omega arith, rw (ne_eqb ((i + (k * 4 + 0)) / 32 % 2) 1 (λ e. omega arith), ne_eqb ((i + (k * 4 + 0)) / 16 % 2) 1 (λ e. omega arith)))

pub inside-le : (ps : List Position) (own : List ℕ) (i : ℕ) → inside_of ps own i ≤ 3
unfolding inside_of
inside-le ps own i = go (some_in (length ps) (within ps) i (λ y. has_transfer (get_or own y 0))) (some_in (length ps) (within ps) i (λ y. has_swap (get_or own y 0)))
  where
    go : (t s : Bool) → bits t s ≤ 3
    go true true = omega arith
    go true false = omega arith
    go false true = omega arith
    go false false = omega arith

map_at : (f : Instruction → ℕ) (xs : List Instruction) (i : ℕ) → i < length xs → get_or (map f xs) i 0 ≡ f (item xs i)
unfolding item
map_at f [] i l = absurd (omega arith)
map_at f (x ∷ xs) zero l = refl
map_at f (x ∷ xs) (suc i) l = map_at f xs i (le_of_suc-le-suc l)

-- what a row tells of invocation i: its end, its inside bits, what it has itself, its parent
record Told (ps : List Position) (own row : List ℕ) (i : ℕ) : Type 0 where
  ends : le 4 row 14 ≡ end_of ps i
  insides : get_or row 18 0 % 4 ≡ inside_of ps own i
  owns : own_in row ≡ get_or own i 0
  parents : le 4 row 23 ≡ parent_of ps i

-- each row of table 1 by its definition tells so
module _ (names ks : List ℕ) (pools : List Key) (table : List MintRow) (ps : List Position) (xs : List Instruction) where
  abbrev own : List ℕ
  own = map (own_of names ks pools table) xs

  row_told : (i : ℕ) → i < length ps → length ps ≡ length xs → length ps ≤ 1024 → Told ps own (invocation_at names ks pools table ps xs i) i
  unfolding invocation_at flags_of program_bits own_of own_in
  row_told i l same few =
      let x = item xs i in
      let a = skips (program_of ks x) in
      let b = resolved (program_of ks x) in
      let k = cond a 1 0 + cond b 2 0 in
      let w = parts (inside_of ps own i) k (present (leg_of names ks pools table x)) (present (transfer_of ks x)) (inside-le ps own i) (low-le a b) in
      record {
        ends = end_read (position_in ps i) (end_of ps i) _ _ _ _ (omega (arith, end_after ps i l));
        insides = rw (bits-read (position_in ps i) (end_of ps i) (inside_of ps own i + flags_of names ks pools table x) _ (parent_of ps i) (reason_in ks x), low a b) w.0;
        owns =
            rw (bits-read (position_in ps i) (end_of ps i) (inside_of ps own i + flags_of names ks pools table x) _ (parent_of ps i) (reason_in ks x), low a b) w.1
            ∙ sym (map_at (own_of names ks pools table) xs i (omega (arith, same)));
        parents = parent-read (position_in ps i) (end_of ps i) _ _ _ _ (omega (arith, parent-le ps i));
      }

-- so do the rows that a call leaves
module _ (names p : List ℕ) (l : Lent) (s : Succeeds (route names p l)) where
  abbrev rows : List ℕ
  rows = (route names p l).invocations

  abbrev n : ℕ
  n = (route names p l).answer.invocations

  abbrev ps : List Position
  ps = positions_of (flatten (view_of p))

  abbrev xs : List Instruction
  xs = instructions_of (flatten (view_of p))

  -- the pack meets no refusal, and so has at most 1,024 invocations
  pub good : refusal_number (verdict p) ≡ 0
  good = no-refusal names p l (λ k m z e. numbered m (sym e ∙ s))

  few : length (flatten (view_of p)) ≤ 1024
  few = (passed p good).few

  laid : AllLaid names p l (route names p l)
  laid = all_laid names p l s

  abbrev mints : MintAnswer
  mints = (answered p good).0

  tables-are : laid.tables ≡ tables_by names p mints
  tables-are = some-injective _ _ (sym laid.are ∙ tables-by names p l (answered p good).1)

  -- as many rows are counted as there are invocations
  pub counted : (route names p l).answer.invocations ≡ length (positions_of (flatten (view_of p)))
  unfolding tables_with
  counted =
      laid.invocations.count
      ∙ rw tables-are (tab-length _ 0 (length xs))
      ∙ length-map (flatten (view_of p)) (λ v. v.instruction)
      ∙ sym (length-map (flatten (view_of p)) (λ v. v.position))

  told : (i : ℕ) → i < (route names p l).answer.invocations → Told ps (own names (section_of p 0) (view_of p).pools mints.rows ps xs) (row_in rows i) i
  unfolding tables_with
  told i h =
      let ks = section_of p 0 in
      let pools = (view_of p).pools in
      let same : length ps ≡ length xs = length-map (flatten (view_of p)) (λ v. v.position) ∙ sym (length-map (flatten (view_of p)) (λ v. v.instruction)) in
      let t = row_told names ks pools mints.rows ps xs i (omega (arith, counted)) same (omega (arith, length-map (flatten (view_of p)) (λ v. v.position), few)) in
      let row : row_in rows i ≡ invocation_at names ks pools mints.rows ps xs i =
      laid.invocations.at i h ∙ rw tables-are (tab-at (invocation_at names ks pools mints.rows ps xs) [] 0 (length xs) i (omega (arith, counted, same)) ∙ rw zero-add) in
      rw row t

  -- the end and the parent of a row are those of the positions
  pub row-end : (i : ℕ) → i < (route names p l).answer.invocations → le 4 (row_in (route names p l).invocations i) 14 ≡ get_or (ends_of (positions_of (flatten (view_of p)))) i 0
  row-end i h = (told i h).ends ∙ sym (tab-at (end_of ps) 0 0 (length ps) i (omega (arith, counted)) ∙ rw zero-add)

  pub row-parent : (i : ℕ) → i < (route names p l).answer.invocations → le 4 (row_in (route names p l).invocations i) 23 ≡ parent_of (positions_of (flatten (view_of p))) i
  row-parent i h = (told i h).parents

  -- and its two lowest bits are what lies inside, by what the rows say that each invocation has itself
  pub row_inside : (own : List ℕ) → ((y : ℕ) → y < (route names p l).answer.invocations → get_or own y 0 ≡ own_in (row_in (route names p l).invocations y))
      → (i : ℕ) → i < (route names p l).answer.invocations
      → get_or (row_in (route names p l).invocations i) 18 0 % 4 ≡ get_or (insides_of (positions_of (flatten (view_of p))) own) i 0
  row_inside owns f i h =
      let known = own names (section_of p 0) (view_of p).pools mints.rows ps xs in
      let same = insides-same ps owns known (λ y k. f y (omega (arith, counted)) ∙ (told y (omega (arith, counted))).owns) in
      (told i h).insides
      ∙ sym (ap (λ (t : List ℕ). get_or t i 0) same ∙ tab-at (inside_of ps known) 0 0 (length ps) i (omega (arith, counted)) ∙ rw zero-add)
