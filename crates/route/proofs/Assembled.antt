-- The rows of table 1 that the arrays give are those of the definition.
-- Assumes nothing.
use mathlib.Core.Path.{◌≡◌, refl, sym, ap, ◌∙◌}
use mathlib.Core.Bool.{Bool, true, false, cond}
use mathlib.Core.List.{List, map}
use mathlib.Core.Option.{Option, none, some}
use Prim.Native.Nat.{ℕ, suc, ◌+◌, ◌*◌, ◌≤◌, ◌<◌}
use native.Mathlib.Nat.{zero-add, add_assoc, zero-mul, one-mul}
use native.Mathlib.Omega.{arith}
use borrow.Author.Tests.{ne_eqb, lt-ltb}
use lib.Dec.{eqb}
use lib.ListN.{length, get_or}
use lib.Seq.{sets}
use Rattle.wire.specs.Zeros.{zeros}
use Rattle.ids.specs.Keys.{Key, key_of}
use Rattle.ids.specs.declared.Id.{Id}
use Rattle.pack.specs.Invocation.{Instruction, Position, position_in_places}
use Rattle.pack.specs.declared.position.Place.{Place}
use Rattle.token.specs.Transfers.{Transfer}
use Rattle.token.specs.Reasons.{Tells, says_why, says_transfer}
use Rattle.token.proofs.Reasons.{reason-tells}
use Rattle.evidence.specs.MintTable.{MintRow}
use Rattle.wire.specs.Tab.{tab}
use Rattle.subtrees.specs.Subtrees.{position_in, positions, bits, inside_of, insides_of, Subtrees}
use Rattle.wire.proofs.Tab.{tab-length, tab-at, tab-same}
use Rattle.subtrees.proofs.Arrays.{positions-length}
use Rattle.subtrees.proofs.Claims.{end-at, inside-at, parent-at, insides-same}
use Rattle.route.specs.Arrays.{item_at, own_for, own_at, owns_of, own_bits, bits_at, row_at}
use Rattle.route.specs.Known.{present, row_if, row_number_at}
use Rattle.route.specs.Lay.{rows_of}
use Rattle.route.specs.Program.{program_of, Programs}
use Rattle.route.specs.Transfers.{transfer_of, reason_in}
use Rattle.route.specs.Legs.{leg_of, leg_rows}
use Rattle.route.specs.Row.{invocation_row}
use Rattle.route.specs.Tables.{item, own_of, flags_of, leg_number, invocation_at}
use Rattle.route.proofs.Lists.{map-tab, take-tab, array_at}

-- a value has one row, and none has none
row_count : {A : Type 0} (f : A → List ℕ) (o : Option A) → length (row_if f o) ≡ cond (present o) 1 0
row_count f none = refl
row_count f (some x) = refl

-- what the arrays tell of an invocation whose reason is r, and with or without a leg whose number is m
own_bits-of : (r : ℕ) (s : Bool) (m : ℕ) → own_for r (cond s 1 0 * suc m) ≡ bits (eqb r 0) s
unfolding own_for
own_bits-of r true m = rw (one-mul (suc m), lt-ltb 0 (suc m) (omega arith))
own_bits-of r false m = rw (zero-mul (suc m))

flag-bits : (r : ℕ) (s : Bool) (m : ℕ) → own_bits r (cond s 1 0 * suc m) ≡ cond s 16 0 + cond (eqb r 0) 32 0
unfolding own_bits
flag-bits r true m = rw (one-mul (suc m), lt-ltb 0 (suc m) (omega arith))
flag-bits r false m = rw (zero-mul (suc m))

-- the reason is 0 exactly where there is a transfer
tells-present : {r : ℕ} {o : Option Transfer} → Tells r o → eqb r 0 ≡ present o
tells-present {r} (says_why h k) = ne_eqb r 0 (λ e. omega arith)
tells-present says_transfer = refl

pub reason-present : (ks : List ℕ) (x : Instruction) → eqb (reason_in ks x) 0 ≡ present (transfer_of ks x)
unfolding reason_in transfer_of
reason-present ks x = tells-present (reason-tells (key_of ks) (program_of ks x) x.accounts x.bytes)

leg-number : (s : Bool) (m : ℕ) → cond s 1 0 * suc m ≡ cond s (suc m) 0
leg-number true m = one-mul (suc m)
leg-number false m = zero-mul (suc m)

-- the inside bits that a list of them holds at a place
inside-in : (ps : List Position) (own : List ℕ) (i : ℕ) → i < length ps → get_or (insides_of ps own) i 0 ≡ inside_of ps own i
inside-in ps own i k = tab-at (inside_of ps own) 0 0 (length ps) i k ∙ rw zero-add

-- the arrays that `put_own` and `subtrees` leave give the row of each invocation
module _ (n tests : ℕ) (places : List Place) (programs : List Id) (reasons leg own ends inside parents : List ℕ) (few : n ≤ 1024) (owns : own ≡ sets (zeros 1024) 0 (owns_of reasons leg n)) (blocks : Subtrees (positions places n) own tests ends inside parents) where
  abbrev stood : List Position
  stood = positions places n

  owned : (y : ℕ) → y < length stood → get_or own y 0 ≡ get_or (owns_of reasons leg (length stood)) y 0
  owned y h =
      let k : y < n = omega (arith, positions-length places n) in
      array_at (zeros 1024) own (own_at reasons leg) n y owns few k ∙ sym (tab-at (own_at reasons leg) 0 0 (length stood) y h ∙ rw zero-add)

  insides : (i : ℕ) → i < length stood → get_or inside i 0 ≡ get_or (insides_of stood (owns_of reasons leg (length stood))) i 0
  insides i k =
      inside-at blocks i k
      ∙ sym (inside-in stood own i k)
      ∙ ap (λ (l : List ℕ). get_or l i 0) (insides-same stood own (owns_of reasons leg (length stood)) (λ y h. owned y h))

  pub row_by : (i : ℕ) → i < n → invocation_row (position_in_places places i) (get_or ends i 0) (bits_at programs inside reasons leg i) (get_or leg i 0) (get_or parents i 0) (get_or reasons i 0) ≡ row_at stood programs reasons leg i
  unfolding row_at bits_at position_in positions position_in_places
  row_by i h =
      let k : i < length stood = omega (arith, positions-length places n) in
      let q : position_in_places places i ≡ position_in stood i = sym (tab-at (position_in_places places) _ 0 n i h ∙ rw zero-add) in
      rw (q, end-at blocks i k, insides i k, parent-at blocks i k)

-- what the arrays hold, over the n instructions at the offsets of pack p; table is the rows of table 0
pub record ArraysGathered (names ks p : List ℕ) (pools : List Key) (table : List MintRow) (n : ℕ) (at : List ℕ) (programs : List Id) (reasons leg : List ℕ) : Type 0 where
  pub known : Programs ks (item_at p at) n programs
  pub reasoned : (i : ℕ) → i < n → get_or reasons i 0 ≡ reason_in ks (item_at p at i)
  pub numbers : (i : ℕ) → i < n → get_or leg i 0 ≡ row_number_at (leg_rows names ks pools table) (item_at p at) i

module _ (names ks p : List ℕ) (pools : List Key) (table : List MintRow) (n : ℕ) (at : List ℕ) (programs : List Id) (places : List Place) (reasons leg : List ℕ) (g : ArraysGathered names ks p pools table n at programs reasons leg) where
  abbrev xs : List Instruction
  xs = tab (item_at p at) 0 n

  abbrev ps : List Position
  ps = positions places n

  here : (i : ℕ) → i < n → item xs i ≡ item_at p at i
  unfolding item
  here i h = tab-at (item_at p at) _ 0 n i h ∙ rw zero-add

  abbrev before : ℕ → ℕ
  before i = length (rows_of (leg_rows names ks pools table) 0 (tab (item_at p at) 0 i))

  leg-is : (i : ℕ) → i < n → get_or leg i 0 ≡ cond (present (leg_of names ks pools table (item_at p at i))) 1 0 * suc (before i)
  unfolding leg_rows row_number_at
  leg-is i h = g.numbers i h ∙ ap (λ (k : ℕ). k * suc (before i)) (row_count _ (leg_of names ks pools table (item_at p at i)))

  own_is : (i : ℕ) → i < n → own_at reasons leg i ≡ own_of names ks pools table (item_at p at i)
  unfolding own_at own_of
  own_is i h =
      rw (g.reasoned i h, leg-is i h) (own_bits-of (reason_in ks (item_at p at i)) (present (leg_of names ks pools table (item_at p at i))) (before i) ∙ rw (reason-present ks (item_at p at i)))

  owns-same : (y : ℕ) → y < length ps → get_or (owns_of reasons leg (length ps)) y 0 ≡ get_or (map (own_of names ks pools table) xs) y 0
  owns-same y h =
      let k : y < n = omega (arith, positions-length places n) in
      tab-at (own_at reasons leg) 0 0 (length ps) y h
      ∙ rw zero-add (own_is y k ∙ sym (rw (map-tab (own_of names ks pools table) (item_at p at) 0 n) (tab-at _ 0 0 n y k ∙ rw zero-add)))

  inside_is : (i : ℕ) → i < n → get_or (insides_of ps (owns_of reasons leg (length ps))) i 0 ≡ inside_of ps (map (own_of names ks pools table) xs) i
  inside_is i h =
      let k : i < length ps = omega (arith, positions-length places n) in
      ap (λ (l : List ℕ). get_or l i 0) (insides-same ps (owns_of reasons leg (length ps)) (map (own_of names ks pools table) xs) (λ y q. owns-same y q))
      ∙ inside-in ps (map (own_of names ks pools table) xs) i k

  flags-is : (i : ℕ) → i < n → bits_at programs (insides_of ps (owns_of reasons leg (length ps))) reasons leg i ≡ inside_of ps (map (own_of names ks pools table) xs) i + flags_of names ks pools table (item xs i)
  unfolding bits_at flags_of
  flags-is i h =
      rw
      (inside_is i h, g.known i h, here i h, g.reasoned i h, leg-is i h, flag-bits (reason_in ks (item_at p at i)) (present (leg_of names ks pools table (item_at p at i))) (before i), reason-present ks (item_at p at i))
      (add_assoc _ _ _)

  number_is : (i : ℕ) → i < n → get_or leg i 0 ≡ leg_number names ks pools table xs i
  unfolding leg_number
  number_is i h =
      leg-is i h
      ∙ leg-number (present (leg_of names ks pools table (item_at p at i))) (before i)
      ∙ sym (rw (here i h, take-tab (item_at p at) 0 i n (omega arith)))

  row_is : (i : ℕ) → i < n → row_at ps programs reasons leg i ≡ invocation_at names ks pools table ps xs i
  unfolding row_at invocation_at
  row_is i h = rw (flags-is i h, number_is i h, here i h, g.reasoned i h)

  -- so are all of them
  pub rows_are : tab (row_at ps programs reasons leg) 0 (length ps) ≡ tab (invocation_at names ks pools table ps xs) 0 (length xs)
  rows_are = rw (positions-length places n) (tab-same _ _ 0 n (λ k h l. row_is k (omega arith)) ∙ rw (tab-length (item_at p at) 0 n))
