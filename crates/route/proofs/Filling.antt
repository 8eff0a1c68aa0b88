-- What `flatten` and `infer` promise of a pack with a good verdict, put together.
-- Assumes nothing.
use mathlib.Core.Path.{◌≡◌, refl, sym, ap, ◌∙◌}
use mathlib.Core.Option.{Option, none, some}
use mathlib.Core.List.{List, [], map}
use Prim.Native.Nat.{ℕ, ◌-◌, ◌%◌, ◌≤◌}
use native.Mathlib.Nat.{sub-zero}
use native.Mathlib.Omega.{arith}
use borrow.Author.Tests.{eqb-true}
use lib.ListN.{length, get_or, take, drop, replicate, length-replicate}
use lib.Seq.{sets, length-sets, take_all, length-take-le, get_or-take}
use Rattle.wire.proofs.Below.{and_left}
use Rattle.pack.proofs.Stores.{laid-at}
use Rattle.wire.specs.Zeros.{zeros}
use Rattle.ids.specs.Keys.{key_of, key_count}
use Rattle.ids.specs.declared.Id.{Id}
use Rattle.ids.specs.declared.Id.TheVariants.{SplToken, Unresolved}
use Rattle.pack.specs.Invocation.{Invocation, instruction_at, position_in_places}
use Rattle.pack.specs.declared.position.Place.{Place}
use Rattle.pack.specs.Sections.{section_of}
use Rattle.pack.specs.Items.{keys_fill, rows_fill}
use Rattle.pack.specs.View.{view_of, pools_in}
use Rattle.pack.specs.Flatten.{flatten}
use Rattle.pack.specs.Layout.{Flattened, at_of, layout}
use Rattle.pack.specs.Verdict.{verdict, refusal_number}
use Rattle.pack.proofs.Good.{passed}
use Rattle.pack.proofs.Entries.{count-is, entry}
use Rattle.evidence.specs.MintTable.{MintAnswer}
use Rattle.mints.specs.Inference.{inferred_in, answer_of, mint_bytes, final_of}
use Rattle.mints.specs.Programs.{programs_of}
use Rattle.mints.proofs.Programs.{programs-length, kept-program}
use Rattle.mints.specs.Bytes.{table_bytes, mints_of}
use Rattle.mints.specs.declared.Made.{Made}
use Rattle.mints.specs.declared.TooManyPasses.{TooManyPasses}
use Rattle.std.specs.Prelude.{Result}
use Rattle.wire.specs.Tab.{tab}
use Rattle.subtrees.specs.Subtrees.{positions}
use Rattle.route.specs.Arrays.{item_at}
use Rattle.route.specs.Known.{Holds}
use Rattle.route.specs.Program.{program_of, Programs}
use Rattle.route.specs.Tables.{positions_of, instructions_of, tables_with, tables_if, tables}
use Rattle.route.specs.Route.{tables_in}
use Rattle.route.specs.Order.{mints_in}
use Rattle.route.proofs.Lists.{map-tab, is-tab}
use Rattle.route.proofs.Inferring.{holds}
use Rattle.route.proofs.OrderMints.{few_keys, answered, made, rows-room}
use Rattle.route.proofs.Success.{sound}

-- a position and an instruction that stand for none
nowhere : Invocation
nowhere = record { position = record { outer = 0; inner = none; height = none }; instruction = record { program = 0; accounts = []; bytes = [] } }

-- the pools of a pack, as legs read them
pub pools-are : (p : List ℕ) → pools_in (section_of p 4) ≡ (view_of p).pools
unfolding view_of
pools-are p = refl

module _ (p : List ℕ) (n : ℕ) (at : List ℕ) (places : List Place) (e : refusal_number (verdict p) ≡ 0) (w : Flattened p n at places) where
  pub few : n ≤ 1024
  few = omega (arith, count-is p n at places e w, (passed p e).few)

  pub at_length : length at ≡ 1024
  at_length = ap length w.ats ∙ length-sets (zeros 1024) 0 (map at_of (layout p)) ∙ length-replicate {A = ℕ} 1024 0

  -- the invocations, entry by entry
  listed : flatten (view_of p) ≡ tab (λ i. record { position = position_in_places places i; instruction = item_at p at i }) 0 n
  listed =
      is-tab nowhere (flatten (view_of p)) _ n (sym (count-is p n at places e w)) (λ i h. entry p n at places e w i h nowhere)

  pub instructions-are : instructions_of (flatten (view_of p)) ≡ tab (item_at p at) 0 n
  instructions-are = rw listed (map-tab (λ (v : Invocation). v.instruction) _ 0 n)

  pub positions-are : positions_of (flatten (view_of p)) ≡ positions places n
  unfolding positions
  positions-are = rw listed (map-tab (λ (v : Invocation). v.position) _ 0 n)

  -- no key is beyond the first 256
  pub keys-all : take 8448 (section_of p 0) ≡ section_of p 0
  unfolding keys_fill rows_fill
  keys-all =
      let r : length (section_of p 0) % 33 ≡ 0 = eqb-true _ 0 (and_left _ _ (passed p e).keys) in
      take_all 8448 (section_of p 0) (omega (arith, few_keys p e))

  -- the offsets that are lent are all of them
  offsets : take n at ≡ tab (λ i. get_or at i 0) 0 n
  offsets = is-tab 0 (take n at) _ n (length-take-le n at (omega (arith, few, at_length))) (λ i h. get_or-take n at i 0 h)

  pub inferred-is : inferred_in (take 8448 (section_of p 0)) (section_of p 1) p (take 1024 (take n at)) ≡ mints_in p
  unfolding view_of
  inferred-is =
      rw
      (keys-all, take_all 1024 (take n at) (omega (arith, few, at_length, length-take-le n at (omega (arith, few, at_length)))), offsets, map-tab (instruction_at p) (λ i. get_or at i 0) 0 n, instructions-are)

  -- the tables of the pack, by the arrays
  pub tables-are : (names : List ℕ) {x : MintAnswer} → mints_in p ≡ some x → tables_in names p ≡ some (tables_with names (section_of p 0) (pools_in (section_of p 4)) (positions places n) (tab (item_at p at) 0 n) x)
  unfolding tables tables_if
  tables-are names q = rw (q, instructions-are, positions-are, ← (pools-are p))

  -- the programs that `infer` keeps, when it is lent section 0 and the first n offsets
  pub infer-programs : (k0 : List ℕ) → k0 ≡ section_of p 0 → (t : List Id) {o : List Id} → length t ≡ 1024
      → o ≡ sets t 0 (programs_of (take 8448 k0) p (take 1024 (take (n - 0) (drop 0 at))))
      → Programs (section_of p 0) (item_at p at) n o
  infer-programs k0 h0 t {o} w h i l =
      let c : length (take n at) ≡ n = length-take-le n at (omega (arith, few, at_length)) in
      let same : o ≡ sets t 0 (programs_of (section_of p 0) p (take n at)) =
      h ∙ rw (h0, keys-all, sub-zero n, take_all 1024 (take n at) (omega (arith, few, c))) in
      let m : length (programs_of (section_of p 0) p (take n at)) ≡ n = programs-length (section_of p 0) p (take n at) ∙ c in
      let kept : get_or o i SplToken ≡ get_or (programs_of (section_of p 0) p (take n at)) i SplToken =
      ap (λ (x : List Id). get_or x i SplToken) same
      ∙ laid-at t (programs_of (section_of p 0) p (take n at)) i SplToken (omega (arith, m, few)) (omega (arith, m)) in
      kept
      ∙ kept-program (section_of p 0) p (take n at) i SplToken (omega (arith, c))
      ∙ ap (λ (x : ℕ). program_of (section_of p 0) (instruction_at p x)) (get_or-take n at i 0 l)

  -- what `infer` answers and leaves, when it is lent sections 0 and 1 and the first n offsets
  module _ (k0 k1 : List ℕ) (h0 : k0 ≡ section_of p 0) (h1 : k1 ≡ section_of p 1) {x : MintAnswer} (q : mints_in p ≡ some x) where
    same-is : inferred_in (take 8448 k0) k1 p (take 1024 (take (n - 0) (drop 0 at))) ≡ some x
    same-is = rw (h0, h1, sub-zero n) (inferred-is ∙ q)

    pub infer-answer : {r : Result Made TooManyPasses} → r ≡ answer_of (inferred_in (take 8448 k0) k1 p (take 1024 (take (n - 0) (drop 0 at)))) → r ≡ answer_of (some x)
    infer-answer h = h ∙ ap answer_of same-is

    pub infer-rows : (t : List ℕ) {o : List ℕ} → o ≡ sets t 0 (mint_bytes (inferred_in (take 8448 k0) k1 p (take 1024 (take (n - 0) (drop 0 at))))) → o ≡ sets t 0 (table_bytes x.rows)
    unfolding mint_bytes
    infer-rows t h = h ∙ ap (λ (y : Option MintAnswer). sets t 0 (mint_bytes y)) same-is

    pub infer-known : (t : List ℕ) {o : List ℕ} → o ≡ sets t 0 (final_of (inferred_in (take 8448 k0) k1 p (take 1024 (take (n - 0) (drop 0 at)))) (key_of (take 8448 k0)) (key_count (take 8448 k0)))
        → o ≡ sets t 0 (mints_of x.rows (key_of (section_of p 0)) (key_count (section_of p 0)))
    unfolding final_of
    infer-known t h =
        h
        ∙ ap (λ (y : Option MintAnswer). sets t 0 (final_of y (key_of (take 8448 k0)) (key_count (take 8448 k0)))) same-is
        ∙ ap (λ (k : List ℕ). sets t 0 (mints_of x.rows (key_of k) (key_count k))) (ap (take 8448) h0 ∙ keys-all)

    pub known-length : {o : List ℕ} → o ≡ sets (zeros 8192) 0 (final_of (inferred_in (take 8448 k0) k1 p (take 1024 (take (n - 0) (drop 0 at)))) (key_of (take 8448 k0)) (key_count (take 8448 k0))) → length o ≡ 8192
    known-length h = ap length h ∙ length-sets (zeros 8192) 0 (final_of (inferred_in (take 8448 k0) k1 p (take 1024 (take (n - 0) (drop 0 at)))) (key_of (take 8448 k0)) (key_count (take 8448 k0))) ∙ length-replicate {A = ℕ} 8192 0

-- what is known once `flatten` and `infer` have run on such a pack
pub record Begun (p : List ℕ) (n : ℕ) (at : List ℕ) (places : List Place) (t o known : List ℕ) (programs : List Id) (r : Result Made TooManyPasses) : Type 0 where
  -- its mint table, with few rows and passes
  pub table : MintAnswer
  pub mints : mints_in p ≡ some table
  pub few_rows : length table.rows ≤ 256
  pub few_passes : table.passes ≤ 256
  -- which `infer` answers and writes
  pub answer : r ≡ answer_of (some table)
  pub rows : o ≡ sets t 0 (table_bytes table.rows)
  -- the arrays that the other tables are made from
  pub few : n ≤ 1024
  pub long : length known ≡ 8192
  pub holds : Holds known (section_of p 0) table.rows
  pub kept : Programs (section_of p 0) (item_at p at) n programs
  -- and what those are to be
  pub tables : (names : List ℕ) → tables_in names p ≡ some (tables_with names (section_of p 0) (pools_in (section_of p 4)) (positions places n) (tab (item_at p at) 0 n) table)

pub begun : (p : List ℕ) (n : ℕ) (at : List ℕ) (places : List Place) → refusal_number (verdict p) ≡ 0 → Flattened p n at places
    → (k0 k1 : List ℕ) → k0 ≡ section_of p 0 → k1 ≡ section_of p 1
    → (t : List ℕ) {o known : List ℕ} {programs : List Id} {r : Result Made TooManyPasses}
    → r ≡ answer_of (inferred_in (take 8448 k0) k1 p (take 1024 (take (n - 0) (drop 0 at))))
    → o ≡ sets t 0 (mint_bytes (inferred_in (take 8448 k0) k1 p (take 1024 (take (n - 0) (drop 0 at)))))
    → known ≡ sets (zeros 8192) 0 (final_of (inferred_in (take 8448 k0) k1 p (take 1024 (take (n - 0) (drop 0 at)))) (key_of (take 8448 k0)) (key_count (take 8448 k0)))
    → programs ≡ sets (replicate 1024 Unresolved) 0 (programs_of (take 8448 k0) p (take 1024 (take (n - 0) (drop 0 at))))
    → Begun p n at places t o known programs r
begun p n at places e w k0 k1 h0 h1 t {known = known} a b c d =
    let x = answered p e in
    record {
      table = x.0;
      mints = x.1;
      few_rows = omega (arith, x.2, rows-room (made p x.1));
      few_passes = x.3;
      answer = infer-answer p n at places e w k0 k1 h0 h1 x.1 a;
      rows = infer-rows p n at places e w k0 k1 h0 h1 x.1 t b;
      few = few p n at places e w;
      long = known-length p n at places e w k0 k1 h0 h1 x.1 c;
      holds = holds (sound p x.1) (section_of p 0) known (few_keys p e) (infer-known p n at places e w k0 k1 h0 h1 x.1 (zeros 8192) c);
      kept = infer-programs p n at places e w k0 h0 (replicate 1024 Unresolved) (length-replicate {A = Id} 1024 Unresolved) d;
      tables = λ names. tables-are p n at places e w names x.1;
    }
