-- The arrays on the way to the invocations of a pack that no refusal meets: what each holds, and that it has room.
-- s and g are the pack's sections 2 and 3, o is the number of its outer instructions.
-- Assumes nothing.
use mathlib.Core.Path.{◌≡◌, refl, ap}
use mathlib.Core.Bool.{true}
use mathlib.Core.List.{List, [], map}
use Prim.Native.Nat.{ℕ, suc, ◌+◌, ◌≤◌, ◌<◌}
use native.Mathlib.Omega.{arith}
use borrow.Author.Tests.{eq-eqb, ne_eqb}
use lib.ListN.{length, get_or, take, length-map}
use lib.Seq.{sets}
use Rattle.std.specs.Prelude.{Err}
use Rattle.wire.specs.Le.{le}
use Rattle.pack.specs.declared.Refusal.{Refusal}
use Rattle.pack.specs.declared.Refusal.TheVariants.{Mark, Starts, Section, Keys, Balances, Invocations}
use Rattle.pack.specs.declared.chain.Chains.{Chains}
use Rattle.pack.specs.Invocation.{instruction_at}
use Rattle.pack.specs.Sections.{start_of, section_of}
use Rattle.pack.specs.Items.{outers_at, outers_whole, group_good, group_at, groups_at, groups_whole}
use Rattle.pack.specs.View.{outer_in, groups_in}
use Rattle.pack.specs.Flatten.{kept_in}
use Rattle.pack.specs.Verdict.{refusal_number, verdict}
use Rattle.pack.specs.Layout.{layout, spread_of, placed_at}
use Rattle.pack.specs.Loops.{kept_at, Linked, Chained, AllChained}
use Rattle.pack.proofs.Counting.{all-length}
use Rattle.pack.proofs.Sizes.{invocations-length}
use Rattle.pack.proofs.Places.{group-inside}
use Rattle.pack.proofs.Good.{passed, size_of, end-le, section-ends}
use Rattle.pack.proofs.Kept.{Each, each_at, groups-each, kept-each, kept-few, kept-all, kept-given, laid}
use Rattle.pack.proofs.Stores.{laid-at}

module _ (p s g : List ℕ) (o : ℕ) (e : refusal_number (verdict p) ≡ 0) (is-s : s ≡ section_of p 2) (is-g : g ≡ section_of p 3) (is-o : o ≡ length (outers_at s)) where
  -- outer instructions, and the instructions of the groups that are kept
  total : o + kept_in o (map (group_at (instruction_at g) g) (groups_at g)) ≤ 1024
  unfolding outer_in groups_in
  total =
      let n = length-map (outers_at (section_of p 2)) (instruction_at (section_of p 2)) in
      let t = invocations-length p in
      rw (is-o, is-s, is-g, ← n) (rw t at (passed p e).few)

  pub ends : (start_of p 2 + length s ≤ 61440) × (start_of p 3 + length g ≤ 61440)
  ends =
      let w = passed p e in
      let z = size_of p w.size in
      let m = ap length is-s in
      let n = ap length is-g in
      let a = section-ends p w.size w.starts 2 (omega arith) in
      let b = section-ends p w.size w.starts 3 (omega arith) in
      let c = end-le p w.size w.starts 2 (omega arith) in
      let d = end-le p w.size w.starts 3 (omega arith) in
      (omega arith, omega arith)

  pub groups-room : (groups_whole g ≡ true) × (length (kept_at g o) ≤ 1024) × (length g ≤ 61440)
  groups-room =
      (rw is-g (passed p e).groups, omega (arith, total, kept-few (instruction_at g) g o (groups_at g)), omega (arith, ends.1))

  kept_good : Each (λ (x : ℕ). (group_good g x ≡ true) × (le 4 g x < o)) (kept_at g o)
  kept_good = kept-each g o (groups_at g) (groups-each g (suc (length g)) 0 groups-room.0)

  -- an array that the places of the remembered groups were written into
  module _ (z place : List ℕ) (n : ℕ) (long : length z ≡ 1024) (is-n : n ≡ length (kept_at g o)) (is-place : place ≡ sets z 0 (kept_at g o)) where
    pub kept-laid : take n place ≡ kept_at g o
    kept-laid = rw (is-n, is-place) (laid z (kept_at g o) (omega (arith, groups-room.1)))

    kept-at : (k : ℕ) → k < n → get_or place k 0 ≡ get_or (kept_at g o) k 0
    kept-at k h = rw is-place (laid-at z (kept_at g o) k 0 (omega (arith, groups-room.1)) (omega arith))

    kept-is : (k : ℕ) → k < n → (group_good g (get_or (kept_at g o) k 0) ≡ true) × (le 4 g (get_or (kept_at g o) k 0) < o)
    kept-is k h = each_at (λ (x : ℕ). (group_good g x ≡ true) × (le 4 g x < o)) (kept_at g o) kept_good k (omega arith)

    -- each stands in its section, and names an outer instruction
    pub kept-room : (k : ℕ) → k < n → (get_or place k 0 ≤ 61440) × (le 4 g (get_or place k 0) < 1024)
    kept-room k h =
        let i = group-inside g (get_or (kept_at g o) k 0) (kept-is k h).0 in
        rw (kept-at k h) (omega (arith, i.0, groups-room.2), omega (arith, (kept-is k h).1, total))

    -- chains over them lead to all groups of an outer instruction
    pub chained : (chains : Chains) → chains.place ≡ place → Linked g (take n place) chains.next chains.first → (i : ℕ) → i < length (outers_at s) → Chained g chains i
    chained chains same linked i h =
        let t = ap length kept-laid in
        record {
          listed = omega (arith, total);
          gs = kept_at g o;
          few = groups-room.1;
          places = λ k l. rw same (kept-at k (omega arith));
          links = λ k l. rw kept-laid at (linked.links k (omega arith));
          head = rw kept-laid at (linked.heads i (omega (arith, total)));
          good = λ k l. (group-inside g (get_or (kept_at g o) k 0) (kept-is k (omega arith)).0).1;
          complete = λ base. kept-all (λ (at : ℕ). base + at) g o i (omega arith) (groups_at g);
        }

  -- all invocations have room
  pub spread-room : length (spread_of (start_of p 2) (start_of p 3) g (outers_at s)) ≤ 1024
  spread-room =
      let from : ℕ → ℕ = λ (at : ℕ). start_of p 2 + at in
      let m = length-map (outers_at s) from in
      let a = all-length (map from (outers_at s)) (map (placed_at (start_of p 3) g) (groups_at g)) in
      let k = kept-given (λ (at : ℕ). start_of p 3 + at) (instruction_at g) g o (groups_at g) in
      rw (a, m, ← is-o, k) total

  -- and are laid out so
  pub laid_out : layout p ≡ spread_of (start_of p 2) (start_of p 3) g (outers_at s)
  unfolding layout
  laid_out = rw (eq-eqb (refusal_number (verdict p)) 0 e, is-s, is-g)

-- what the walk over the outer instructions needs to know, of sections and starts that were read from the pack
pub record Ready (p outs s : List ℕ) (from base : ℕ) (chains : Chains) : Type 0 where
  pub whole : outers_whole outs ≡ true
  pub ends : (from + length outs ≤ 61440) × (base + length s ≤ 61440)
  pub few : length (spread_of from base s (outers_at outs)) ≤ 1024
  pub laid : layout p ≡ spread_of from base s (outers_at outs)
  pub linked : (i : ℕ) → i < length (outers_at outs) → Chained s chains i

pub ready : (p outs s : List ℕ) (from base : ℕ) (chains : Chains) → refusal_number (verdict p) ≡ 0 → AllChained p chains
    → outs ≡ section_of p 2 → s ≡ section_of p 3 → from ≡ start_of p 2 → base ≡ start_of p 3 → Ready p outs s from base chains
ready p outs s from base chains e ch a b c d =
    let o = length (outers_at (section_of p 2)) in
    rw (a, b, c, d)
    (record {
      whole = (passed p e).outers;
      ends = ends p (section_of p 2) (section_of p 3) o e refl refl refl;
      few = spread-room p (section_of p 2) (section_of p 3) o e refl refl refl;
      laid = laid_out p (section_of p 2) (section_of p 3) o e refl refl refl;
      linked = ch;
    })

-- every refusal has a number
refused : (r : Refusal) → refusal_number (Err r) ≡ 0 → ⊥
refused Mark e = omega arith
refused Starts e = omega arith
refused (Section k) e = omega arith
refused Keys e = omega arith
refused Balances e = omega arith
refused Invocations e = omega arith

-- so a pack that is refused has no invocations laid out
pub laid_none : (p : List ℕ) (r : Refusal) → Err r ≡ verdict p → layout p ≡ []
unfolding layout
laid_none p r e = rw (← e, ne_eqb (refusal_number (Err r)) 0 (refused r))
