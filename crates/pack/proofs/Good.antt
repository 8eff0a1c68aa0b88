-- What is known of a pack that no refusal meets: every refusal has a number above 0, so each check was passed.
-- Assumes nothing.
use mathlib.Core.Path.{◌≡◌, refl}
use mathlib.Core.Bool.{Bool, true, false, cond, not, ◌&&◌}
use mathlib.Core.List.{List}
use Prim.Native.Nat.{ℕ, zero, suc, ◌+◌, ◌-◌, ◌≤◌, ◌<◌}
use native.Mathlib.Nat.{le_trans}
use native.Mathlib.Omega.{arith}
use borrow.Author.Tests.{leb-true, ltb-false, le-leb, lt-ltb}
use lib.Dec.{leb, ltb, eqb}
use lib.ListN.{length, take, drop, length-take, length-drop}
use Rattle.wire.specs.Same.{same}
use Rattle.wire.specs.Below.{all_below}
use Rattle.wire.proofs.Below.{below_at, and_left, and_right}
use Rattle.std.specs.Prelude.{Err}
use Rattle.pack.specs.declared.Refusal.TheVariants.{Mark, Starts, Section, Keys, Balances, Invocations}
use Rattle.pack.specs.Sections.{mark, marked, ordered, start_of, has_section, section_of}
use Rattle.pack.specs.Items.{keys_fill, rows_fill, outers_whole, groups_whole}
use Rattle.pack.specs.View.{balances_named, view_of}
use Rattle.pack.specs.Flatten.{flatten}
use Rattle.pack.specs.Verdict.{Verdict, refusal_number, verdict}

-- each check was passed
pub record Passed (p : List ℕ) : Type 0 where
  pub size : marked p ≡ true
  pub starts : ordered p ≡ true
  pub keys : keys_fill (section_of p 0) ≡ true
  pub balances : rows_fill 36 (section_of p 1) ≡ true
  pub outers : outers_whole (section_of p 2) ≡ true
  pub groups : groups_whole (section_of p 3) ≡ true
  pub pools : rows_fill 32 (section_of p 4) ≡ true
  pub few_keys : length (view_of p).keys ≤ 256
  pub named : balances_named (length (view_of p).keys) (view_of p).balances ≡ true
  pub few : length (flatten (view_of p)) ≤ 1024

-- a check whose refusal has a number was passed, and the next one decides
past : (b : Bool) (x y : Verdict) → 0 < refusal_number x → refusal_number (cond (not b) x y) ≡ 0 → (b ≡ true) × (refusal_number y ≡ 0)
past true x y h e = (refl, e)
past false x y h e = absurd (omega arith)

below : (b : Bool) (x y : Verdict) → 0 < refusal_number x → refusal_number (cond b x y) ≡ 0 → (b ≡ false) × (refusal_number y ≡ 0)
below true x y h e = absurd (omega arith)
below false x y h e = (refl, e)

pub passed : (p : List ℕ) → refusal_number (verdict p) ≡ 0 → Passed p
unfolding verdict
passed p e₀ =
    let e₁ = past (marked p) (Err Mark) _ (omega arith) e₀ in
    let e₂ = past (ordered p) (Err Starts) _ (omega arith) e₁.1 in
    let e₃ = past (keys_fill (section_of p 0)) (Err (Section 0)) _ (omega arith) e₂.1 in
    let e₄ = past (rows_fill 36 (section_of p 1)) (Err (Section 1)) _ (omega arith) e₃.1 in
    let e₅ = past (outers_whole (section_of p 2)) (Err (Section 2)) _ (omega arith) e₄.1 in
    let e₆ = past (groups_whole (section_of p 3)) (Err (Section 3)) _ (omega arith) e₅.1 in
    let e₇ = past (rows_fill 32 (section_of p 4)) (Err (Section 4)) _ (omega arith) e₆.1 in
    let e₈ = below (ltb 256 (length (view_of p).keys)) (Err Keys) _ (omega arith) e₇.1 in
    let e₉ = past (balances_named (length (view_of p).keys) (view_of p).balances) (Err Balances) _ (omega arith) e₈.1 in
    let e₁₀ = below (ltb 1024 (length (flatten (view_of p)))) (Err Invocations) _ (omega arith) e₉.1 in
    record {
      size = e₁.0;
      starts = e₂.0;
      keys = e₃.0;
      balances = e₄.0;
      outers = e₅.0;
      groups = e₆.0;
      pools = e₇.0;
      few_keys = ltb-false 256 (length (view_of p).keys) e₈.0;
      named = e₉.0;
      few = ltb-false 1024 (length (flatten (view_of p))) e₁₀.0;
    }

-- its size
pub size_of : (p : List ℕ) → marked p ≡ true → (24 ≤ length p) × (length p ≤ 61440)
unfolding marked
size_of p e =
    let r = and_right (leb 24 (length p)) (leb (length p) 61440 && same (drop (length p - 4) p) mark) e in
    (leb-true 24 (length p) (and_left (leb 24 (length p)) (leb (length p) 61440 && same (drop (length p - 4) p) mark) e), leb-true (length p) 61440 (and_left (leb (length p) 61440) (same (drop (length p - 4) p) mark) r))

-- the starts, each by the next
pub start-le : (p : List ℕ) → ordered p ≡ true → (k : ℕ) → k < 5 → start_of p k ≤ start_of p (k + 1)
unfolding ordered
start-le p e k h =
    leb-true _ _ (below_at (λ k. leb (start_of p k) (start_of p (k + 1))) 5 (and_right (eqb (start_of p 0) 0) (all_below (λ k. leb (start_of p k) (start_of p (k + 1))) 5) e) k h)

start-last : (p : List ℕ) → ordered p ≡ true → (j : ℕ) → j ≤ 5 → start_of p (5 - j) ≤ length p - 24
unfolding start_of
start-last p o zero h = omega arith
start-last p o (suc j) h =
    let e : 5 - suc j + 1 ≡ 5 - j = omega arith in
    le_trans (start-le p o (5 - suc j) (omega arith)) (rw e (start-last p o j (omega arith)))

-- a section is a part of the pack that ends where the next one starts
module _ (p : List ℕ) (m : marked p ≡ true) (o : ordered p ≡ true) (k : ℕ) (h : k < 5) where
  pub end-le : start_of p (k + 1) ≤ length p - 24
  end-le =
      let e : 5 - (4 - k) ≡ k + 1 = omega arith in
      rw e at (start-last p o (4 - k) (omega arith))

  pub section-is : section_of p k ≡ take (start_of p (k + 1) - start_of p k) (drop (start_of p k) p)
  unfolding section_of has_section
  section-is =
      rw (le-leb 24 (length p) (size_of p m).0, lt-ltb k 5 h, le-leb (start_of p k) (start_of p (k + 1)) (start-le p o k h), le-leb (start_of p (k + 1)) (length p - 24) end-le)

  pub section-ends : start_of p k + length (section_of p k) ≡ start_of p (k + 1)
  section-ends =
      let a = start-le p o k h in
      let b = end-le in
      rw section-is (simp (length-take, length-drop) (omega arith))
