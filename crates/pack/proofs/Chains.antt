-- Groups chained by outer index, the last first: what a place holds after one more group. Each leads to the next that names its outer instruction, so a walk
-- along the chain meets the groups of that one in their order, and no others.
-- Assumes nothing.
use mathlib.Core.Path.{◌≡◌, refl, sym, ap, ◌∙◌}
use mathlib.Core.Bool.{Bool, true, false, cond}
use mathlib.Core.List.{List, [], ◌∷◌, ◌++◌, map, map-append}
use mathlib.Core.Logic.{⊎_elim}
use Prim.Native.Nat.{ℕ, suc, ◌+◌, ◌-◌, ◌≤◌, ◌<◌}
use native.Mathlib.Nat.{eq-or-lt_of_le}
use native.Mathlib.Numerals.{add-one}
use native.Mathlib.Omega.{arith}
use borrow.Author.Tests.{ne_eqb, eqb-true, eqb-false}
use lib.Dec.{eqb}
use lib.ListN.{length, get_or, drop, set, length-map, length-drop}
use lib.Seq.{sets, drop-cons, drop-drop, get_or-drop, get_or-set_same, get_or-set_other}
use Rattle.wire.specs.Le.{le}
use Rattle.pack.proofs.Stores.{sets-next}
use Rattle.pack.specs.Invocation.{Position}
use Rattle.pack.specs.Items.{inners_from, count_at, group_at}
use Rattle.pack.specs.Flatten.{inside}
use Rattle.pack.proofs.Walk.{inners-length}
use Rattle.pack.proofs.Counting.{numbered-length}
use Rattle.pack.specs.Layout.{inside_at, members_at}
use Rattle.pack.specs.Loops.{first_group_from, next_of}

-- the first group of outer i from place k on is group k, or the first from place m = k + 1 on
module _ (s gs : List ℕ) (k m : ℕ) (after : m ≡ k + 1) where
  pub first_step : (i : ℕ) → k < length gs → cond (eqb (le 4 s (get_or gs k 0)) i) (k + 1) (first_group_from s i m (drop m gs)) ≡ first_group_from s i k (drop k gs)
  unfolding first_group_from
  first_step i h = rw (drop-cons gs k 0 h, after, add-one k)

  pub next-step : first_group_from s (le 4 s (get_or gs k 0)) m (drop m gs) ≡ next_of s gs k
  next-step = rw after

-- where the first group can stand
module _ (s : List ℕ) (i : ℕ) where
  pub first-later : (gs : List ℕ) (k : ℕ) → (first_group_from s i k gs ≡ 0 → ⊥) → k < first_group_from s i k gs
  unfolding first_group_from
  first-later [] k n = absurd (n refl)
  first-later (g ∷ gs) k n = go (eqb (le 4 s g) i) n (first-later gs (suc k))
    where
      go : (t : Bool) → (cond t (suc k) (first_group_from s i (suc k) gs) ≡ 0 → ⊥) → ((first_group_from s i (suc k) gs ≡ 0 → ⊥) → suc k < first_group_from s i (suc k) gs) → k < cond t (suc k) (first_group_from s i (suc k) gs)
      go true q r = omega arith
      go false q r = let x = r q in omega arith

-- a store one place further down
pub lower : (l : List ℕ) (f : ℕ → ℕ) (n k v : ℕ) → k < length l → v ≡ f k → ((t : ℕ) → k + 1 ≤ t → t < n → get_or l t 0 ≡ f t)
    → (t : ℕ) → k ≤ t → t < n → get_or (set l k v) t 0 ≡ f t
lower l f n k v h e inv t a b =
    ⊎_elim
    (λ (q : k ≡ t). rw (← q) (get_or-set_same l k v 0 h ∙ e))
    (λ (q : k < t). get_or-set_other l k t v 0 (omega arith) ∙ inv t (omega arith) b)
    (eq-or-lt_of_le a)

-- a store at one outer index
pub headed : (l : List ℕ) (a v : ℕ) → a < length l → (i : ℕ) → get_or (set l a v) i 0 ≡ cond (eqb a i) v (get_or l i 0)
headed l a v h i = go (eqb a i) refl
  where
    go : (t : Bool) → eqb a i ≡ t → get_or (set l a v) i 0 ≡ cond t v (get_or l i 0)
    go true e = let q = eqb-true a i e in rw (← q) (get_or-set_same l a v 0 h)
    go false e = get_or-set_other l a i v 0 (λ q. eqb-false a i e (sym q))

-- the groups of outer i that are given by their places in the pack
module _ (s : List ℕ) (base i : ℕ) where
  -- no group of outer i is left
  pub none-own : (gs : List ℕ) (k : ℕ) → first_group_from s i k gs ≡ 0 → inside_at s base i gs ≡ []
  unfolding first_group_from inside group_at
  none-own [] k e = refl
  none-own (g ∷ gs) k e = go (eqb (le 4 s g) i) e (none-own gs (suc k))
    where
      go : (t : Bool) → cond t (suc k) (first_group_from s i (suc k) gs) ≡ 0 → (first_group_from s i (suc k) gs ≡ 0 → inside_at s base i gs ≡ []) → cond t (members_at s base i g ++ inside_at s base i gs) (inside_at s base i gs) ≡ []
      go true q r = absurd (omega arith)
      go false q r = r q

  -- the next one stands d places further
  next-own : (gs : List ℕ) (k m : ℕ) → first_group_from s i k gs ≡ suc m
      → (d : ℕ) × (m ≡ k + d) × (d < length gs) × (le 4 s (get_or gs d 0) ≡ i) × (inside_at s base i gs ≡ members_at s base i (get_or gs d 0) ++ inside_at s base i (drop (suc d) gs))
  unfolding first_group_from inside group_at
  next-own [] k m e = absurd (omega arith)
  next-own (g ∷ gs) k m e = go (eqb (le 4 s g) i) refl e (next-own gs (suc k) m)
    where
      go : (t : Bool) → eqb (le 4 s g) i ≡ t → cond t (suc k) (first_group_from s i (suc k) gs) ≡ suc m
          → (first_group_from s i (suc k) gs ≡ suc m → (d : ℕ) × (m ≡ suc k + d) × (d < length gs) × (le 4 s (get_or gs d 0) ≡ i) × (inside_at s base i gs ≡ members_at s base i (get_or gs d 0) ++ inside_at s base i (drop (suc d) gs)))
          → (d : ℕ) × (m ≡ k + d) × (d < suc (length gs)) × (le 4 s (get_or (g ∷ gs) d 0) ≡ i) × (cond t (members_at s base i g ++ inside_at s base i gs) (inside_at s base i gs) ≡ members_at s base i (get_or (g ∷ gs) d 0) ++ inside_at s base i (drop (suc d) (g ∷ gs)))
      go true q x r = (0, omega arith, omega arith, eqb-true (le 4 s g) i q, refl)
      go false q x r = let y = r x in (suc y.0, omega (arith, y.1), omega (arith, y.2), y.3, y.4)

-- the groups of outer i from place t on begin with group m
pub record Found (s : List ℕ) (base i : ℕ) (gs : List ℕ) (t m : ℕ) : Type 0 where
  pub in_list : m < length gs
  pub names : le 4 s (get_or gs m 0) ≡ i
  pub splits : inside_at s base i (drop t gs) ≡ members_at s base i (get_or gs m 0) ++ inside_at s base i (drop (m + 1) gs)

pub found_at : (s : List ℕ) (base i : ℕ) (gs : List ℕ) (t m : ℕ) → first_group_from s i t (drop t gs) ≡ suc m → Found s base i gs t m
found_at s base i gs t m e =
    let y = next-own s base i (drop t gs) t m e in
    let p : get_or (drop t gs) y.0 0 ≡ get_or gs m 0 = get_or-drop t gs y.0 0 ∙ ap (λ (k : ℕ). get_or gs k 0) (sym y.1) in
    let z : t + suc y.0 ≡ m + 1 = omega (arith, y.1) in
    let q : drop (suc y.0) (drop t gs) ≡ drop (m + 1) gs = drop-drop (suc y.0) t gs ∙ ap (λ (k : ℕ). drop k gs) z in
    record { in_list = omega (arith, y.1, y.2, length-drop t gs); names = rw (← p) y.3; splits = y.4 ∙ rw (p, q) }

-- how far the walk along a chain has to go
abbrev pub ahead : ℕ → ℕ
ahead c = cond (eqb c 0) 0 (1025 - c)

pub nearer : (c d : ℕ) → 0 < c → c ≤ 1024 → ((d ≡ 0 → ⊥) → c < d) → ahead d < ahead c
nearer c d h k f = rw (ne_eqb c 0 (omega arith)) (go (eqb d 0) refl)
  where
    go : (t : Bool) → eqb d 0 ≡ t → cond t 0 (1025 - d) < 1025 - c
    go true e = omega arith
    go false e = let g = f (eqb-false d 0 e) in omega arith

-- a run of invocations is written, and then another
pub wrote-more : {A : Type 0} (f : Position × ℕ → A) (l₀ l : List A) (k r : ℕ) (xs ys : List (Position × ℕ)) → l ≡ sets l₀ k (map f xs) → r ≡ k + length xs
    → sets l r (map f ys) ≡ sets l₀ k (map f (xs ++ ys))
wrote-more f l₀ l k r xs ys e n =
    rw (e, map-append f xs ys) (sets-next l₀ k (map f xs) (map f ys) r (rw (length-map xs f) (sym n)))

-- a group adds as many invocations as it counts
pub members-length : (s : List ℕ) (base i g : ℕ) → length (members_at s base i g) ≡ count_at s g
members-length s base i g =
    numbered-length i 0 (inners_from (λ (x : ℕ). base + x) s (count_at s g) (g + 6)) ∙ inners-length (λ (x : ℕ). base + x) s (count_at s g) (g + 6)
