-- Lists that a table of numbers makes, and what an array holds after numbers were stored in it: both are known entry by entry.
-- Assumes nothing.
use mathlib.Core.Path.{◌≡◌, refl, sym, ap, ◌∙◌}
use mathlib.Core.List.{List, ◌∷◌, map}
use Prim.Native.Nat.{ℕ, zero, suc, ◌≤◌, ◌<◌}
use native.Mathlib.Nat.{zero-add}
use native.Mathlib.Omega.{arith}
use lib.ListN.{length, get_or, take}
use lib.Seq.{sets, ext_get_or}
use Rattle.wire.proofs.Sets.{sets-in}
use Rattle.wire.specs.Tab.{tab}
use Rattle.wire.proofs.Tab.{tab-length, tab-at}

pub map-tab : {A B : Type 0} (g : A → B) (f : ℕ → A) (i n : ℕ) → map g (tab f i n) ≡ tab (λ k. g (f k)) i n
unfolding tab
map-tab g f i zero = refl
map-tab g f i (suc n) = ap (λ l. g (f i) ∷ l) (map-tab g f (suc i) n)

-- a list is known by its entries
pub is-tab : {A : Type 0} (d : A) (l : List A) (f : ℕ → A) (n : ℕ) → length l ≡ n → ((i : ℕ) → i < n → get_or l i d ≡ f i) → l ≡ tab f 0 n
is-tab d l f n e h =
    ext_get_or d l (tab f 0 n) (e ∙ sym (tab-length f 0 n))
    (λ i lt. h i (omega arith) ∙ ap f (sym (zero-add i)) ∙ sym (tab-at f d 0 n i (omega arith)))

pub take-tab : {A : Type 0} (f : ℕ → A) (k i n : ℕ) → i ≤ n → take i (tab f k n) ≡ tab f k i
unfolding tab
take-tab f k zero n h = refl
take-tab f k (suc i) zero h = absurd (omega arith)
take-tab f k (suc i) (suc n) h = ap (λ l. f k ∷ l) (take-tab f (suc k) i n (omega arith))

-- an array that numbers were stored in from its first place on
pub array_at : (a₀ a : List ℕ) (f : ℕ → ℕ) (n i : ℕ) → a ≡ sets a₀ 0 (tab f 0 n) → n ≤ length a₀ → i < n → get_or a i 0 ≡ f i
array_at a₀ a f n i e h lt =
    rw e (
    ap (λ (k : ℕ). get_or (sets a₀ 0 (tab f 0 n)) k 0) (sym (zero-add i))
    ∙ sets-in a₀ 0 (tab f 0 n) i (omega (arith, tab-length f 0 n)) (omega (arith, tab-length f 0 n))
    ∙ tab-at f 0 0 n i lt
    ∙ ap f (zero-add i)
    )
