-- A list that ascends by a key is told by its members, whoever sorted it: the least member has to stand first in both.
-- Assumes nothing.
use mathlib.Core.Path.{◌≡◌, refl, sym, ◌∙◌, ap, ap₂, subst}
use mathlib.Core.Logic.{◌⊎◌, inl, inr, ⊎_map}
use mathlib.Core.List.Memᴰ
use mathlib.Core.List.{List, [], ◌∷◌, ◌++◌, map, Memᴰ}
use Prim.Native.Nat.{ℕ, zero, suc, ◌≤◌, ◌<◌}
use native.Mathlib.Nat.{not-suc-le-zero, le_of_suc-le-suc}
use native.Mathlib.Omega.{arith}
use lib.ListN.{length, get_or, take, drop}
use Rattle.wire.specs.Order.{Below}
use Rattle.wire.proofs.Order.{below_irrefl, below-differ, below-trans}
use Rattle.wire.specs.Members.{SameMembers}
use Rattle.wire.specs.Ascending.{Ascending, asc_cons, asc_nil}

-- two members with one key are one
pub ascending-once : {A : Type 0} {key : A → List ℕ} {t : List A} {x y : A} → Ascending key t → Memᴰ x t → Memᴰ y t → key x ≡ key y → x ≡ y
ascending-once {A = A} {key = key} {x = x} {y = y} asc_nil h _ k = elim h [ ]
ascending-once (asc_cons f s) (Memᴰ.head d) (Memᴰ.head e) k = d ∙ sym e
ascending-once {A} {key} {x} {y} (asc_cons {r} f s) (Memᴰ.head d) (Memᴰ.tail j) k =
    absurd (below-differ (f y j) (sym (ap key d) ∙ k))
ascending-once {A} {key} {x} {y} (asc_cons {r} f s) (Memᴰ.tail i) (Memᴰ.head e) k =
    absurd (below-differ (f x i) (sym (ap key e) ∙ sym k))
ascending-once (asc_cons f s) (Memᴰ.tail i) (Memᴰ.tail j) k = ascending-once s i j k

-- two ascending lists with the same members are equal
pub ascending-unique : {A : Type 0} {key : A → List ℕ} {t u : List A} → Ascending key t → Ascending key u → SameMembers t u → t ≡ u
ascending-unique asc_nil asc_nil s = refl
ascending-unique asc_nil (asc_cons g su) s = absurd (Memᴰ.not-nil (s.from (Memᴰ.head refl)))
ascending-unique (asc_cons f st) asc_nil s = absurd (Memᴰ.not-nil (s.to (Memᴰ.head refl)))
ascending-unique {A} {key} (asc_cons {r} {t} f st) (asc_cons {r = x} {t = u} g su) s = ap₂ ◌∷◌ first (ascending-unique st su rest)
  where
    first : r ≡ x
    first = go (Memᴰ.cases_cons (s.to (Memᴰ.head refl))) (Memᴰ.cases_cons (s.from (Memᴰ.head refl)))
      where
        go : (r ≡ x) ⊎ Memᴰ r u → (x ≡ r) ⊎ Memᴰ x t → r ≡ x
        go (inl q) k = q
        go (inr i) (inl q) = sym q
        go (inr i) (inr k) = absurd (below_irrefl (below-trans (f x k) (g r i)))

    rest : SameMembers t u
    rest = record { to = λ i. to i (Memᴰ.cases_cons (s.to (Memᴰ.tail i))); from = λ i. from i (Memᴰ.cases_cons (s.from (Memᴰ.tail i))) }
      where
        to : {y : A} → Memᴰ y t → (y ≡ x) ⊎ Memᴰ y u → Memᴰ y u
        to {y} i (inl q) = absurd (below_irrefl (subst (λ (z : A). Below (key r) (key z)) (q ∙ sym first) (f y i)))
        to i (inr k) = k

        from : {y : A} → Memᴰ y u → (y ≡ r) ⊎ Memᴰ y t → Memᴰ y t
        from {y} i (inl q) = absurd (below_irrefl (subst (λ (z : A). Below (key x) (key z)) (q ∙ first) (g y i)))
        from i (inr k) = k

-- what a function makes of an ascending list ascends by a key that stays
pub ascending-map : {A B : Type 0} (g : A → B) (key : B → List ℕ) {t : List A} → Ascending (λ x. key (g x)) t → Ascending key (map g t)
ascending-map g key asc_nil = asc_nil
ascending-map {A} {B} g key (asc_cons {r} {t} f s) = asc_cons below (ascending-map g key s)
  where
    below : (y : B) → Memᴰ y (map g t) → Below (key (g r)) (key y)
    below y i = let x = Memᴰ.of_map g t i in subst (λ (z : B). Below (key (g r)) (key z)) x.2 (f x.0 x.1)

-- the members of a list with one element put in
pub put-mem : {A : Type 0} {x : A} (r : A) (j : ℕ) (t : List A) → Memᴰ x (take j t ++ (r ∷ drop j t)) → (x ≡ r) ⊎ Memᴰ x t
put-mem r zero t i = Memᴰ.cases_cons i
put-mem r (suc j) [] i = Memᴰ.cases_cons i
put-mem r (suc j) (y ∷ t) (Memᴰ.head e) = inr (Memᴰ.head e)
put-mem r (suc j) (y ∷ t) (Memᴰ.tail i) = ⊎_map (λ q. q) (λ k. Memᴰ.tail k) (put-mem r j t i)

pub mem-put : {A : Type 0} {x : A} (r : A) (j : ℕ) (t : List A) → (x ≡ r) ⊎ Memᴰ x t → Memᴰ x (take j t ++ (r ∷ drop j t))
mem-put r zero t (inl q) = Memᴰ.head q
mem-put r zero t (inr i) = Memᴰ.tail i
mem-put r (suc j) [] (inl q) = Memᴰ.head q
mem-put r (suc j) [] (inr i) = Memᴰ.tail i
mem-put r (suc j) (y ∷ t) (inl q) = Memᴰ.tail (mem-put r j t (inl q))
mem-put r (suc j) (y ∷ t) (inr (Memᴰ.head e)) = Memᴰ.head e
mem-put r (suc j) (y ∷ t) (inr (Memᴰ.tail i)) = Memᴰ.tail (mem-put r j t (inr i))

-- an element put in place j, above the j elements before and below the element there
pub ascending-put : {A : Type 0} {key : A → List ℕ} {t : List A} (r d : A) (j : ℕ) → Ascending key t → j ≤ length t
    → ((i : ℕ) → i < j → Below (key (get_or t i d)) (key r))
    → (j < length t → Below (key r) (key (get_or t j d)))
    → Ascending key (take j t ++ (r ∷ drop j t))
ascending-put r d zero asc_nil h f g = asc_cons (λ x i. absurd (Memᴰ.not-nil i)) asc_nil
ascending-put r d (suc j) asc_nil h f g = absurd (not-suc-le-zero h)
ascending-put {A} {key} r d zero (asc_cons {r = y} {t} b s) h f g = asc_cons (λ x i. go x (Memᴰ.cases_cons i)) (asc_cons b s)
  where
    go : (x : A) → (x ≡ y) ⊎ Memᴰ x t → Below (key r) (key x)
    go x (inl q) = rw q (g (omega arith))
    go x (inr i) = below-trans (g (omega arith)) (b x i)
ascending-put {A} {key} r d (suc j) (asc_cons {r = y} {t} b s) h f g =
    asc_cons (λ x i. go x (put-mem r j t i)) (ascending-put r d j s (le_of_suc-le-suc h) (λ i k. f (suc i) (omega arith)) (λ k. g (omega arith)))
  where
    go : (x : A) → (x ≡ r) ⊎ Memᴰ x t → Below (key y) (key x)
    go x (inl q) = rw q (f 0 (omega arith))
    go x (inr i) = b x i
