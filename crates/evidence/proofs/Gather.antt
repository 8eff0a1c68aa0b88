-- The same items in any order gather the same members, because each item gives its members whatever stands before it. Assumes nothing.
use mathlib.Core.Path.{refl}
use mathlib.Core.Logic.{◌⊎◌, inl, inr}
use mathlib.Core.List.Memᴰ
use mathlib.Core.List.Permᴰ
use mathlib.Core.List.{List, [], ◌∷◌, Memᴰ, Permᴰ}
use Rattle.wire.specs.Members.{SameMembers}
use Rattle.wire.proofs.Members.{perm-mem}
use Rattle.evidence.specs.Table.{Row}
use Rattle.evidence.specs.Gather.{gather}

module _ {A : Type 0} (f : A → List Row) where
  -- a pair that is gathered is a pair of an item
  pub gather-mem : {x : Row} (l : List A) → Memᴰ x (gather f l) → (y : A) × Memᴰ y l × Memᴰ x (f y)
  unfolding gather
  gather-mem [] i = absurd (Memᴰ.not-nil i)
  gather-mem {x} (y ∷ l) i = go (Memᴰ.append_cases (f y) i) (λ k. gather-mem l k)
    where
      go : Memᴰ x (f y) ⊎ Memᴰ x (gather f l) → (Memᴰ x (gather f l) → (z : A) × Memᴰ z l × Memᴰ x (f z)) → (z : A) × Memᴰ z (y ∷ l) × Memᴰ x (f z)
      go (inl k) below = (y, Memᴰ.head refl, k)
      go (inr k) below = let z = below k in (z.0, Memᴰ.tail z.1, z.2)

  pub mem-gather : {x : Row} {y : A} {l : List A} → Memᴰ y l → Memᴰ x (f y) → Memᴰ x (gather f l)
  unfolding gather
  mem-gather (Memᴰ.head {xs = l} e) i = Memᴰ.append_left (gather f l) (rw e at i)
  mem-gather (Memᴰ.tail {x = z} k) i = Memᴰ.append_right (f z) (mem-gather k i)

  -- items in another order give the same members
  pub gather-same : {l l' : List A} → Permᴰ l l' → SameMembers (gather f l) (gather f l')
  gather-same {l} {l'} p = record { to = λ i. go p (gather-mem l i); from = λ i. go (Permᴰ.symm p) (gather-mem l' i) }
    where
      go : {x : Row} {k k' : List A} → Permᴰ k k' → (y : A) × Memᴰ y k × Memᴰ x (f y) → Memᴰ x (gather f k')
      go q (y, i, j) = mem-gather (perm-mem q i) j
