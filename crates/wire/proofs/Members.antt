-- Lists with the same members: the other way round, joined, and in another order, since membership asks for no place.
-- Assumes nothing.
use mathlib.Core.Path.{◌∙◌}
use mathlib.Core.Logic.{◌⊎◌, inl, inr}
use mathlib.Core.List.Memᴰ
use mathlib.Core.List.{List, ◌++◌, Memᴰ, Permᴰ}
use Rattle.wire.specs.Members.{SameMembers}

pub same-sym : {A : Type 0} {l l' : List A} → SameMembers l l' → SameMembers l' l
same-sym s = record { to = λ i. s.from i; from = λ i. s.to i }

-- one list after the other
pub append-same : {A : Type 0} {a a' b b' : List A} → SameMembers a a' → SameMembers b b' → SameMembers (a ++ b) (a' ++ b')
append-same {A} {a} {a'} {b} {b'} s t = record { to = λ i. to (Memᴰ.append_cases a i); from = λ i. from (Memᴰ.append_cases a' i) }
  where
    to : {x : A} → Memᴰ x a ⊎ Memᴰ x b → Memᴰ x (a' ++ b')
    to (inl i) = Memᴰ.append_left b' (s.to i)
    to (inr i) = Memᴰ.append_right a' (t.to i)

    from : {x : A} → Memᴰ x a' ⊎ Memᴰ x b' → Memᴰ x (a ++ b)
    from (inl i) = Memᴰ.append_left b (s.from i)
    from (inr i) = Memᴰ.append_right a (t.from i)

-- a member of a list is one of the list in another order
pub perm-mem : {A : Type 0} {x : A} {l l' : List A} → Permᴰ l l' → Memᴰ x l → Memᴰ x l'
perm-mem Permᴰ.nil i = i
perm-mem (Permᴰ.cons q p) (Memᴰ.head e) = Memᴰ.head (e ∙ q)
perm-mem (Permᴰ.cons q p) (Memᴰ.tail i) = Memᴰ.tail (perm-mem p i)
perm-mem (Permᴰ.swap q p) (Memᴰ.head e) = Memᴰ.tail (Memᴰ.head (e ∙ q))
perm-mem (Permᴰ.swap q p) (Memᴰ.tail (Memᴰ.head e)) = Memᴰ.head (e ∙ p)
perm-mem (Permᴰ.swap q p) (Memᴰ.tail (Memᴰ.tail i)) = Memᴰ.tail (Memᴰ.tail i)
perm-mem (Permᴰ.trans p r) i = perm-mem r (perm-mem p i)
