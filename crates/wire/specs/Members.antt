-- Lists by their members, in whatever order and however often.
-- Assumes nothing.
use mathlib.Core.List.{List, Memᴰ}

-- two lists with the same members
pub record SameMembers {A : Type 0} (l l' : List A) : Type 0 where
  pub to : {x : A} → Memᴰ x l → Memᴰ x l'
  pub from : {x : A} → Memᴰ x l' → Memᴰ x l
