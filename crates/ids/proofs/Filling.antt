-- The programs of the keys, one key at a time, as `programs::fill` fills them in: what is not filled in yet is not resolved, as is what lies past the keys.
-- Assumes nothing.
use mathlib.Core.Path.{◌≡◌, refl, sym, ◌∙◌}
use mathlib.Core.Logic.{by_cases}
use mathlib.Core.Bool.{Bool, true, false}
use mathlib.Core.List.{List}
use Prim.Native.Nat.{ℕ, ◌+◌, ◌≤◌, ◌<◌}
use native.Mathlib.Decide.{ℕ_discrete}
use native.Mathlib.Omega.{arith}
use borrow.Author.Tests.{ltb-true, ltb-false}
use lib.Dec.{ltb}
use lib.ListN.{length, get_or, set, replicate, get_or-replicate, length-set, length-replicate}
use lib.Seq.{get_or-set_same, get_or-set_other, ext_get_or}
use Rattle.ids.specs.Keys.{key_count}
use Rattle.ids.specs.Which.{program_at}
use Rattle.ids.specs.KeyPrograms.{key_programs}
use Rattle.ids.specs.declared.Id.{Id}
use Rattle.ids.specs.declared.Id.TheVariants.{Unresolved}
use Rattle.ids.proofs.KeyPrograms.{programs-length, programs-at, program-past}

-- the first i programs are those of the keys, the others are not resolved
pub record Filled (ks : List ℕ) (programs : List Id) (i : ℕ) : Type 0 where
  pub long : length programs ≡ 256
  pub first : (j : ℕ) → j < i → get_or programs j Unresolved ≡ program_at ks j
  pub others : (j : ℕ) → i ≤ j → j < 256 → get_or programs j Unresolved ≡ Unresolved

pub filled-none : (ks : List ℕ) → Filled ks (replicate 256 Unresolved) 0
filled-none ks = record { long = length-replicate {A = Id} 256 Unresolved; first = λ j h. absurd (omega arith); others = λ j l h. get_or-replicate {A = Id} 256 j Unresolved Unresolved h }

pub filled_more : (ks : List ℕ) (programs : List Id) (i : ℕ) (x : Id) → Filled ks programs i → i < 256 → x ≡ program_at ks i → Filled ks (set programs i x) (i + 1)
filled_more ks programs i x k h e =
    record {
      long = length-set programs i x ∙ k.long;
      first = λ j l. by_cases (ℕ_discrete j i) (λ q. rw (q, get_or-set_same programs i x Unresolved (omega (arith, k.long))) e) (λ q. rw (get_or-set_other programs i j x Unresolved q) (k.first j (omega arith)));
      others = λ j l m. get_or-set_other programs i j x Unresolved (λ q. omega arith) ∙ k.others j (omega arith) m;
    }

-- no key is left among the first 256
pub filled-all : (ks : List ℕ) (programs : List Id) (i : ℕ) → Filled ks programs i → ((j : ℕ) → i ≤ j → j < 256 → key_count ks ≤ j) → programs ≡ key_programs ks
filled-all ks programs i k h =
    ext_get_or Unresolved programs (key_programs ks) (k.long ∙ sym (programs-length ks))
    (λ j l. go j (omega (arith, k.long)) (ltb j i) refl ∙ sym (programs-at ks j (omega (arith, k.long))))
  where
    go : (j : ℕ) → j < 256 → (b : Bool) → ltb j i ≡ b → get_or programs j Unresolved ≡ program_at ks j
    go j l true e = k.first j (ltb-true j i e)
    go j l false e = k.others j (ltb-false j i e) l ∙ sym (program-past ks j (h j (ltb-false j i e) l))
