-- Which program a key is, by the one that its fifth byte allows: that one where the key is its id, and another where it is not. What `which` cites.
-- Assumes nothing.
use mathlib.Core.Path.{◌≡◌, refl, sym, ap, ◌∙◌}
use mathlib.Core.Logic.{◌≢◌, ◌⊎◌, inl, inr}
use mathlib.Core.Bool.{true, false}
use Prim.Native.Nat.{ℕ, ◌<◌}
use native.Mathlib.Omega.{arith}
use lib.ListN.{get_or}
use denote.Enum.Declared.{tag_of}
use Rattle.wire.specs.Same.{same}
use Rattle.wire.proofs.Same.{same_true}
use Rattle.ids.specs.Keys.{Key, zero_key}
use Rattle.ids.specs.Ids.{id_at}
use Rattle.ids.specs.contracts.Id.{the_type}
use Rattle.ids.specs.declared.Id.{Id}
use Rattle.ids.specs.declared.Id.TheVariants.{SplToken, Token2022, WrappedSol, ComputeBudget, AssociatedToken, Memo, PumpFun, LaunchLab, PumpSwap, Clmm, Cpmm, AmmV4, Orca, Dlmm, System, Other, Unresolved}
use Rattle.ids.specs.Which.{number_of, of_number, row_by_fifth, which}
use Rattle.ids.proofs.Rule.{candidate_of}
use Rattle.ids.proofs.Rows.{found, found-zero, missed, led-below}
use Rattle.ids.proofs.Meaning.{number_of-of}

-- a case is that of its number
pub of_number-of : (id : Id) → of_number (number_of id) ≡ id
unfolding of_number
of_number-of SplToken = refl
of_number-of Token2022 = refl
of_number-of WrappedSol = refl
of_number-of ComputeBudget = refl
of_number-of AssociatedToken = refl
of_number-of Memo = refl
of_number-of PumpFun = refl
of_number-of LaunchLab = refl
of_number-of PumpSwap = refl
of_number-of Clmm = refl
of_number-of Cpmm = refl
of_number-of AmmV4 = refl
of_number-of Orca = refl
of_number-of Dlmm = refl
of_number-of System = refl
of_number-of Other = refl
of_number-of Unresolved = refl

-- its number is the one that `as` gives it
pub tag-number : (id : Id) → tag_of the_type id ≡ number_of id
tag-number SplToken = refl
tag-number Token2022 = refl
tag-number WrappedSol = refl
tag-number ComputeBudget = refl
tag-number AssociatedToken = refl
tag-number Memo = refl
tag-number PumpFun = refl
tag-number LaunchLab = refl
tag-number PumpSwap = refl
tag-number Clmm = refl
tag-number Cpmm = refl
tag-number AmmV4 = refl
tag-number Orca = refl
tag-number Dlmm = refl
tag-number System = refl
tag-number Other = refl
tag-number Unresolved = refl

-- a zero key that may be System's
pub zero-chosen : (key : Key) → same key zero_key ≡ true → System ≡ which key
unfolding which of_number
zero-chosen key e = ap of_number (sym (found-zero key (same_true key zero_key e)))

module _ (key : Key) (id : Id) (b : ℕ) (fifth : b ≡ get_or key 4 0) (allowed : id ≡ of_number (row_by_fifth b 14 0)) where
  number : number_of id ≡ candidate_of key
  number = ap number_of allowed ∙ (number_of-of (row_by_fifth b 14 0) (let l = led-below b 14 0 (omega arith) in omega arith) ∙ ap (λ (f : ℕ). row_by_fifth f 14 0) fifth)

  small : number_of id < 16
  small = rw number (led-below (get_or key 4 0) 14 0 (omega arith))

  is-case : (k : ℕ) → number_of id ≡ k → id ≡ of_number k
  is-case k q = sym (of_number-of id) ∙ ap of_number q

  -- it has a row
  row : id ≢ System → id ≢ Other → number_of id < 14
  unfolding of_number
  row n m =
      let a : number_of id ≢ 14 = λ q. n (is-case 14 q) in
      let b : number_of id ≢ 15 = λ q. m (is-case 15 q) in
      let l = small in
      omega arith

  -- the key is its row's
  pub row-chosen : id ≢ System → id ≢ Other → same (id_at (tag_of the_type id)) key ≡ true → id ≡ which key
  unfolding which
  row-chosen n m e =
      let k = number_of id in
      sym (of_number-of id) ∙ ap of_number (sym (found key k (row n m) (same_true (id_at k) key (rw (tag-number id) at e))))

  -- the key is neither zero nor its row's
  pub none-chosen : (id ≡ System → same key zero_key ≡ false) → (id ≢ System → id ≢ Other → same (id_at (tag_of the_type id)) key ≡ false) → Other ≡ which key
  unfolding which of_number
  none-chosen f g =
      let k = number_of id in
      ap of_number (sym (missed key k number (λ l. rw (tag-number id) at g (λ q. absurd (let e = ap number_of q in omega arith)) (λ q. absurd (let e = ap number_of q in omega arith))) (λ q. f (is-case 14 q))))

  -- it has no row
  pub other-chosen : (id ≡ Other) ⊎ (id ≡ Unresolved) → Other ≡ which key
  unfolding which of_number
  other-chosen h = ap of_number (sym (missed key (number_of id) number (λ l. absurd (past h (omega arith))) (λ q. absurd (past h (omega arith)))))
    where
      past : (id ≡ Other) ⊎ (id ≡ Unresolved) → number_of id < 15 → ⊥
      past (inl q) l = let e = ap number_of q in omega arith
      past (inr q) l = let e = ap number_of q in omega arith
