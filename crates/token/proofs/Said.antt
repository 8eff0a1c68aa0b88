-- What `token_of`'s answer tells of an instruction: which one of the four tests holds, that the other three do not, and that the accounts it names are there.
-- Assumes nothing.
use mathlib.Core.Path.{◌≡◌, refl}
use mathlib.Core.Logic.{by_cases}
use mathlib.Core.Bool.{Bool, true, false, ◌&&◌, ◌||◌, and-false}
use mathlib.Core.List.{List}
use Prim.Native.Nat.{ℕ, ◌≤◌}
use native.Mathlib.Decide.{ℕ_discrete}
use lib.Dec.{leb, eqb}
use lib.ListN.{length, get_or}
use borrow.Author.Tests.{ne_eqb, leb-true}
use Rattle.std.specs.Prelude.{Option, Some, None}
use Rattle.wire.proofs.Below.{and_right}
use Rattle.ids.specs.declared.Id.{Id}
use Rattle.token.specs.Programs.{is_token, is_token2022}
use Rattle.token.specs.Tokens.{initialises, plain_transfer, checked_transfer, fee_transfer, plain_amount, checked_amount, fee_transfer_amount, fee_transfer_fee, token_of}
use Rattle.token.specs.declared.Token.{Token}
use Rattle.token.specs.declared.Token.TheVariants.{Initialise, Plain, Checked, WithFee}

pub record Tests (id : Id) (n : ℕ) (d : List ℕ) (i p c f : Bool) : Type 0 where
  pub init : initialises id n d ≡ i
  pub plain : plain_transfer id n d ≡ p
  pub checked : checked_transfer id n d ≡ c
  pub fee : fee_transfer id n d ≡ f

pub data Said (id : Id) (n : ℕ) (d : List ℕ) : Option Token → Type 0 where
  initialised : Tests id n d true false false false → 2 ≤ n → Said id n d (Some Initialise)
  plainly : Tests id n d false true false false → 3 ≤ n → Said id n d (Some (Plain (plain_amount d)))
  checkedly : Tests id n d false false true false → 4 ≤ n → Said id n d (Some (Checked (checked_amount d)))
  feely : Tests id n d false false false true → 4 ≤ n → Said id n d (Some (WithFee (fee_transfer_amount d) (fee_transfer_fee d)))
  otherwise : Tests id n d false false false false → Said id n d None

module _ (id : Id) (n : ℕ) (d : List ℕ) where
  init-floor : initialises id n d ≡ true → 2 ≤ n
  unfolding initialises
  init-floor e = leb-true 2 n (and_right (is_token id && (eqb (get_or d 0 0) 1 && eqb (length d) 1 || (eqb (get_or d 0 0) 16 || eqb (get_or d 0 0) 18) && eqb (length d) 33)) (leb 2 n) e)

  plain-floor : plain_transfer id n d ≡ true → 3 ≤ n
  unfolding plain_transfer
  plain-floor e = leb-true 3 n (and_right (is_token id && eqb (get_or d 0 0) 3 && leb 9 (length d)) (leb 3 n) e)

  checked-floor : checked_transfer id n d ≡ true → 4 ≤ n
  unfolding checked_transfer
  checked-floor e = leb-true 4 n (and_right (is_token id && eqb (get_or d 0 0) 12 && leb 10 (length d)) (leb 4 n) e)

  fee-floor : fee_transfer id n d ≡ true → 4 ≤ n
  unfolding fee_transfer
  fee-floor e = leb-true 4 n (and_right (is_token2022 id && (eqb (get_or d 0 0) 26 && eqb (get_or d 1 0) 1) && leb 19 (length d)) (leb 4 n) e)

  only-init : plain_transfer id n d ≡ false → checked_transfer id n d ≡ false → fee_transfer id n d ≡ false → Said id n d (token_of id n d)
  unfolding token_of
  only-init p c f = go (initialises id n d) refl
    where
      go : (b : Bool) → initialises id n d ≡ b → Said id n d (token_of id n d)
      go true e = rw e (initialised record { init = e; plain = p; checked = c; fee = f } (init-floor e))
      go false e = rw (e, p, c, f) (otherwise record { init = e; plain = p; checked = c; fee = f })

  only-plain : initialises id n d ≡ false → checked_transfer id n d ≡ false → fee_transfer id n d ≡ false → Said id n d (token_of id n d)
  unfolding token_of
  only-plain i c f = go (plain_transfer id n d) refl
    where
      go : (b : Bool) → plain_transfer id n d ≡ b → Said id n d (token_of id n d)
      go true e = rw (i, e) (plainly record { init = i; plain = e; checked = c; fee = f } (plain-floor e))
      go false e = rw (i, e, c, f) (otherwise record { init = i; plain = e; checked = c; fee = f })

  only-checked : initialises id n d ≡ false → plain_transfer id n d ≡ false → fee_transfer id n d ≡ false → Said id n d (token_of id n d)
  unfolding token_of
  only-checked i p f = go (checked_transfer id n d) refl
    where
      go : (b : Bool) → checked_transfer id n d ≡ b → Said id n d (token_of id n d)
      go true e = rw (i, p, e) (checkedly record { init = i; plain = p; checked = e; fee = f } (checked-floor e))
      go false e = rw (i, p, e, f) (otherwise record { init = i; plain = p; checked = e; fee = f })

  only-fee : initialises id n d ≡ false → plain_transfer id n d ≡ false → checked_transfer id n d ≡ false → Said id n d (token_of id n d)
  unfolding token_of
  only-fee i p c = go (fee_transfer id n d) refl
    where
      go : (b : Bool) → fee_transfer id n d ≡ b → Said id n d (token_of id n d)
      go true e = rw (i, p, c, e) (feely record { init = i; plain = p; checked = c; fee = e } (fee-floor e))
      go false e = rw (i, p, c, e) (otherwise record { init = i; plain = p; checked = c; fee = e })

  -- tags 3, 12 and 26 rule each other out, and all else leaves the test of initialise alone
  pub said : Said id n d (token_of id n d)
  unfolding initialises plain_transfer checked_transfer fee_transfer
  said =
      by_cases
      (ℕ_discrete (get_or d 0 0) 3)
      (λ (e : get_or d 0 0 ≡ 3). only-plain (simp (e, and-false)) (simp (e, and-false)) (simp (e, and-false)))
      (λ a.
      by_cases
      (ℕ_discrete (get_or d 0 0) 12)
      (λ (e : get_or d 0 0 ≡ 12). only-checked (simp (e, and-false)) (simp (e, and-false)) (simp (e, and-false)))
      (λ b.
      by_cases
      (ℕ_discrete (get_or d 0 0) 26)
      (λ (e : get_or d 0 0 ≡ 26). only-fee (simp (e, and-false)) (simp (e, and-false)) (simp (e, and-false)))
      (λ c. only-init (simp (ne_eqb _ _ a, and-false)) (simp (ne_eqb _ _ b, and-false)) (simp (ne_eqb _ _ c, and-false)))))
