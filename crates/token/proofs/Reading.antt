-- What `token_of` answers, tag by tag: each tag leaves one test. The reader and the laws of the definitions that share these tests go by them.
-- Assumes nothing.
use mathlib.Core.Path.{◌≡◌, sym}
use mathlib.Core.Logic.{◌≢◌}
use mathlib.Core.Bool.{Bool, true, false, cond, ◌&&◌, ◌||◌, and-false, or-false, or-true, false≢true}
use mathlib.Core.List.{List}
use Prim.Native.Nat.{ℕ}
use lib.Dec.{leb, eqb}
use lib.ListN.{length, get_or}
use borrow.Author.Tests.{ne_eqb}
use Rattle.std.specs.Prelude.{Some, None}
use Rattle.std.proofs.lemmas.Bool.Decides.{nat_tests}
use Rattle.ids.specs.declared.Id.{Id}
use Rattle.ids.specs.declared.Id.TheVariants.{SplToken, Token2022}
use Rattle.ids.specs.Which.{same_id}
use Rattle.token.specs.Programs.{is_token, is_token2022}
use Rattle.token.specs.Tokens.{initialises, plain_transfer, checked_transfer, fee_transfer, plain_amount, checked_amount, fee_transfer_amount, fee_transfer_fee, token_of}
use Rattle.token.specs.declared.Token.TheVariants.{Initialise, Plain, Checked, WithFee}

not-2022 : (id : Id) → is_token id ≡ false → is_token2022 id ≡ false
unfolding is_token is_token2022
not-2022 id t = go (same_id id SplToken) (same_id id Token2022) t
  where
    go : (a b : Bool) → (a || b) ≡ false → b ≡ false
    go true b e = absurd (false≢true (sym e))
    go false b e = e

pub is-2022 : (id : Id) → is_token2022 id ≡ true → is_token id ≡ true
unfolding is_token is_token2022
is-2022 id t = rw t (or-true (same_id id SplToken))

module _ (id : Id) (n : ℕ) (d : List ℕ) where
  -- no token program
  pub read_none : is_token id ≡ false → token_of id n d ≡ None
  unfolding token_of initialises plain_transfer checked_transfer fee_transfer
  read_none t = simp (t, not-2022 id t)

  pub read-1 : is_token id ≡ true → get_or d 0 0 ≡ 1 → token_of id n d ≡ cond (eqb (length d) 1 && leb 2 n) (Some Initialise) None
  unfolding token_of initialises plain_transfer checked_transfer fee_transfer
  read-1 t e = simp (t, e, and-false, or-false)

  pub read-3 : is_token id ≡ true → get_or d 0 0 ≡ 3 → token_of id n d ≡ cond (leb 9 (length d) && leb 3 n) (Some (Plain (plain_amount d))) None
  unfolding token_of initialises plain_transfer checked_transfer fee_transfer
  read-3 t e = simp (t, e, and-false)

  pub read-12 : is_token id ≡ true → get_or d 0 0 ≡ 12 → token_of id n d ≡ cond (leb 10 (length d) && leb 4 n) (Some (Checked (checked_amount d))) None
  unfolding token_of initialises plain_transfer checked_transfer fee_transfer
  read-12 t e = simp (t, e, and-false)

  pub read-16 : is_token id ≡ true → get_or d 0 0 ≡ 16 → token_of id n d ≡ cond (eqb (length d) 33 && leb 2 n) (Some Initialise) None
  unfolding token_of initialises plain_transfer checked_transfer fee_transfer
  read-16 t e = simp (t, e, and-false)

  pub read-18 : is_token id ≡ true → get_or d 0 0 ≡ 18 → token_of id n d ≡ cond (eqb (length d) 33 && leb 2 n) (Some Initialise) None
  unfolding token_of initialises plain_transfer checked_transfer fee_transfer
  read-18 t e = simp (t, e, and-false)

  pub read-26 : is_token id ≡ true → get_or d 0 0 ≡ 26 → token_of id n d ≡ cond (is_token2022 id && eqb (get_or d 1 0) 1 && leb 19 (length d) && leb 4 n) (Some (WithFee (fee_transfer_amount d) (fee_transfer_fee d))) None
  unfolding token_of initialises plain_transfer checked_transfer fee_transfer
  read-26 t e = simp (t, e)

  -- any other tag
  pub read-rest : get_or d 0 0 ≢ 1 → get_or d 0 0 ≢ 3 → get_or d 0 0 ≢ 12 → get_or d 0 0 ≢ 16 → get_or d 0 0 ≢ 18 → get_or d 0 0 ≢ 26 → token_of id n d ≡ None
  unfolding token_of initialises plain_transfer checked_transfer fee_transfer
  read-rest a b e f g h = simp (ne_eqb _ _ a, ne_eqb _ _ b, ne_eqb _ _ e, ne_eqb _ _ f, ne_eqb _ _ g, ne_eqb _ _ h, and-false)

-- what the reader's arms go by
pub ruleset by_tag = (read_none, read-1, read-3, read-12, read-16, read-18, read-26, read-rest, nat_tests)
