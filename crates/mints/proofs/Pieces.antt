-- What a token instruction records, and the transfer that it is, by what it was read as: of the four tests that the definitions make only one holds.
-- Assumes nothing.
use mathlib.Core.Path.{◌≡◌}
use mathlib.Core.List.{List, [], ◌∷◌}
use Prim.Native.Nat.{ℕ}
use lib.ListN.{length}
use Rattle.std.specs.Prelude.{Option, Some, None}
use Rattle.ids.specs.declared.Id.{Id}
use Rattle.ids.specs.Keys.{Key, account}
use Rattle.token.specs.Tokens.{token_of}
use Rattle.token.specs.Records.{both_ends, records, plain}
use Rattle.token.specs.declared.Token.{Token}
use Rattle.token.specs.declared.Token.TheVariants.{Initialise, Plain, Checked, WithFee}
use Rattle.token.proofs.Said.{Said, initialised, plainly, checkedly, feely, otherwise, said}
use Rattle.evidence.specs.Table.{Row}

unfoldable pub pieces : (ℕ → Key) → Option Token → List ℕ → List Row
pieces κ None a = []
pieces κ (Some Initialise) a = (account κ a 0, account κ a 1) ∷ []
pieces κ (Some (Plain n)) a = []
pieces κ (Some (Checked n)) a = both_ends κ a
pieces κ (Some (WithFee n f)) a = both_ends κ a

unfoldable pub moved : (ℕ → Key) → Option Token → List ℕ → List Row
moved κ None a = []
moved κ (Some Initialise) a = []
moved κ (Some (Plain n)) a = (account κ a 0, account κ a 1) ∷ []
moved κ (Some (Checked n)) a = []
moved κ (Some (WithFee n f)) a = []

module _ (κ : ℕ → Key) (id : Id) (a d : List ℕ) where
  pub records-read : records κ id a d ≡ pieces κ (token_of id (length a) d) a
  unfolding records both_ends pieces
  records-read = go (said id (length a) d)
    where
      go : {t : Option Token} → Said id (length a) d t → records κ id a d ≡ pieces κ t a
      go (initialised t h) = rw (t.init, t.checked, t.fee)
      go (plainly t h) = rw (t.init, t.checked, t.fee)
      go (checkedly t h) = rw (t.init, t.checked, t.fee)
      go (feely t h) = rw (t.init, t.checked, t.fee)
      go (otherwise t) = rw (t.init, t.checked, t.fee)

  pub plain-read : plain κ id a d ≡ moved κ (token_of id (length a) d) a
  unfolding plain moved
  plain-read = go (said id (length a) d)
    where
      go : {t : Option Token} → Said id (length a) d t → plain κ id a d ≡ moved κ t a
      go (initialised t h) = rw t.plain
      go (plainly t h) = rw t.plain
      go (checkedly t h) = rw t.plain
      go (feely t h) = rw t.plain
      go (otherwise t) = rw t.plain
