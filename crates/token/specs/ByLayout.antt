-- The Rust's answers in the words of the published layouts. A name that a layout has not gives nothing.
-- Assumes nothing.
use Rattle.std.specs.Prelude.{ℕ, Bool, false, cond, ◌&&◌, ◌||◌, List, [], ◌∷◌, ◌++◌, leb, eqb, length}
use Rattle.std.specs.Prelude as rust
use Rattle.std.proofs.Math.Option.{Option, none, some, Option-elim, bind, or_else}
use Rattle.ids.specs.declared.Id.{Id}
use Rattle.ids.specs.Keys.{Key, is_zero}
use Rattle.token.specs.Tokens.{initialises}
use Rattle.token.specs.Transfers.{Transfer, fee_of}
use Rattle.token.specs.declared.Token.{Token}
use Rattle.token.specs.declared.Token.TheVariants.{Initialise, Plain, Checked, WithFee}
use Rattle.token.specs.Published.{Name, Layout, held, source, destination, mint, amount, fee, transfer_layout, transfer_checked, transfer_checked_with_fee, initialize_account, initialize_account2, initialize_account3, number, role, size, starts, one_of, has_layout}

-- how the Rust takes all but the three transfers: no byte after the fields, and m accounts are enough
unfoldable pub exact : Layout → ℕ → Id → ℕ → List ℕ → Bool
exact l m id n d = one_of l.programs id && starts l.tag d && eqb (length d) (size l) && leb m n

-- as which of the three an initialise is taken: the one whose tag stands there
unfoldable pub initialises_as : Layout → Id → ℕ → List ℕ → Bool
initialises_as l id n d = initialises id n d && starts l.tag d

-- two accounts, where both are there
abbrev pub pair_of : (ℕ → Key) → Option ℕ → Option ℕ → List (Key × Key)
pair_of κ none y = []
pair_of κ (some x) none = []
pair_of κ (some x) (some y) = (κ x, κ y) ∷ []

unfoldable pub role_pair : Layout → Name → Name → (ℕ → Key) → List ℕ → List (Key × Key)
role_pair l x y κ accounts = pair_of κ (role l x accounts) (role l y accounts)

-- what an instruction of a layout tells of mints: each token account that it names, with the mint that it names
unfoldable pub told : Layout → (ℕ → Key) → List ℕ → List (Key × Key)
told l κ accounts = role_pair l held mint κ accounts ++ role_pair l source mint κ accounts ++ role_pair l destination mint κ accounts

-- an account that is named, and whose key is zero
abbrev pub names_zero : (ℕ → Key) → Option ℕ → Bool
names_zero κ none = false
names_zero κ (some x) = is_zero (κ x)

-- what an instruction of a layout moves: nothing where source, destination or a mint that it names is zero; a fee that it does not name is the program's
unfoldable pub sent : Layout → (ℕ → Key) → Id → List ℕ → List ℕ → Option Transfer
sent l κ id accounts d =
    bind (role l source accounts) (λ s.
    bind (role l destination accounts) (λ t.
    bind (number l amount d) (λ x.
    cond (is_zero (κ s) || is_zero (κ t) || names_zero κ (role l mint accounts)) none
    (some record { source = κ s; destination = κ t; amount = x; fee = or_else (number l fee d) (fee_of id) }))))

-- which token instruction it is, with its numbers
unfoldable pub published_token : Id → ℕ → List ℕ → rust.Option Token
published_token id n d =
    cond (exact initialize_account 2 id n d || exact initialize_account2 2 id n d || exact initialize_account3 2 id n d) (rust.Some Initialise)
    (cond (has_layout transfer_layout id n d) (Option-elim (number transfer_layout amount d) rust.None (λ x. rust.Some (Plain x)))
    (cond (has_layout transfer_checked id n d) (Option-elim (number transfer_checked amount d) rust.None (λ x. rust.Some (Checked x)))
    (cond (has_layout transfer_checked_with_fee id n d)
    (Option-elim (number transfer_checked_with_fee amount d) rust.None (λ x. Option-elim (number transfer_checked_with_fee fee d) rust.None (λ y. rust.Some (WithFee x y))))
    rust.None)))

-- the transfer that it gives
unfoldable pub published_transfer : (ℕ → Key) → Id → List ℕ → List ℕ → Option Transfer
published_transfer κ id accounts d =
    cond (has_layout transfer_layout id (length accounts) d) (sent transfer_layout κ id accounts d)
    (cond (has_layout transfer_checked id (length accounts) d) (sent transfer_checked κ id accounts d)
    (cond (has_layout transfer_checked_with_fee id (length accounts) d) (sent transfer_checked_with_fee κ id accounts d)
    none))

-- what an initialise tells of mints
unfoldable pub published_initialise : (ℕ → Key) → Id → List ℕ → List ℕ → List (Key × Key)
published_initialise κ id accounts d =
    cond (exact initialize_account 2 id (length accounts) d) (told initialize_account κ accounts)
    (cond (exact initialize_account2 2 id (length accounts) d) (told initialize_account2 κ accounts)
    (cond (exact initialize_account3 2 id (length accounts) d) (told initialize_account3 κ accounts)
    []))

-- all that it tells of mints
unfoldable pub published_records : (ℕ → Key) → Id → List ℕ → List ℕ → List (Key × Key)
published_records κ id accounts d =
    cond (has_layout transfer_checked id (length accounts) d) (told transfer_checked κ accounts) []
    ++ cond (has_layout transfer_checked_with_fee id (length accounts) d) (told transfer_checked_with_fee κ accounts) []
    ++ published_initialise κ id accounts d

-- what a pass looks at
unfoldable pub published_plain : (ℕ → Key) → Id → List ℕ → List ℕ → List (Key × Key)
published_plain κ id accounts d = cond (has_layout transfer_layout id (length accounts) d) (role_pair transfer_layout source destination κ accounts) []
