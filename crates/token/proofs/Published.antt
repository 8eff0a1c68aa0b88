-- Every account and number that is read of an instruction is the one that the published layout has under its name: an instruction that is taken has all the
-- accounts that are read, and a layout's names stand at known places.
-- Assumes nothing.
use mathlib.Core.Path.{◌≡◌, refl}
use mathlib.Core.Bool.{Bool, true, false, cond, ◌&&◌, ◌||◌, or-false}
use mathlib.Core.List.{List, [], ◌∷◌}
use mathlib.Core.Option.{Option-elim, bind, or_else}
use Prim.Native.Nat.{ℕ, ◌≤◌}
use native.Mathlib.Omega.{arith}
use lib.Dec.{leb, eqb}
use lib.ListN.{length}
use borrow.Author.Tests.{lt-ltb, leb-true}
use Rattle.wire.proofs.Below.{and_right}
use Rattle.ids.specs.declared.Id.{Id}
use Rattle.ids.specs.Keys.{Key, account}
use Rattle.token.specs.Tokens.{initialises, checked_transfer, fee_transfer, token_of}
use Rattle.token.specs.Records.{records, both_ends, plain}
use Rattle.token.specs.Transfers.{plainly, checked, transfer}
use Rattle.token.specs.Published.{Layout, source, destination, mint, authority, field, number, place, standing, role, size, starts, one_of, has_layout, transfer_layout, transfer_checked, transfer_checked_with_fee, initialize_account, initialize_account2, initialize_account3}
use Rattle.token.specs.ByLayout.{exact, role_pair, told, sent, published_token, published_transfer, published_initialise, published_records, published_plain}
use Rattle.token.proofs.Differences.{plain-agrees, checked-agrees, fee-agrees, initialise-accepts}

-- the enum that an instruction is read into
pub token-published : (id : Id) (n : ℕ) (d : List ℕ) → token_of id n d ≡ published_token id n d
unfolding token_of published_token number field transfer_layout transfer_checked transfer_checked_with_fee Option-elim
token-published id n d = rw (initialise-accepts id n d, plain-agrees id n d, checked-agrees id n d, fee-agrees id n d)

-- an instruction that is taken has the accounts that are wanted
pub fits-accounts : (l : Layout) (id : Id) (n : ℕ) (d : List ℕ) → has_layout l id n d ≡ true → length l.accounts ≤ n
unfolding has_layout
fits-accounts l id n d e =
    leb-true (length l.accounts) n (and_right (one_of l.programs id && starts l.tag d && leb (size l) (length d)) (leb (length l.accounts) n) e)

pub exact-accounts : (l : Layout) (m : ℕ) (id : Id) (n : ℕ) (d : List ℕ) → exact l m id n d ≡ true → m ≤ n
unfolding exact
exact-accounts l m id n d e =
    leb-true m n (and_right (one_of l.programs id && starts l.tag d && eqb (length d) (size l)) (leb m n) e)

module _ (κ : ℕ → Key) (id : Id) (a d : List ℕ) where
  -- the transfer: source, destination, mint, amount and fee
  pub transfer-published : transfer κ id a d ≡ published_transfer κ id a d
  unfolding transfer published_transfer plainly checked sent number field role standing place transfer_layout transfer_checked transfer_checked_with_fee bind or_else
  transfer-published = go (has_layout transfer_layout id (length a) d) refl (has_layout transfer_checked id (length a) d) refl (has_layout transfer_checked_with_fee id (length a) d) refl
    where
      go : (p : Bool) → has_layout transfer_layout id (length a) d ≡ p → (c : Bool) → has_layout transfer_checked id (length a) d ≡ c → (f : Bool) → has_layout transfer_checked_with_fee id (length a) d ≡ f → transfer κ id a d ≡ published_transfer κ id a d
      go true e c g f h =
          let k = fits-accounts transfer_layout id (length a) d e in
          simp (plain-agrees, e, lt-ltb 0 (length a) (omega arith), lt-ltb 1 (length a) (omega arith), or-false)
      go false e true g f h =
          let k = fits-accounts transfer_checked id (length a) d g in
          simp (plain-agrees, e, checked-agrees, g, lt-ltb 0 (length a) (omega arith), lt-ltb 1 (length a) (omega arith), lt-ltb 2 (length a) (omega arith))
      go false e false g true h =
          let k = fits-accounts transfer_checked_with_fee id (length a) d h in
          simp (plain-agrees, e, checked-agrees, g, fee-agrees, h, lt-ltb 0 (length a) (omega arith), lt-ltb 1 (length a) (omega arith), lt-ltb 2 (length a) (omega arith))
      go false e false g false h = simp (plain-agrees, e, checked-agrees, g, fee-agrees, h)

  -- the pair that a pass looks at
  pub plain-published : plain κ id a d ≡ published_plain κ id a d
  unfolding plain published_plain role_pair role standing place transfer_layout
  plain-published = go (has_layout transfer_layout id (length a) d) refl
    where
      go : (b : Bool) → has_layout transfer_layout id (length a) d ≡ b → plain κ id a d ≡ published_plain κ id a d
      go true e =
          let h = fits-accounts transfer_layout id (length a) d e in
          simp (plain-agrees, e, lt-ltb 0 (length a) (omega arith), lt-ltb 1 (length a) (omega arith))
      go false e = simp (plain-agrees, e)

  -- what source and destination tell of mints, where the mint stands between them
  ends-told : (l : Layout) (taken : Bool) → taken ≡ has_layout l id (length a) d → l.accounts ≡ source ∷ mint ∷ destination ∷ authority ∷ [] → cond taken (both_ends κ a) [] ≡ cond (has_layout l id (length a) d) (told l κ a) []
  unfolding both_ends told role_pair role standing place
  ends-told l taken t q = rw t (go (has_layout l id (length a) d) refl)
    where
      go : (b : Bool) → has_layout l id (length a) d ≡ b → cond b (both_ends κ a) [] ≡ cond b (told l κ a) []
      go true e =
          let h = rw q at (fits-accounts l id (length a) d e) in
          simp (q, lt-ltb 0 (length a) (omega arith), lt-ltb 1 (length a) (omega arith), lt-ltb 2 (length a) (omega arith))
      go false e = refl

  -- and what an initialise tells
  initialise-told : cond (initialises id (length a) d) ((account κ a 0, account κ a 1) ∷ []) [] ≡ published_initialise κ id a d
  unfolding published_initialise told role_pair role standing place initialize_account initialize_account2 initialize_account3
  initialise-told =
      rw (initialise-accepts id (length a) d)
      (go (exact initialize_account 2 id (length a) d) refl (exact initialize_account2 2 id (length a) d) refl (exact initialize_account3 2 id (length a) d) refl)
    where
      go : (i : Bool) → exact initialize_account 2 id (length a) d ≡ i → (j : Bool) → exact initialize_account2 2 id (length a) d ≡ j → (k : Bool) → exact initialize_account3 2 id (length a) d ≡ k → cond (i || j || k) ((account κ a 0, account κ a 1) ∷ []) [] ≡ cond i (told initialize_account κ a) (cond j (told initialize_account2 κ a) (cond k (told initialize_account3 κ a) []))
      go true e j f k g =
          let h = exact-accounts initialize_account 2 id (length a) d e in
          simp (lt-ltb 0 (length a) (omega arith), lt-ltb 1 (length a) (omega arith))
      go false e true f k g =
          let h = exact-accounts initialize_account2 2 id (length a) d f in
          simp (lt-ltb 0 (length a) (omega arith), lt-ltb 1 (length a) (omega arith))
      go false e false f true g =
          let h = exact-accounts initialize_account3 2 id (length a) d g in
          simp (lt-ltb 0 (length a) (omega arith), lt-ltb 1 (length a) (omega arith))
      go false e false f false g = refl

  -- the records: which account, and which mint
  pub records-published : records κ id a d ≡ published_records κ id a d
  unfolding records published_records transfer_checked transfer_checked_with_fee
  records-published =
      rw (
        ends-told transfer_checked (checked_transfer id (length a) d) (checked-agrees id (length a) d) refl,
        ends-told transfer_checked_with_fee (fee_transfer id (length a) d) (fee-agrees id (length a) d) refl,
        initialise-told,
      )
