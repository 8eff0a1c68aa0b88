-- The reason tag by tag, on the side of the layouts and on that of the enum; so they are the same, and 0 exactly where there is a transfer.
-- Assumes nothing.
use mathlib.Core.Path.{◌≡◌, refl, sym, ap, ◌∙◌}
use mathlib.Core.Logic.{◌≢◌, by_cases}
use mathlib.Core.Bool.{Bool, true, false, cond, ◌&&◌, ◌||◌, and-true, and-false, or-false, false≢true}
use mathlib.Core.List.{List, [], ◌∷◌, Memᴰ}
use Prim.Native.Nat.{ℕ, ◌≤◌}
use native.Mathlib.Decide.{ℕ_discrete}
use native.Mathlib.Omega.{arith}
use lib.Dec.{leb, eqb}
use lib.ListN.{length, get_or}
use borrow.Author.Tests.{ne_eqb, eqb-true, lt-ltb, le-ltb, leb-true, leb-false}
use Rattle.std.specs.Prelude.{Option, Some, None, Result, Ok, Err}
use Rattle.wire.specs.Same.{same}
use Rattle.wire.proofs.Below.{and_left, and_right}
use Rattle.ids.specs.declared.Id.{Id}
use Rattle.ids.specs.Keys.{Key, is_zero}
use Rattle.token.specs.Programs.{is_token, is_token2022}
use Rattle.token.specs.Tokens.{initialises, plain_transfer, checked_transfer, fee_transfer, plain_amount, checked_amount, fee_transfer_amount, fee_transfer_fee, token_of}
use Rattle.token.specs.Transfers.{transfer}
use Rattle.token.specs.Published.{Layout, source, destination, mint, authority, place, standing, role, total, size, starts, transfer_layout, transfer_checked, transfer_checked_with_fee}
use Rattle.token.specs.Reasons.{transfer_layouts, begins_as, lacks_key, lacking, reason_among, reason, Tells, says_transfer, says_why}
use Rattle.token.specs.Moved.{transfer_value, reason_number, reason_of, unnamed_fee, accounts_named, why_none, sent_to, sent_checked, moved_by, moved_of}
use Rattle.token.specs.declared.Token.TheVariants.{Initialise, Plain, Checked, WithFee}
use Rattle.token.specs.declared.moved.Transfer.{Transfer}
use Rattle.token.specs.declared.moved.Reason.{Reason}
use Rattle.token.specs.declared.moved.Reason.TheVariants.{NotToken, UnsupportedTag, TooFewAccounts, DataTooShort, ZeroKey}
use Rattle.token.proofs.Reading.{is-2022, read_none, read-3, read-12, read-26}
use Rattle.token.proofs.Differences.{token-programs, fee-programs}
use Rattle.token.proofs.Laws.{moved_value}

-- as which of the three an instruction begins, by its first bytes
module _ (id : Id) where
  begins-3 : (d : List ℕ) → begins_as transfer_layout id d ≡ (is_token id && eqb (get_or d 0 0) 3)
  unfolding begins_as transfer_layout starts same
  begins-3 [] = simp and-false
  begins-3 (x ∷ r) = simp (token-programs, and-true)

  begins-12 : (d : List ℕ) → begins_as transfer_checked id d ≡ (is_token id && eqb (get_or d 0 0) 12)
  unfolding begins_as transfer_checked starts same
  begins-12 [] = simp and-false
  begins-12 (x ∷ r) = simp (token-programs, and-true)

  begins-26 : (d : List ℕ) → begins_as transfer_checked_with_fee id d ≡ (is_token2022 id && (eqb (get_or d 0 0) 26 && eqb (get_or d 1 0) 1))
  unfolding begins_as transfer_checked_with_fee starts same
  begins-26 [] = simp and-false
  begins-26 (x ∷ []) = simp and-false
  begins-26 (x ∷ y ∷ r) = simp (fee-programs, and-true)

-- a layout that it begins as, with accounts and data enough, leaves the keys to be tested
pub lacking-key : (l : Layout) (κ : ℕ → Key) (a d : List ℕ) → length l.accounts ≤ length a → size l ≤ length d → lacking l κ a d ≡ cond (lacks_key l κ a) 5 0
unfolding lacking
lacking-key l κ a d h k = rw (le-ltb (length a) (length l.accounts) h, le-ltb (length d) (size l) k)

-- that of a zero key, and of a transfer
zero-reason : (z : Bool) (t : Transfer) → reason_of (cond z (Err ZeroKey) (Ok t)) ≡ cond z 5 0
zero-reason true t = refl
zero-reason false t = refl

module _ (κ : ℕ → Key) (id : Id) (a d : List ℕ) where
  -- by the layouts
  reason-1 : is_token id ≡ false → reason κ id a d ≡ 1
  unfolding reason
  reason-1 t = rw t

  reason-3 : is_token id ≡ true → get_or d 0 0 ≡ 3 → reason κ id a d ≡ lacking transfer_layout κ a d
  unfolding reason reason_among transfer_layouts
  reason-3 t e = simp (t, begins-3, e)

  reason-12 : is_token id ≡ true → get_or d 0 0 ≡ 12 → reason κ id a d ≡ lacking transfer_checked κ a d
  unfolding reason reason_among transfer_layouts
  reason-12 t e = simp (t, begins-3, begins-12, e)

  reason-26 : is_token id ≡ true → get_or d 0 0 ≡ 26 → reason κ id a d ≡ cond (is_token2022 id && eqb (get_or d 1 0) 1) (lacking transfer_checked_with_fee κ a d) 2
  unfolding reason reason_among transfer_layouts
  reason-26 t e = simp (t, begins-3, begins-12, begins-26, e)

  reason-2 : is_token id ≡ true → get_or d 0 0 ≢ 3 → get_or d 0 0 ≢ 12 → get_or d 0 0 ≢ 26 → reason κ id a d ≡ 2
  unfolding reason reason_among transfer_layouts
  reason-2 t x y z = simp (t, begins-3, begins-12, begins-26, ne_eqb _ _ x, ne_eqb _ _ y, ne_eqb _ _ z, and-false)

  -- so an instruction that begins as one of the three lacks what that one asks for
  pub begun : (l : Layout) → Memᴰ l transfer_layouts → begins_as l id d ≡ true → reason κ id a d ≡ lacking l κ a d
  unfolding transfer_layouts
  begun l (Memᴰ.head e) b =
      let c = rw (e, begins-3 id d) at b in
      rw e (reason-3 (and_left (is_token id) (eqb (get_or d 0 0) 3) c) (eqb-true _ _ (and_right (is_token id) (eqb (get_or d 0 0) 3) c)))
  begun l (Memᴰ.tail (Memᴰ.head e)) b =
      let c = rw (e, begins-12 id d) at b in
      rw e (reason-12 (and_left (is_token id) (eqb (get_or d 0 0) 12) c) (eqb-true _ _ (and_right (is_token id) (eqb (get_or d 0 0) 12) c)))
  begun l (Memᴰ.tail (Memᴰ.tail (Memᴰ.tail h))) b = elim h [ ]
  begun l (Memᴰ.tail (Memᴰ.tail (Memᴰ.head e))) b =
      let c = rw (e, begins-26 id d) at b in
      let tag = and_right (is_token2022 id) (eqb (get_or d 0 0) 26 && eqb (get_or d 1 0) 1) c in
      let two = and_left (is_token2022 id) (eqb (get_or d 0 0) 26 && eqb (get_or d 1 0) 1) c in
      rw e (reason-26 (is-2022 id two) (eqb-true _ _ (and_left (eqb (get_or d 0 0) 26) (eqb (get_or d 1 0) 1) tag)) ∙ rw (two, and_right (eqb (get_or d 0 0) 26) (eqb (get_or d 1 0) 1) tag))

  -- by the enum: no transfer begins so
  why-tag : is_token id ≡ true → accounts_named id d ≡ None → reason_number (why_none id (length a) d) ≡ 2
  unfolding why_none
  why-tag t e = rw (t, e)

  -- where an instruction that begins as a layout is not read, accounts or data are too few
  why-lacking : (l : Layout) → is_token id ≡ true → accounts_named id d ≡ Some (length l.accounts) → (leb (size l) (length d) && leb (length l.accounts) (length a)) ≡ false
      → reason_number (why_none id (length a) d) ≡ lacking l κ a d
  unfolding why_none lacking
  why-lacking l t e = go (leb (size l) (length d)) refl (leb (length l.accounts) (length a)) refl
    where
      go : (x : Bool) → leb (size l) (length d) ≡ x → (y : Bool) → leb (length l.accounts) (length a) ≡ y → (x && y) ≡ false → reason_number (why_none id (length a) d) ≡ lacking l κ a d
      go x p false q f = rw (t, e) (rw (lt-ltb (length a) (length l.accounts) (leb-false _ _ q)))
      go false p true q f = rw (t, e) (rw (le-ltb (length a) (length l.accounts) (leb-true _ _ q), lt-ltb (length d) (size l) (leb-false _ _ p)))
      go true p true q f = absurd (false≢true (sym f))

  -- and where it is read, a key may be zero
  read-lacking : (l : Layout) (z : Bool) (t : Transfer) → lacks_key l κ a ≡ z → (leb (size l) (length d) && leb (length l.accounts) (length a)) ≡ true
      → reason_of (cond z (Err ZeroKey) (Ok t)) ≡ lacking l κ a d
  read-lacking l z t e h =
      zero-reason z t
      ∙ sym (lacking-key l κ a d (leb-true _ _ (and_right (leb (size l) (length d)) (leb (length l.accounts) (length a)) h)) (leb-true _ _ (and_left (leb (size l) (length d)) (leb (length l.accounts) (length a)) h)) ∙ rw e)

  -- the keys that are tested: source and destination, and the mint where one is named
  lacks-3 : 3 ≤ length a → lacks_key transfer_layout κ a ≡ (is_zero (κ (get_or a 0 0)) || is_zero (κ (get_or a 1 0)))
  unfolding lacks_key role standing place transfer_layout
  lacks-3 h = simp (lt-ltb 0 (length a) (omega arith), lt-ltb 1 (length a) (omega arith), or-false)

  lacks-4 : (l : Layout) → l.accounts ≡ source ∷ mint ∷ destination ∷ authority ∷ [] → 4 ≤ length a → lacks_key l κ a ≡ (is_zero (κ (get_or a 0 0)) || is_zero (κ (get_or a 2 0)) || is_zero (κ (get_or a 1 0)))
  unfolding lacks_key role standing place
  lacks-4 l q h = simp (q, lt-ltb 0 (length a) (omega arith), lt-ltb 1 (length a) (omega arith), lt-ltb 2 (length a) (omega arith))

  -- so tag by tag
  moved-1 : is_token id ≡ false → reason_of (moved_of κ id a d) ≡ 1
  unfolding why_none
  moved-1 t = rw (read_none id (length a) d t, t)

  moved-3 : is_token id ≡ true → get_or d 0 0 ≡ 3 → reason_of (moved_of κ id a d) ≡ lacking transfer_layout κ a d
  unfolding transfer_layout size total accounts_named sent_to
  moved-3 t e = rw (read-3 id (length a) d t e) (go (leb 9 (length d) && leb 3 (length a)) refl)
    where
      go : (b : Bool) → (leb 9 (length d) && leb 3 (length a)) ≡ b → reason_of (moved_by κ id a d (cond b (Some (Plain (plain_amount d))) None)) ≡ lacking transfer_layout κ a d
      go true h =
          read-lacking transfer_layout (is_zero (κ (get_or a 0 0)) || is_zero (κ (get_or a 1 0)))
          record { source = get_or a 0 0; destination = get_or a 1 0; amount = plain_amount d; fee = unnamed_fee id }
          (lacks-3 (leb-true _ _ (and_right (leb 9 (length d)) (leb 3 (length a)) h))) h
      go false h = why-lacking transfer_layout t (simp e) h

  -- the two that name their mint
  sent-lacking : (l : Layout) → l.accounts ≡ source ∷ mint ∷ destination ∷ authority ∷ [] → (x : ℕ) (f : Option ℕ) → (leb (size l) (length d) && leb (length l.accounts) (length a)) ≡ true
      → 4 ≤ length a → reason_of (sent_checked κ a x f) ≡ lacking l κ a d
  unfolding sent_to sent_checked
  sent-lacking l q x f h k =
      go (is_zero (κ (get_or a 0 0)) || is_zero (κ (get_or a 2 0))) (is_zero (κ (get_or a 1 0)))
      ∙ read-lacking l (is_zero (κ (get_or a 0 0)) || is_zero (κ (get_or a 2 0)) || is_zero (κ (get_or a 1 0))) t (lacks-4 l q k) h
    where
      t : Transfer
      t = record { source = get_or a 0 0; destination = get_or a 2 0; amount = x; fee = f }

      go : (z m : Bool) → reason_of (cond m (Err ZeroKey) (cond z (Err ZeroKey) (Ok t))) ≡ reason_of (cond (z || m) (Err ZeroKey) (Ok t))
      go true true = refl
      go true false = refl
      go false true = refl
      go false false = refl

  moved-12 : is_token id ≡ true → get_or d 0 0 ≡ 12 → reason_of (moved_of κ id a d) ≡ lacking transfer_checked κ a d
  unfolding transfer_checked size total accounts_named
  moved-12 t e = rw (read-12 id (length a) d t e) (go (leb 10 (length d) && leb 4 (length a)) refl)
    where
      go : (b : Bool) → (leb 10 (length d) && leb 4 (length a)) ≡ b → reason_of (moved_by κ id a d (cond b (Some (Checked (checked_amount d))) None)) ≡ lacking transfer_checked κ a d
      go true h = sent-lacking transfer_checked refl (checked_amount d) (unnamed_fee id) h (leb-true _ _ (and_right (leb 10 (length d)) (leb 4 (length a)) h))
      go false h = why-lacking transfer_checked t (simp e) h

  moved-26 : is_token id ≡ true → get_or d 0 0 ≡ 26 → reason_of (moved_of κ id a d) ≡ cond (is_token2022 id && eqb (get_or d 1 0) 1) (lacking transfer_checked_with_fee κ a d) 2
  unfolding transfer_checked_with_fee size total accounts_named
  moved-26 t e = rw (read-26 id (length a) d t e) (go (is_token2022 id && eqb (get_or d 1 0) 1) refl (leb 19 (length d) && leb 4 (length a)) refl)
    where
      go : (f : Bool) → (is_token2022 id && eqb (get_or d 1 0) 1) ≡ f → (b : Bool) → (leb 19 (length d) && leb 4 (length a)) ≡ b
          → reason_of (moved_by κ id a d (cond (is_token2022 id && eqb (get_or d 1 0) 1 && leb 19 (length d) && leb 4 (length a)) (Some (WithFee (fee_transfer_amount d) (fee_transfer_fee d))) None))
          ≡ cond f (lacking transfer_checked_with_fee κ a d) 2
      go true p true h =
          simp (p, h) (sent-lacking transfer_checked_with_fee refl (fee_transfer_amount d) (Some (fee_transfer_fee d)) h (leb-true _ _ (and_right (leb 19 (length d)) (leb 4 (length a)) h)))
      go true p false h = simp (p, h) (why-lacking transfer_checked_with_fee t (simp (e, p)) h)
      go false p b h = simp p (why-tag t (simp (e, p)))

  -- what is read with another tag is an initialise, or nothing
  moved-2 : is_token id ≡ true → get_or d 0 0 ≢ 3 → get_or d 0 0 ≢ 12 → get_or d 0 0 ≢ 26 → reason_of (moved_of κ id a d) ≡ 2
  unfolding token_of plain_transfer checked_transfer fee_transfer accounts_named
  moved-2 t x y z = simp (ne_eqb _ _ x, ne_eqb _ _ y, ne_eqb _ _ z, and-false) (go (initialises id (length a) d))
    where
      go : (b : Bool) → reason_of (moved_by κ id a d (cond b (Some Initialise) None)) ≡ 2
      go true = refl
      go false = why-tag t (simp (ne_eqb _ _ x, ne_eqb _ _ y, ne_eqb _ _ z))

  -- THE REASON of the enum is that of the layouts
  pub moved-reason : reason_of (moved_of κ id a d) ≡ reason κ id a d
  moved-reason = go (is_token id) refl
    where
      go : (b : Bool) → is_token id ≡ b → reason_of (moved_of κ id a d) ≡ reason κ id a d
      go false t = moved-1 t ∙ sym (reason-1 t)
      go true t =
          by_cases
          (ℕ_discrete (get_or d 0 0) 3)
          (λ x. moved-3 t x ∙ sym (reason-3 t x))
          (λ x.
          by_cases
          (ℕ_discrete (get_or d 0 0) 12)
          (λ y. moved-12 t y ∙ sym (reason-12 t y))
          (λ y.
          by_cases
          (ℕ_discrete (get_or d 0 0) 26)
          (λ z. moved-26 t z ∙ sym (reason-26 t z))
          (λ z. moved-2 t x y z ∙ sym (reason-2 t x y z))))

-- each says why, or has a value
case-tells : (κ : ℕ → Key) (m : Result Transfer Reason) → Tells (reason_of m) (transfer_value κ m)
case-tells κ (Ok t) = says_transfer
case-tells κ (Err NotToken) = says_why {n = 1} (omega arith) (omega arith)
case-tells κ (Err UnsupportedTag) = says_why {n = 2} (omega arith) (omega arith)
case-tells κ (Err TooFewAccounts) = says_why {n = 3} (omega arith) (omega arith)
case-tells κ (Err DataTooShort) = says_why {n = 4} (omega arith) (omega arith)
case-tells κ (Err ZeroKey) = says_why {n = 5} (omega arith) (omega arith)

module _ (κ : ℕ → Key) (id : Id) (a d : List ℕ) where
  -- THE REASON IS 0 EXACTLY WHERE THERE IS A TRANSFER, else one of five
  pub reason-tells : Tells (reason κ id a d) (transfer κ id a d)
  reason-tells = rw (← moved-reason κ id a d, ← moved_value κ id a d) (case-tells κ (moved_of κ id a d))

  -- a result that is the definition's has the value that the Rust gives, and the reason of the layouts
  pub tells : {r : Result Transfer Reason} → r ≡ moved_of κ id a d
      → record { value : r ≡ moved_of κ id a d; transfer : transfer_value κ r ≡ transfer κ id a d; reason : reason_of r ≡ reason κ id a d }
  tells e = record { value = e; transfer = ap (transfer_value κ) e ∙ moved_value κ id a d; reason = ap reason_of e ∙ moved-reason κ id a d }
