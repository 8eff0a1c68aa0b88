-- The six answers exclude each other and leave nothing out: the reason is the one of them that holds.
-- Assumes nothing.
use mathlib.Core.Path.{◌≡◌, refl, sym, ◌∙◌}
use mathlib.Core.Bool.{Bool, true, false, cond}
use mathlib.Core.List.{List, Memᴰ}
use Prim.Native.Nat.{ℕ}
use lib.Dec.{ltb}
use lib.ListN.{length}
use borrow.Author.Tests.{lt-ltb, le-ltb, ltb-true, ltb-false}
use Rattle.ids.specs.declared.Id.{Id}
use Rattle.ids.specs.Keys.{Key}
use Rattle.token.specs.Programs.{is_token}
use Rattle.token.specs.Published.{Layout, size, transfer_layout, transfer_checked, transfer_checked_with_fee}
use Rattle.token.specs.Reasons.{transfer_layouts, begins_as, lacks_key, lacking, reason_among, reason, Because, not_token, unsupported_tag, too_few_accounts, data_too_short, zero_key, a_transfer}
use Rattle.token.proofs.Reasons.{begun, lacking-key}

module _ (κ : ℕ → Key) (id : Id) (a d : List ℕ) where
  -- what an instruction that begins as a layout lacks is one of four answers
  lacked : (l : Layout) → Memᴰ l transfer_layouts → begins_as l id d ≡ true → Because κ id a d (lacking l κ a d)
  unfolding lacking
  lacked l i b = go (ltb (length a) (length l.accounts)) refl (ltb (length d) (size l)) refl (lacks_key l κ a) refl
    where
      go : (x : Bool) → ltb (length a) (length l.accounts) ≡ x → (y : Bool) → ltb (length d) (size l) ≡ y → (z : Bool) → lacks_key l κ a ≡ z
          → Because κ id a d (cond x 3 (cond y 4 (cond z 5 0)))
      go true p y q z r = too_few_accounts l i b (ltb-true _ _ p)
      go false p true q z r = data_too_short l i b (ltb-false _ _ p) (ltb-true _ _ q)
      go false p false q true r = zero_key l i b (ltb-false _ _ p) (ltb-false _ _ q) r
      go false p false q false r = a_transfer l i b (ltb-false _ _ p) (ltb-false _ _ q) r

  -- NOTHING IS LEFT OUT: the reason is an answer
  pub reason-because : Because κ id a d (reason κ id a d)
  unfolding reason reason_among transfer_layouts
  reason-because = go (is_token id) refl (begins_as transfer_layout id d) refl (begins_as transfer_checked id d) refl (begins_as transfer_checked_with_fee id d) refl
    where
      go : (t : Bool) → is_token id ≡ t → (x : Bool) → begins_as transfer_layout id d ≡ x → (y : Bool) → begins_as transfer_checked id d ≡ y → (z : Bool) → begins_as transfer_checked_with_fee id d ≡ z
          → Because κ id a d (cond t (cond x (lacking transfer_layout κ a d) (cond y (lacking transfer_checked κ a d) (cond z (lacking transfer_checked_with_fee κ a d) 2))) 1)
      go false t x p y q z r = not_token t
      go true t true p y q z r = lacked transfer_layout (Memᴰ.head refl) p
      go true t false p true q z r = lacked transfer_checked (Memᴰ.tail (Memᴰ.head refl)) q
      go true t false p false q true r = lacked transfer_checked_with_fee (Memᴰ.tail (Memᴰ.tail (Memᴰ.head refl))) r
      go true t false p false q false r = unsupported_tag t (λ l i. none l i)
        where
          none : (l : Layout) → Memᴰ l transfer_layouts → begins_as l id d ≡ false
          none l (Memᴰ.tail (Memᴰ.tail (Memᴰ.tail h))) = elim h [ ]
          none l (Memᴰ.head e) = rw e p
          none l (Memᴰ.tail (Memᴰ.head e)) = rw e q
          none l (Memᴰ.tail (Memᴰ.tail (Memᴰ.head e))) = rw e r

  -- an answer that holds is the reason
  pub because-reason : {n : ℕ} → Because κ id a d n → reason κ id a d ≡ n
  unfolding reason reason_among transfer_layouts lacking
  because-reason (not_token t) = rw t
  because-reason (unsupported_tag t f) =
      rw (t, f transfer_layout (Memᴰ.head refl), f transfer_checked (Memᴰ.tail (Memᴰ.head refl)), f transfer_checked_with_fee (Memᴰ.tail (Memᴰ.tail (Memᴰ.head refl))))
  because-reason (too_few_accounts l i b h) = begun κ id a d l i b ∙ rw (lt-ltb (length a) (length l.accounts) h)
  because-reason (data_too_short l i b h k) = begun κ id a d l i b ∙ rw (le-ltb (length a) (length l.accounts) h, lt-ltb (length d) (size l) k)
  because-reason (zero_key l i b h k z) = begun κ id a d l i b ∙ lacking-key l κ a d h k ∙ rw z
  because-reason (a_transfer l i b h k z) = begun κ id a d l i b ∙ lacking-key l κ a d h k ∙ rw z

  -- THEY EXCLUDE EACH OTHER
  pub because-one : {m n : ℕ} → Because κ id a d m → Because κ id a d n → m ≡ n
  because-one x y = sym (because-reason x) ∙ because-reason y
