-- When data has the form of an action, byte by byte; and each form has one length.
-- Assumes nothing.
use mathlib.Core.Path.{◌≡◌, refl, sym}
use mathlib.Core.Bool.{Bool, true, false, cond, ◌&&◌, and-true, and-false, false≢true}
use mathlib.Core.List.{List, [], ◌∷◌}
use Prim.Native.Nat.{ℕ}
use lib.Dec.{leb, eqb}
use lib.ListN.{length, get_or, take}
use borrow.Author.Tests.{ne_eqb, eqb-false}
use Rattle.wire.specs.Same.{same}
use Rattle.wire.proofs.Same.{same-not-long}
use Rattle.ids.specs.declared.Id.{Id}
use Rattle.ids.specs.Which.{number_of}
use Rattle.token.specs.Programs.{is_token}
use Rattle.natives.specs.Natives.{is_system, funds, syncs, closes}
use Rattle.natives.specs.Numbers.{form_of, sized_of}
use Rattle.std.specs.Prelude.{None}
use Rattle.std.proofs.lemmas.Bool.Decides.{nat_tests}
use Rattle.natives.proofs.Differences.{not-lone}

-- a byte alone
lone : (d : List ℕ) (t : ℕ) → same d (t ∷ []) ≡ (eqb (length d) 1 && eqb (get_or d 0 0) t)
unfolding same
lone [] t = refl
lone (x ∷ []) t = simp and-true
lone (x ∷ y ∷ r) t = rw (not-lone x y r) (simp and-false)

-- four bytes at the head of twelve
head : (d : List ℕ) → (same (take 4 d) (2 ∷ 0 ∷ 0 ∷ 0 ∷ []) && eqb (length d) 12)
    ≡ (eqb (length d) 12 && eqb (get_or d 0 0) 2 && eqb (get_or d 1 0) 0 && eqb (get_or d 2 0) 0 && eqb (get_or d 3 0) 0)
unfolding same
head [] = refl
head (x ∷ []) = simp and-false
head (x ∷ y ∷ []) = simp and-false
head (x ∷ y ∷ z ∷ []) = simp and-false
head (x ∷ y ∷ z ∷ w ∷ r) = go (eqb (length (x ∷ y ∷ z ∷ w ∷ r)) 12) (eqb x 2) (eqb y 0) (eqb z 0) (eqb w 0)
  where
    go : (n a b c e : Bool) → ((a && (b && (c && (e && true)))) && n) ≡ ((((n && a) && b) && c) && e)
    go true false b c e = refl
    go true true false c e = refl
    go true true true false e = refl
    go true true true true e = simp and-true
    go false a b c e = simp and-false

-- the program's test comes last
later : (a b c : Bool) → (a && b && c) ≡ (b && c && a)
later true b c = simp and-true
later false b c = simp and-false

-- the three tests: length, bytes, accounts, program
pub fund-bytes : (id : Id) (n : ℕ) (d : List ℕ) → funds id n d
    ≡ (eqb (length d) 12 && eqb (get_or d 0 0) 2 && eqb (get_or d 1 0) 0 && eqb (get_or d 2 0) 0 && eqb (get_or d 3 0) 0 && leb 2 n && is_system id)
unfolding funds
fund-bytes id n d = rw (← head d) (go (is_system id))
  where
    go : (s : Bool) → (s && same (take 4 d) (2 ∷ 0 ∷ 0 ∷ 0 ∷ []) && eqb (length d) 12 && leb 2 n) ≡ (same (take 4 d) (2 ∷ 0 ∷ 0 ∷ 0 ∷ []) && eqb (length d) 12 && leb 2 n && s)
    go true = simp and-true
    go false = simp and-false

pub sync-bytes : (id : Id) (n : ℕ) (d : List ℕ) → syncs id n d ≡ (eqb (length d) 1 && eqb (get_or d 0 0) 17 && leb 1 n && is_token id)
unfolding syncs
sync-bytes id n d = rw (← lone d 17) (later (is_token id) (same d (17 ∷ [])) (leb 1 n))

pub close-bytes : (id : Id) (n : ℕ) (d : List ℕ) → closes id n d ≡ (eqb (length d) 1 && eqb (get_or d 0 0) 9 && leb 3 n && is_token id)
unfolding closes
close-bytes id n d = rw (← lone d 9) (later (is_token id) (same d (9 ∷ [])) (leb 3 n))

-- no token program is System
apart : (id : Id) → is_token id ≡ true → is_system id ≡ false
unfolding is_token is_system
apart id e = ne_eqb (number_of id) 14 (λ (f : number_of id ≡ 14). false≢true (rw f at e))

-- a length that is no transfer's
no-fund : (s b l n : Bool) → (s && l) ≡ false → (s && b && l && n) ≡ false
no-fund true b true n e = absurd (false≢true (sym e))
no-fund true b false n e = simp and-false
no-fund false b l n e = refl

-- an instruction of another size asks for nothing
pub unsized : (id : Id) (accounts d : List ℕ) → sized_of id (length d) ≡ false → form_of id accounts d ≡ None
unfolding sized_of form_of funds syncs closes
unsized id accounts d e = go (is_token id) refl e
  where
    go : (t : Bool) → is_token id ≡ t → cond t (eqb (length d) 1) (is_system id && eqb (length d) 12) ≡ false → form_of id accounts d ≡ None
    go true p f =
        rw (p, apart id p, same-not-long d (17 ∷ []) (eqb-false (length d) 1 f), same-not-long d (9 ∷ []) (eqb-false (length d) 1 f))
    go false p f =
        rw (p, no-fund (is_system id) (same (take 4 d) (2 ∷ 0 ∷ 0 ∷ 0 ∷ [])) (eqb (length d) 12) (leb 2 (length accounts)) f)

-- what the reader's arms go by
pub ruleset by_bytes = (fund-bytes, sync-bytes, close-bytes, nat_tests)
