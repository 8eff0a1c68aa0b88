-- The marks as states: what setting one changes, and what it leaves, since a mark is the state of one row.
-- Assumes nothing.
use mathlib.Core.Path.{◌≡◌, refl, sym, ◌∙◌}
use mathlib.Core.Logic.{◌≢◌, by_cases}
use mathlib.Core.Bool.{Bool, true, false, cond, ◌&&◌}
use mathlib.Core.List.{List}
use Prim.Native.Nat.{ℕ, ◌<◌}
use native.Mathlib.Decide.{ℕ_discrete}
use lib.Dec.{eqb, ltb}
use lib.ListN.{length}
use borrow.Author.Tests.{eq-eqb, ne_eqb}
use Rattle.mints.specs.declared.row.Row.{Row}
use Rattle.mints.specs.declared.row.State.TheVariants.{Doubted}
use Rattle.mints.specs.Cells.{number_of, account_at, mint_at, state_at, with_state}
use Rattle.mints.specs.Doubt.{doubt_at}
use Rattle.mints.proofs.Fields.{account-state, mint-state, state-here, state-other, length-state}

-- the state of a row that is in doubt, if it is filled in
unfoldable pub marked : ℕ → Bool → ℕ
marked s b = cond (eqb s 3 && b) 4 s

pub marked-filled : (b : Bool) → marked 3 b ≡ cond b 4 3
unfolding marked
marked-filled b = refl

pub marked_other : (s : ℕ) (b : Bool) → s ≢ 3 → marked s b ≡ s
unfolding marked
marked_other s b n = rw (ne_eqb _ _ n)

-- a mark says nothing of whether there is a mint
pub marked-mint : (s : ℕ) (b : Bool) → ltb 1 (marked s b) ≡ ltb 1 s
marked-mint s b = by_cases (ℕ_discrete s 3) (λ e. rw (e, marked-filled b) (go b)) (λ n. rw (marked_other s b n))
  where
    go : (b : Bool) → ltb 1 (cond b 4 3) ≡ ltb 1 3
    go true = refl
    go false = refl

pub marked-still : (s : ℕ) → marked s false ≡ s
marked-still s = by_cases (ℕ_discrete s 3) (λ e. rw (e, marked-filled false)) (λ n. marked_other s false n)

number-doubted : number_of Doubted ≡ 4
unfolding number_of
number-doubted = refl

-- a row that a transfer marks
pub doubt-here : (w : List Row) (r : ℕ) → r < length w → state_at (doubt_at w r) r ≡ marked (state_at w r) true
unfolding doubt_at
doubt-here w r h =
    by_cases
    (ℕ_discrete (state_at w r) 3)
    (λ e. rw (eq-eqb _ _ e, state-here w r Doubted h, e) (number-doubted ∙ sym (marked-filled true)))
    (λ n. rw (ne_eqb _ _ n) (sym (marked_other (state_at w r) true n)))

-- what it leaves
module _ (w : List Row) (r : ℕ) where
  doubt-cases : (P : List Row → Type 0) → P (with_state w r Doubted) → P w → P (doubt_at w r)
  unfolding doubt_at
  doubt-cases P x y = go (eqb (state_at w r) 3)
    where
      go : (b : Bool) → P (cond b (with_state w r Doubted) w)
      go true = x
      go false = y

  pub doubt-other : (q : ℕ) → q ≢ r → state_at (doubt_at w r) q ≡ state_at w q
  doubt-other q n = doubt-cases (λ (v : List Row). state_at v q ≡ state_at w q) (state-other w r Doubted q n) refl

  pub doubt-account : (q : ℕ) → account_at (doubt_at w r) q ≡ account_at w q
  doubt-account q = doubt-cases (λ (v : List Row). account_at v q ≡ account_at w q) (account-state w r Doubted q) refl

  pub doubt-mint : (q : ℕ) → mint_at (doubt_at w r) q ≡ mint_at w q
  doubt-mint q = doubt-cases (λ (v : List Row). mint_at v q ≡ mint_at w q) (mint-state w r Doubted q) refl

  pub doubt-length : length (doubt_at w r) ≡ length w
  doubt-length = doubt-cases (λ (v : List Row). length v ≡ length w) (length-state w r Doubted) refl
