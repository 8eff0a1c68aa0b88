-- The rows when the passes are over: those with a mint have the final mint of their account, and those that are filled in are the accounts that have a mint and
-- nothing recorded.
-- Assumes nothing.
use mathlib.Core.Path.{◌≡◌, refl, sym, ap, ◌∙◌}
use mathlib.Core.Logic.{◌≢◌, ⊎_elim, by_cases}
use mathlib.Core.Bool.{Bool, true, false, cond, not, false≢true}
use mathlib.Core.Option.{none, some, none-ne-some, some-injective}
use mathlib.Core.List.Memᴰ
use mathlib.Core.List.{List, [], ◌∷◌, Memᴰ}
use Prim.Native.Nat.{ℕ, zero, suc, ◌<◌}
use native.Mathlib.Decide.{ℕ_discrete}
use native.Mathlib.Omega.{arith}
use lib.Dec.{ltb}
use borrow.Author.Tests.{lt-ltb, le-ltb, ltb-true}
use Rattle.wire.specs.Same.{same}
use Rattle.wire.proofs.Same.{same-eq, same-ne}
use Rattle.ids.specs.Keys.{Key, zero_key}
use Rattle.evidence.specs.Table.{Row, Table, lookup, Has}
use Rattle.evidence.proofs.Table.{has-lookup, lookup-has, lookup-lacks, has-not-lacks}
use Rattle.evidence.specs.Evidence.{Evidence, recorded, Free}
use Rattle.evidence.proofs.Recording.{free-lacks, lacks-free}
use Rattle.evidence.specs.Passes.{Transfers}
use Rattle.evidence.proofs.Infer.{Settled, settled-distinct}
use Rattle.evidence.proofs.Chains.{complete}
use Rattle.evidence.specs.Final.{final}
use Rattle.evidence.proofs.Final.{gives-final}
use Rattle.evidence.proofs.Lookups.{known, known-mint, known-zero, final-lookup, zero-lacks}
use Rattle.evidence.proofs.Doubts.{Differ, Doubtful, doubtful-free, doubtful-doubt}
use Rattle.mints.specs.declared.row.Row.{Row as Working}
use Rattle.mints.specs.Cells.{mint_at, state_at, state_says}
use Rattle.mints.specs.declared.pass.Transfer.{Transfer}
use Rattle.mints.specs.Pass.{from_at, to_at}
use Rattle.mints.specs.Doubt.{differ_at}
use Rattle.mints.proofs.Holding.{RowsApart, not-zero, HoldsRows, was}
use Rattle.mints.proofs.Stepped.{Held, pairs_to}

-- what the final table says of a row
module _ {n : ℕ} {α : ℕ → Key} {e : Evidence} {ps : Transfers} {t : Table} (p : RowsApart n α) (s : Settled e ps t) {w : List Working} (h : HoldsRows 3 n α w t) where
  by_state : (r : ℕ) → 0 < r → r < n → (x : ℕ) → state_at w r ≡ x → lookup (final t) (α r) ≡ cond (ltb 1 x) (some (mint_at w r)) none
  unfolding state_says known
  by_state r z k zero q = final-lookup (settled-distinct s) (α r) ∙ rw (h.said r z k, q)
  by_state r z k (suc zero) q = final-lookup (settled-distinct s) (α r) ∙ rw (h.said r z k, q) known-zero
  by_state r z k (suc (suc x)) q =
      final-lookup (settled-distinct s) (α r)
      ∙ rw (h.said r z k, q, lt-ltb 1 (suc (suc x)) (omega arith)) (known-mint (mint_at w r) (h.mint r k (omega arith)))

  -- the final mint of a row's account
  pub final-row : (r : ℕ) → r < n → lookup (final t) (α r) ≡ cond (ltb 1 (state_at w r)) (some (mint_at w r)) none
  unfolding known
  final-row r k =
      by_cases
      (ℕ_discrete r 0)
      (λ z.
      final-lookup (settled-distinct s) (α r)
      ∙ rw (le-ltb 1 (state_at w r) (omega (arith, ap (λ (q : ℕ). state_at w q) z ∙ h.first)), ap α z ∙ p.zero_row, zero-lacks s))
      (λ z. by_state r (omega arith) k (state_at w r) refl)

  -- a row whose account has a mint has it
  pub mint-of : {k : Key} (r : ℕ) → r < n → Has (α r) k t → k ≢ zero_key → (1 < state_at w r) × (mint_at w r ≡ k)
  mint-of {k} r l i z = go (ltb 1 (state_at w r)) refl (sym (final-row r l) ∙ has-lookup (gives-final (settled-distinct s) i z))
    where
      go : (b : Bool) → ltb 1 (state_at w r) ≡ b → cond b (some (mint_at w r)) none ≡ some k → (1 < state_at w r) × (mint_at w r ≡ k)
      go true q m = (ltb-true 1 (state_at w r) q, some-injective _ _ m)
      go false q m = absurd (none-ne-some k m)

  -- row 0 has none
  pub positive : (r : ℕ) → state_at w r ≢ 1 → 0 < r
  positive r o = by_cases (ℕ_discrete r 0) (λ z. absurd (o (ap (λ (q : ℕ). state_at w q) z ∙ h.first))) (λ z. omega arith)

  row_has : (r : ℕ) → r < n → 1 < state_at w r → Has (α r) (mint_at w r) t
  unfolding state_says
  row_has r k o = lookup-has t (h.said r (positive r (λ q. absurd (omega arith))) k ∙ go (state_at w r) o)
    where
      go : (x : ℕ) → 1 < x → state_says x (mint_at w r) ≡ some (mint_at w r)
      go zero l = absurd (omega arith)
      go (suc zero) l = absurd (omega arith)
      go (suc (suc x)) l = refl

  -- rows that differ are accounts with different mints, and the other way round
  pub rows-differ : (a b : ℕ) → a < n → b < n → differ_at w a b ≡ true → Differ t (α a) (α b) × Differ t (α b) (α a)
  unfolding differ_at
  rows-differ a b k l q = go (ltb 1 (state_at w a)) (ltb 1 (state_at w b)) (same (mint_at w a) (mint_at w b)) refl refl refl q
    where
      go : (x y z : Bool) → ltb 1 (state_at w a) ≡ x → ltb 1 (state_at w b) ≡ y → same (mint_at w a) (mint_at w b) ≡ z → cond x (cond y (not z) false) false ≡ true → Differ t (α a) (α b) × Differ t (α b) (α a)
      go true true false x y z m =
          let i = ltb-true 1 (state_at w a) x in
          let j = ltb-true 1 (state_at w b) y in
          let d : mint_at w a ≢ mint_at w b = λ f. false≢true (sym z ∙ same-eq f) in (
            record { m = mint_at w a; k = mint_at w b; here = row_has a k i; there = row_has b l j; mint = h.mint b l j; differ = d },
            record { m = mint_at w b; k = mint_at w a; here = row_has b l j; there = row_has a k i; mint = h.mint a k i; differ = λ f. d (sym f) },
          )
      go true true true x y z m = absurd (false≢true m)
      go true false c x y z m = absurd (false≢true m)
      go false b c x y z m = absurd (false≢true m)

  pub differ-rows : {m k : Key} (a b : ℕ) → a < n → b < n → Has (α a) m t → m ≢ zero_key → Has (α b) k t → k ≢ zero_key → m ≢ k → differ_at w a b ≡ true
  unfolding differ_at
  differ-rows a b x y i z j v d =
      let f = mint-of a x i z in
      let g = mint-of b y j v in
      rw (lt-ltb 1 (state_at w a) f.0, lt-ltb 1 (state_at w b) g.0, same-ne (λ q. d (sym f.1 ∙ q ∙ g.1)))

-- row r of n is filled in
pub record FilledIn (n : ℕ) (w : List Working) (r : ℕ) : Type 0 where
  pub row : r < n
  pub state : state_at w r ≡ 3

module _ {n : ℕ} {α : ℕ → Key} {e : Evidence} {ps : Transfers} {t : Table} (p : RowsApart n α) (s : Settled e ps t) {w : List Working} (h : Held n α (recorded e) w t) where
  pub above : {r : ℕ} → FilledIn n w r → 0 < r
  above {r} f = positive p s h.now r (λ q. absurd (omega (arith, f.state)))

  pub free : {r : ℕ} → FilledIn n w r → Free e (α r)
  unfolding was
  free {r} f = lacks-free (lookup-lacks (recorded e) (h.then.wrote r (above f) f.row ∙ rw f.state))

  pub account : {r : ℕ} → FilledIn n w r → α r ≢ zero_key
  account {r} f = not-zero p r (above f) f.row

  -- the row of an account with nothing recorded that has a mint
  pub filled : {k : Key} (r : ℕ) → r < n → Free e (α r) → Has (α r) k t → k ≢ zero_key → FilledIn n w r
  unfolding was
  filled r l f i z = record { row = l; state = go (state_at w r) refl (mint-of p s h.now r l i z).0 }
    where
      go : (x : ℕ) → state_at w r ≡ x → 1 < state_at w r → state_at w r ≡ 3
      go zero q o = absurd (omega arith)
      go (suc zero) q o = absurd (omega arith)
      go (suc (suc zero)) q o =
          let y = positive p s h.now r (λ v. absurd (omega arith)) in
          absurd (has-not-lacks {m = mint_at w r} (lookup-has (recorded e) (h.then.wrote r y l ∙ rw q)) (free-lacks f))
      go (suc (suc (suc x))) q o = omega (arith, h.now.low r l)

  -- an account in doubt is filled in
  pub doubtful-filled : (r : ℕ) → r < n → Doubtful e ps t (α r) → FilledIn n w r
  doubtful-filled r l d = let k = complete s (doubtful-doubt s d).chain in filled r l (doubtful-free d) k.1 k.2

-- the transfers by the row numbers of their ends
pub pair-in : (α : ℕ → Key) (ts : List Transfer) (i c : ℕ) → i < c → Memᴰ (α (from_at ts i), α (to_at ts i)) (pairs_to α ts c)
unfolding pairs_to
pair-in α ts i zero h = absurd (omega arith)
pair-in α ts i (suc c) h =
    by_cases
    (ℕ_discrete i c)
    (λ q. rw q (Memᴰ.append_right (pairs_to α ts c) (Memᴰ.head refl)))
    (λ q. Memᴰ.append_left ((α (from_at ts c), α (to_at ts c)) ∷ []) (pair-in α ts i c (omega arith)))

pub in_pairs : (α : ℕ → Key) (ts : List Transfer) (c : ℕ) {x : Row} → Memᴰ x (pairs_to α ts c) → (i : ℕ) × (i < c) × (x ≡ (α (from_at ts i), α (to_at ts i)))
unfolding pairs_to
in_pairs α ts zero m = absurd (Memᴰ.not-nil m)
in_pairs α ts (suc c) m =
    ⊎_elim
    (λ k. let r = in_pairs α ts c k in (r.0, omega (arith, r.1), r.2))
    (λ k. (c, omega arith, Memᴰ.eq_of_singleton k))
    (Memᴰ.append_cases (pairs_to α ts c) m)
