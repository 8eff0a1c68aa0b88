-- How sure a mint is: the mark of an account, by the chains that reach it. Assumes nothing.
use Rattle.std.specs.Prelude.{◌≢◌, Bool, true, false, cond, not, ◌||◌, List, [], ◌∷◌, ◌++◌, map, ℕ, length}
use Rattle.std.proofs.Math.Option.{Option, none, some}
use Rattle.wire.specs.Same.{same}
use Rattle.ids.specs.Keys.{Key}
use Rattle.evidence.specs.Table.{Table, accounts, lookup}
use Rattle.evidence.specs.Evidence.{Evidence, recorded, Free, One}
use Rattle.evidence.specs.Passes.{Transfers}
use Rattle.evidence.specs.Run.{TableAfter}
use Rattle.evidence.specs.Infer.{infer}
use Rattle.evidence.specs.Chains.{Chain}
use Rattle.evidence.specs.Final.{clean}

-- chains reach the account from two accounts with different recorded mints
pub record Doubt (e : Evidence) (ps : Transfers) (a : Key) : Type 0 where
  pub m : Key
  pub k : Key
  pub chain : Chain e ps m a
  pub other : Chain e ps k a
  pub differ : m ≢ k

-- the mark of an account that has a mint: 0 recorded, 2 filled in and in doubt, 1 any other filled in
pub data Mark (e : Evidence) (ps : Transfers) (a : Key) : ℕ → Type 0 where
  mark_recorded : {m : Key} → One e a m → Mark e ps a 0
  mark_sure : {m : Key} → Free e a → Chain e ps m a → ¬ Doubt e ps a → Mark e ps a 1
  mark_doubt : Free e a → Doubt e ps a → Mark e ps a 2

-- The same, computed.

-- the accounts that evidence and transfers name
abbrev pub named : Evidence → Transfers → List Key
named e ps = accounts e ++ (accounts ps ++ map (λ p. p.1) ps)

-- mint m for every account that the evidence names with a mint
unfoldable pub against : Key → Evidence → Evidence
against m e = map (λ x. (x.0, m)) (clean e)

-- the evidence with all recorded mints but m made ambiguous, so that no chains but those of m are left
abbrev pub only : Key → Evidence → Evidence
only m e = e ++ against m e

-- whether a search found that mint
unfoldable pub is_mint : Key → Option Key → Bool
is_mint m none = false
is_mint m (some k) = same k m

-- whether the table that passes made gives the account that mint
unfoldable pub gives : Key → Key → Option TableAfter → Bool
gives m a none = false
gives m a (some t) = is_mint m (lookup t.0 a)

-- whether a chain with the recorded mint m reaches the account: passes over `only` follow all of them
unfoldable pub reaches : Evidence → Transfers → Key → Key → Bool
reaches e ps m a = gives m a (infer (length (named e ps)) (only m e) ps)

-- those mints of a table's rows whose chains reach the account
unfoldable pub reaching : Evidence → Transfers → Key → Table → List Key
reaching e ps a [] = []
reaching e ps a (r ∷ t) = let rest = reaching e ps a t in cond (reaches e ps r.1 a) (r.1 ∷ rest) rest

-- whether a list has another mint than m
unfoldable pub another : Key → List Key → Bool
another m [] = false
another m (k ∷ l) = not (same m k) || another m l

-- whether a list has two different mints
unfoldable pub several : List Key → Bool
several [] = false
several (m ∷ l) = another m l

-- whether a search found nothing
unfoldable pub absent : Option Key → Bool
absent none = true
absent (some m) = false

-- the mark of an account that has a mint; chains start at the recorded rows that are not ambiguous
unfoldable pub mark_of : Evidence → Transfers → Key → ℕ
mark_of e ps a = cond (absent (lookup (recorded e) a)) (cond (several (reaching e ps a (clean (recorded e)))) 2 1) 0
