-- Chains of plain transfers. Assumes nothing.
use Rattle.std.specs.Prelude.{◌≢◌}
use Rattle.ids.specs.Keys.{Key, zero_key}
use Rattle.evidence.specs.Evidence.{Evidence, Free, One}
use Rattle.evidence.specs.Passes.{Transfers, Joined}

-- a chain of plain transfers reaches the account: from an account with the one recorded mint m, through accounts with none
pub data Chain (e : Evidence) (ps : Transfers) (m : Key) : Key → Type 0 where
  start : {a : Key} → One e a m → Chain e ps m a
  along : {a b : Key} → Chain e ps m a → Joined ps a b → Free e b → b ≢ zero_key → Chain e ps m b
