-- Chains: the rows that passes add are those that chains reach (T3, T4), since a row is added by a transfer from one that is there, and a last pass that adds
-- nothing has followed all. Assumes nothing.
use mathlib.Core.Path.{◌≡◌, sym}
use mathlib.Core.Logic.{◌≢◌, ◌⊎◌, inl, inr, ◌↔◌, ⊎_elim, by_cases}
use Rattle.wire.proofs.Order.{key?}
use Rattle.ids.specs.Keys.{Key, zero_key}
use Rattle.evidence.specs.Table.{Table, add, Has, Lacks}
use Rattle.evidence.proofs.Table.{has-add, has-not-lacks, has-or-lacks, add-cases}
use Rattle.evidence.specs.Evidence.{Evidence, recorded, Free, One, Clash}
use Rattle.evidence.proofs.Recording.{one_has, has-one-recorded, clash-has, has-clash, free-lacks, lacks-free, one_not_zero}
use Rattle.evidence.specs.Passes.{Transfers, Joined}
use Rattle.evidence.proofs.Passes.{Hands, Grown, grown, grow}
use Rattle.evidence.proofs.Infer.{Settled}
use Rattle.evidence.specs.Chains.{Chain, along, start}

-- a table that passes can have made
pub record Sound (e : Evidence) (ps : Transfers) (t : Table) : Type 0 where
  pub kept : {a m : Key} → Has a m (recorded e) → Has a m t
  pub chain : {a m : Key} → Has a m t → m ≢ zero_key → Chain e ps m a
  pub clear : {a : Key} → Has a zero_key t → Has a zero_key (recorded e)

module _ {e : Evidence} {ps : Transfers} where
  pub chain-mint : {m a : Key} → Chain e ps m a → m ≢ zero_key
  chain-mint (start o) = o.says.mint
  chain-mint (along c j f n) = chain-mint c

  pub chain-account : {a m : Key} → Chain e ps m a → a ≢ zero_key
  chain-account (start o) = o.says.account
  chain-account (along c j f n) = n

  -- a chain starts at an account with one recorded mint
  pub chain-start : {m a : Key} → Chain e ps m a → (b : Key) × One e b m
  chain-start (start {a} o) = (a, o)
  chain-start (along c j f n) = chain-start c

  sound-start : Sound e ps (recorded e)
  sound-start = record { kept = λ h. h; chain = λ h n. start (has-one-recorded h n); clear = λ h. h }

  sound-grow : {t : Table} {a b m : Key} → Sound e ps t → Joined ps a b → Hands a b m t → Sound e ps (add t b m)
  sound-grow {t} {a} {b} {m} s j i = record { kept = λ h. has-add b m (s.kept h); chain = λ h n. chain n (add-cases i.fresh h); clear = λ h. clear (add-cases i.fresh h) }
    where
      free : Free e b
      free = go (has-or-lacks (recorded e))
        where
          go : ((k : Key) × Has b k (recorded e)) ⊎ Lacks b (recorded e) → Free e b
          go (inl h) = absurd (has-not-lacks (s.kept h.1) i.fresh)
          go (inr l) = lacks-free l

      new : Chain e ps m b
      new = along (s.chain i.from i.mint) j free i.target

      chain : {c k : Key} → k ≢ zero_key → Has c k t ⊎ ((c ≡ b) × (k ≡ m)) → Chain e ps k c
      chain n (inl h) = s.chain h n
      chain n (inr q) = rw (q.0, q.1) new

      clear : {c : Key} → Has c zero_key t ⊎ ((c ≡ b) × (zero_key ≡ m)) → Has c zero_key (recorded e)
      clear (inl h) = s.clear h
      clear (inr q) = absurd (i.mint (sym q.1))

  grown-sound : {u t : Table} → Sound e ps t → Grown ps u t → Sound e ps u
  grown-sound s grown = s
  grown-sound s (grow j i g) = grown-sound (sound-grow s j i) g

  -- T3. Recorded rows are kept, every other row has a chain, and no row becomes ambiguous.
  pub settled-sound : {t : Table} → Settled e ps t → Sound e ps t
  settled-sound s = grown-sound sound-start s.grows

  -- T4. Where no mint is left to hand on, every account that a chain reaches has a mint.
  pub complete : {m a : Key} {t : Table} → Settled e ps t → Chain e ps m a → (k : Key) × Has a k t × (k ≢ zero_key)
  complete {m} s (start o) = (m, (settled-sound s).kept (one_has o), one_not_zero o)
  complete {t} s (along {a} {b} c j f n) = go (complete s c) (has-or-lacks t)
    where
      go : ((k : Key) × Has a k t × (k ≢ zero_key)) → ((k : Key) × Has b k t) ⊎ Lacks b t → (k : Key) × Has b k t × (k ≢ zero_key)
      go (i, h, z) (inl (k, g)) = (k, g, λ q. has-not-lacks ((settled-sound s).clear (rw q at g)) (free-lacks f))
      go (i, h, z) (inr l) = absurd (s.done.closed j (record { from = h; mint = z; source = chain-account c; target = n; fresh = l }))

  -- a mint in the row of an account with none recorded was handed on
  pub filled-chain : {a m : Key} {t : Table} → Settled e ps t → Free e a → Has a m t → Chain e ps m a
  filled-chain s f h = (settled-sound s).chain h (λ q. has-not-lacks ((settled-sound s).clear (rw q at h)) (free-lacks f))

  -- an account has a row, and needs room, exactly when two pieces of evidence for it differ or a chain reaches it
  pub rowed : {a : Key} {t : Table} → Settled e ps t → ((m : Key) × Has a m t) ↔ (Clash e a ⊎ ((m : Key) × Chain e ps m a))
  rowed {a} {t} s = (λ r. to r, λ w. ⊎_elim (λ c. (zero_key, (settled-sound s).kept (clash-has c))) (λ c. let k = complete s c.1 in (k.0, k.1)) w)
    where
      to : (m : Key) × Has a m t → Clash e a ⊎ ((m : Key) × Chain e ps m a)
      to (m, h) = by_cases (key? m zero_key) (λ z. inl (has-clash ((settled-sound s).clear (rw z at h)))) (λ n. inr (m, (settled-sound s).chain h n))
