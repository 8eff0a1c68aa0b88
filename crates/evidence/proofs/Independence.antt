-- Two inputs with the same evidence and the same plain transfers, in any order (T5): what is recorded and which chains there are is said by members, and the
-- table follows from these. Assumes nothing.
use mathlib.Core.Path.{◌≡◌}
use mathlib.Core.Logic.{◌≢◌, ◌⊎◌, inl, inr, ⊎_elim, by_cases}
use native.Mathlib.Omega.{arith}
use lib.ListN.{length}
use Rattle.wire.proofs.Order.{key?}
use Rattle.wire.specs.Members.{SameMembers}
use Rattle.wire.proofs.Members.{same-sym}
use Rattle.ids.specs.Keys.{Key, zero_key}
use Rattle.evidence.specs.Table.{Table, accounts, lookup, Has}
use Rattle.evidence.specs.Evidence.{Evidence, recorded, Free, One}
use Rattle.evidence.proofs.Evidence.{Agree, free-map, one_map, clash-map}
use Rattle.evidence.proofs.Recording.{recorded-lookup, clash-has, has-clash}
use Rattle.evidence.proofs.Distinct.{Covered, covered-length}
use Rattle.evidence.specs.Passes.{Transfers, forth, back, Joined, joined}
use Rattle.evidence.proofs.Infer.{Settled, settled-distinct}
use Rattle.evidence.specs.Chains.{Chain, start, along}
use Rattle.evidence.proofs.Chains.{settled-sound, complete, chain-account}
use Rattle.evidence.proofs.Sorted.{same-accounts}
use Rattle.evidence.specs.Final.{final}
use Rattle.evidence.proofs.Final.{final-sorted, final-gives, gives-final}
use Rattle.evidence.specs.Independence.{Apart, Unjoined}

-- the same members say the same of every account
pub same-agree : {e e' : Evidence} → SameMembers e e' → (a : Key) → Agree e e' a
same-agree s a =
    record {
      to = λ i. record { piece = s.to i.piece; account = i.account; mint = i.mint };
      from = λ i. record { piece = s.from i.piece; account = i.account; mint = i.mint };
    }

-- T1. What is recorded of an account depends on the members of the evidence alone.
pub same-recorded : {e e' : Evidence} → SameMembers e e' → (a : Key) → lookup (recorded e) a ≡ lookup (recorded e') a
same-recorded s a = recorded-lookup (same-agree s a)

pub same-joined : {ps ps' : Transfers} {a b : Key} → SameMembers ps ps' → Joined ps a b → Joined ps' a b
same-joined s (joined x i) = joined x (s.to i)

-- and the same chains run
pub same-chain : {e e' : Evidence} {ps ps' : Transfers} {m a : Key} → SameMembers e e' → SameMembers ps ps' → Chain e ps m a → Chain e' ps' m a
same-chain se sp (start {a} o) = start (one_map (same-agree se a) o)
same-chain se sp (along {b} c j f n) = along (same-chain se sp c) (same-joined sp j) (free-map (same-agree se b) f) n

pub joined-flip : {ps : Transfers} {a b : Key} → Joined ps a b → Joined ps b a
joined-flip (joined (forth q) i) = joined (back q) i
joined-flip (joined (back q) i) = joined (forth q) i

module _ {e : Evidence} {ps : Transfers} where
  -- a chain ends at its start or at an account with no recorded mint
  pub chain-end : {a m : Key} → Chain e ps m a → One e a m ⊎ Free e a
  chain-end (start o) = inl o
  chain-end (along c j f n) = inr f

  -- a recorded account is reached by its own mint alone
  pub one-chain : {a m k : Key} → One e a m → Chain e ps k a → k ≡ m
  one-chain o c = ⊎_elim (λ p. o.only p.says) (λ f. absurd (f.silent o.says)) (chain-end c)

  unjoined-agree : {k a m : Key} → Unjoined e ps → Chain e ps m a → Chain e ps k a → m ≡ k
  unjoined-agree h c (start o) = one-chain o c
  unjoined-agree {k} {a} {m} h c (along {a = b} d j f n) = go (chain-end d) (λ x. unjoined-agree h x d)
    where
      go : One e b k ⊎ Free e b → (Chain e ps m b → m ≡ k) → m ≡ k
      go (inl o) below = h.unjoined c f (joined-flip j) o
      go (inr g) below = below (along c (joined-flip j) g (chain-account d))

  -- the two premises say the same
  pub unjoined-apart : Unjoined e ps → Apart e ps
  unjoined-apart h = record { apart = λ f c d. unjoined-agree h c d }

  pub apart-unjoined : Apart e ps → Unjoined e ps
  apart-unjoined h = record { unjoined = λ c f j o. h.apart f c (along (start o) (joined-flip j) f (chain-account c)) }

-- T5, one way: what one of two settled tables over the same members says, the other says
module _ {e e' : Evidence} {ps ps' : Transfers} {t t' : Table} (se : SameMembers e e') (sp : SameMembers ps ps') (s : Settled e ps t) (s' : Settled e' ps' t') where
  -- an account with a mint in one has a mint in the other
  pub mint-there : {a m : Key} → Has a m t → m ≢ zero_key → (k : Key) × Has a k t' × (k ≢ zero_key)
  mint-there h n = complete s' (same-chain se sp ((settled-sound s).chain h n))

  -- an ambiguous account of one is ambiguous in the other
  pub clash-there : {a : Key} → Has a zero_key t → Has a zero_key t'
  clash-there {a} h = (settled-sound s').kept (clash-has (clash-map (same-agree se a) (has-clash ((settled-sound s).clear h))))

  -- every account of one is an account of the other
  pub covered-there : Covered t t'
  covered-there = record { cover = λ h. cover h }
    where
      cover : {a m : Key} → Has a m t → (k : Key) × Has a k t'
      cover {m} h =
          by_cases
          (key? m zero_key)
          (λ z. (zero_key, clash-there (rw z at h)))
          (λ n. let k = mint-there h n in (k.0, k.1))

  pub final-there : Covered (final t) (final t')
  final-there = record { cover = λ h. cover h }
    where
      cover : {a m : Key} → Has a m (final t) → (k : Key) × Has a k (final t')
      cover h =
          let g = final-gives (settled-distinct s) h in
          let k = mint-there g.0 g.1 in
          (k.0, gives-final (settled-distinct s') k.1 k.2)

-- T5. The same members in any order: the same accounts, and as many rows.
module _ {e e' : Evidence} {ps ps' : Transfers} {t t' : Table} (se : SameMembers e e') (sp : SameMembers ps ps') (s : Settled e ps t) (s' : Settled e' ps' t') where
  pub same-room : length t ≡ length t'
  same-room =
      omega (
        arith,
        covered-length (settled-distinct s) (covered-there se sp s s'),
        covered-length (settled-distinct s') (covered-there (same-sym se) (same-sym sp) s' s),
      )

  pub same-final-accounts : accounts (final t) ≡ accounts (final t')
  same-final-accounts =
      same-accounts
      (final-sorted (settled-distinct s))
      (final-sorted (settled-distinct s'))
      (final-there se sp s s')
      (final-there (same-sym se) (same-sym sp) s' s)
