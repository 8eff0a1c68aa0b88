-- Doubt as code can follow it, over the mints that the passes settle on: it begins where a transfer joins a filled-in account to another mint, and runs along
-- transfers between filled-in accounts. It is the doubt of the chains, since the mint of a chain and the settled mints part somewhere on its way. Assumes
-- nothing.
use mathlib.Core.Path.{◌≡◌, sym, ◌∙◌}
use mathlib.Core.Logic.{◌≢◌, ◌⊎◌, inl, inr, by_cases}
use Rattle.wire.proofs.Order.{key?}
use Rattle.ids.specs.Keys.{Key, zero_key}
use Rattle.evidence.specs.Table.{Table, Has}
use Rattle.evidence.proofs.Table.{has_one}
use Rattle.evidence.specs.Evidence.{Evidence, Free, One}
use Rattle.evidence.proofs.Recording.{one_has}
use Rattle.evidence.specs.Passes.{Transfers, Joined}
use Rattle.evidence.proofs.Infer.{Settled}
use Rattle.evidence.specs.Chains.{Chain, start, along}
use Rattle.evidence.proofs.Chains.{settled-sound, complete, filled-chain}
use Rattle.evidence.proofs.Independence.{joined-flip, chain-end}
use Rattle.evidence.specs.Marks.{Doubt, Mark, mark_sure, mark_doubt}

-- the table gives both accounts a mint, and different ones
pub record Differ (t : Table) (a b : Key) : Type 0 where
  pub m : Key
  pub k : Key
  pub here : Has a m t
  pub there : Has b k t
  pub mint : k ≢ zero_key
  pub differ : m ≢ k

pub data Doubtful (e : Evidence) (ps : Transfers) (t : Table) : Key → Type 0 where
  begins : {a b : Key} → Free e a → a ≢ zero_key → Joined ps a b → Differ t a b → Doubtful e ps t a
  spreads : {a b : Key} → Doubtful e ps t a → Joined ps a b → Free e b → b ≢ zero_key → Doubtful e ps t b

pub doubtful-free : {e : Evidence} {ps : Transfers} {t : Table} {a : Key} → Doubtful e ps t a → Free e a
doubtful-free (begins f n j d) = f
doubtful-free (spreads w j f n) = f

module _ {e : Evidence} {ps : Transfers} {t : Table} (s : Settled e ps t) where
  pub doubtful-doubt : {a : Key} → Doubtful e ps t a → Doubt e ps a
  doubtful-doubt (begins f n j d) =
      record {
        m = d.m;
        k = d.k;
        chain = filled-chain s f d.here;
        other = along ((settled-sound s).chain d.there d.mint) (joined-flip j) f n;
        differ = d.differ;
      }
  doubtful-doubt (spreads w j f n) =
      let d = doubtful-doubt w in
      record { m = d.m; k = d.k; chain = along d.chain j f n; other = along d.other j f n; differ = d.differ }

  -- an account that a chain with another mint than its own reaches
  stray : {k a x : Key} → Chain e ps k a → Free e a → Has a x t → k ≢ x → Doubtful e ps t a
  stray (start o) f h d = absurd (f.silent o.says)
  stray {k} {a} {x} (along {a = b} c j f n) _ h d = go (complete s c) (chain-end c) (λ y g i q. stray c g i q)
    where
      go : ((y : Key) × Has b y t × (y ≢ zero_key)) → One e b k ⊎ Free e b → ((y : Key) → Free e b → Has b y t → k ≢ y → Doubtful e ps t b) → Doubtful e ps t a
      go (y, i, z) g below = by_cases (key? x y) (λ q. same q g) (λ q. begins f n (joined-flip j) (record { m = x; k = y; here = h; there = i; mint = z; differ = q }))
        where
          same : x ≡ y → One e b k ⊎ Free e b → Doubtful e ps t a
          same q (inl o) = absurd (d (has_one ((settled-sound s).kept (one_has o)) i ∙ sym q))
          same q (inr g) = spreads (below y g i (λ p. d (p ∙ sym q))) j f n

  pub doubt-doubtful : {a : Key} → Free e a → Doubt e ps a → Doubtful e ps t a
  doubt-doubtful {a} f d = go (complete s d.chain)
    where
      go : (x : Key) × Has a x t × (x ≢ zero_key) → Doubtful e ps t a
      go (x, h, n) = by_cases (key? d.m x) (λ q. stray d.other f h (λ p. d.differ (q ∙ sym p))) (λ q. stray d.chain f h q)

  -- so the marks follow it
  pub doubtful-mark : {a : Key} → Free e a → Doubtful e ps t a → Mark e ps a 2
  doubtful-mark f w = mark_doubt f (doubtful-doubt w)

  pub sure-mark : {a m : Key} → Free e a → Has a m t → ¬ Doubtful e ps t a → Mark e ps a 1
  sure-mark f h n = mark_sure f (filled-chain s f h) (λ d. n (doubt-doubtful f d))
