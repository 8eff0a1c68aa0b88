-- Whether a chain with mint m reaches an account is read off the passes over evidence in which every recorded mint but m is made ambiguous, because the
-- chains of m are all that such evidence leaves. Assumes nothing.
use mathlib.Core.Path.{◌≡◌, refl, sym, ◌∙◌, ap, Σ_path}
use mathlib.Core.Logic.{◌≢◌, ◌⊎◌, inl, inr, ⊎_elim}
use mathlib.Core.Bool.{true, false≢true}
use mathlib.Core.Option.{Option, some}
use mathlib.Core.List.Memᴰ
use mathlib.Core.List.{◌++◌, map, Memᴰ}
use Prim.Native.Nat.{ℕ}
use native.Mathlib.Omega.{arith}
use lib.ListN.{length}
use Rattle.wire.proofs.Same.{same-eq, same_true}
use Rattle.ids.specs.Keys.{Key, zero_key}
use Rattle.evidence.specs.Table.{Row, Table, accounts}
use Rattle.evidence.proofs.Table.{Found, at, nowhere, found, has-lookup}
use Rattle.evidence.specs.Evidence.{Evidence, Says, Free, One}
use Rattle.evidence.specs.Passes.{Transfers}
use Rattle.evidence.specs.Infer.{infer}
use Rattle.evidence.proofs.Infer.{Settled}
use Rattle.evidence.specs.Chains.{Chain, start, along}
use Rattle.evidence.proofs.Chains.{settled-sound, complete}
use Rattle.evidence.specs.Final.{clean}
use Rattle.evidence.proofs.Final.{cleans, cleans-mem, mem-cleans}
use Rattle.evidence.proofs.Bound.{Among, enough}
use Rattle.evidence.specs.Marks.{named, against, only, is_mint, gives, reaches}

module _ (e : Evidence) {m : Key} (v : m ≢ zero_key) where
  says-only : {a k : Key} → Says e a k → Says (only m e) a k
  says-only s = record { piece = Memᴰ.append_left (against m e) s.piece; account = s.account; mint = s.mint }

  -- m is said of every account of which anything is said
  says-against : {a j : Key} → Says e a j → Says (only m e) a m
  unfolding against
  says-against s =
      record {
        piece = Memᴰ.append_right e (Memᴰ.map (λ (x : Row). (x.0, m)) (mem-cleans (cleans e) s.mint s.piece));
        account = s.account;
        mint = v;
      }

  -- an account that stands against m is one that the evidence names with a mint
  against-piece : {a k : Key} → Memᴰ (a, k) (against m e) → (k ≡ m) × ((j : Key) × Memᴰ (a, j) e × (j ≢ zero_key))
  unfolding against
  against-piece {a} i =
      let r = Memᴰ.of_map (λ (x : Row). (x.0, m)) (clean e) i in
      let c = cleans-mem (cleans e) r.1 in
      let q : a ≡ r.0.0 = sym (ap (λ (x : Row). x.0) r.2) in
      (sym (ap (λ (x : Row). x.1) r.2), (r.0.1, Memᴰ.cast (Σ_path q refl) c.0, c.1))

  -- what is said of an account, was said before or is m
  only-says : {a k : Key} → Says (only m e) a k → Says e a k ⊎ ((k ≡ m) × ((j : Key) × Says e a j))
  only-says {a} {k} s = go (Memᴰ.append_cases e s.piece)
    where
      go : Memᴰ (a, k) e ⊎ Memᴰ (a, k) (against m e) → Says e a k ⊎ ((k ≡ m) × ((j : Key) × Says e a j))
      go (inl i) = inl (record { piece = i; account = s.account; mint = s.mint })
      go (inr i) = let r = against-piece i in inr (r.0, (r.1.0, record { piece = r.1.1; account = s.account; mint = r.1.2 }))

  free-only : {a : Key} → Free e a → Free (only m e) a
  free-only f = record { silent = λ s. ⊎_elim (λ i. f.silent i) (λ i. f.silent i.1.1) (only-says s) }

  only-free : {a : Key} → Free (only m e) a → Free e a
  only-free f = record { silent = λ s. f.silent (says-only s) }

  one_only : {a : Key} → One e a m → One (only m e) a m
  one_only o = record { says = says-only o.says; only = λ s. ⊎_elim (λ i. o.only i) (λ i. i.0) (only-says s) }

  -- one mint is left: m
  only-mint : {a k : Key} → One (only m e) a k → k ≡ m
  only-mint o = ⊎_elim (λ s. sym (o.only (says-against s))) (λ i. i.0) (only-says o.says)

  only_one : {a k : Key} → One (only m e) a k → One e a m
  only_one {a} {k} o = record { says = said (only-says o.says); only = λ s. o.only (says-only s) ∙ only-mint o }
    where
      same : {j : Key} → Says e a j → Says e a m
      same s = rw (← (o.only (says-only s) ∙ only-mint o)) s

      said : Says e a k ⊎ ((k ≡ m) × ((j : Key) × Says e a j)) → Says e a m
      said (inl s) = same s
      said (inr i) = same i.1.1

  chain-only : {ps : Transfers} {a : Key} → Chain e ps m a → Chain (only m e) ps m a
  chain-only (start o) = start (one_only o)
  chain-only (along c j f n) = along (chain-only c) j (free-only f) n

  only-chain : {ps : Transfers} {k a : Key} → Chain (only m e) ps k a → Chain e ps m a × (k ≡ m)
  only-chain (start o) = (start (only_one o), only-mint o)
  only-chain (along c j f n) = let r = only-chain c in (along r.0 j (only-free f) n, r.1)

  -- the accounts are those that evidence and transfers name
  only-among : (ps : Transfers) → Among (named e ps) (only m e) ps
  only-among ps = record { evidence = λ i n. evidence (Memᴰ.append_cases e i); source = λ i n. source i; target = λ i n. target i }
    where
      piece : {a k : Key} → Memᴰ (a, k) e → Memᴰ a (named e ps)
      piece i = Memᴰ.append_left (accounts ps ++ map (λ p. p.1) ps) (Memᴰ.map (λ (x : Row). x.0) i)

      evidence : {a k : Key} → Memᴰ (a, k) e ⊎ Memᴰ (a, k) (against m e) → Memᴰ a (named e ps)
      evidence (inl i) = piece i
      evidence (inr i) = piece (against-piece i).1.1

      source : {a b : Key} → Memᴰ (a, b) ps → Memᴰ a (named e ps)
      source i = Memᴰ.append_right (accounts e) (Memᴰ.append_left (map (λ p. p.1) ps) (Memᴰ.map (λ (x : Row). x.0) i))

      target : {a b : Key} → Memᴰ (a, b) ps → Memᴰ b (named e ps)
      target i = Memᴰ.append_right (accounts e) (Memᴰ.append_right (accounts ps) (Memᴰ.map (λ (x : Row). x.1) i))

-- the computed test is the chain
module _ (e : Evidence) (ps : Transfers) {m : Key} (v : m ≢ zero_key) (a : Key) where
  -- what the passes come to
  record Over : Type 0 where
    table : Table
    passes : ℕ
    is : infer (length (named e ps)) (only m e) ps ≡ some (table, passes)
    settled : Settled (only m e) ps table

  over : Over
  over = let r = enough (only-among e v ps) (length (named e ps)) (omega arith) in record { table = r.0; passes = r.1; is = r.2; settled = r.3 }

  pub reaches-chain : reaches e ps m a ≡ true → Chain e ps m a
  unfolding reaches gives is_mint
  reaches-chain q = look (found over.table) (rw over.is at q)
    where
      look : {o : Option Key} → Found over.table a o → is_mint m o ≡ true → Chain e ps m a
      look (at {m = k} i) p = (only-chain e v ((settled-sound over.settled).chain i (λ z. v (sym (same_true k m p) ∙ z)))).0
      look (nowhere _) p = absurd (false≢true p)

  pub chain-reaches : Chain e ps m a → reaches e ps m a ≡ true
  unfolding reaches gives is_mint
  chain-reaches c =
      let k = complete over.settled (chain-only e v c) in
      let q = (only-chain e v ((settled-sound over.settled).chain k.1 k.2)).1 in
      rw (over.is, has-lookup k.1) (same-eq q)
