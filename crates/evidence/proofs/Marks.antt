-- The mark that is computed is the mark that the chains give, because the mints that it compares are all that start a chain; and it is the same for the same
-- evidence, because the chains are. Assumes nothing.
use mathlib.Core.Path.{◌≡◌, refl, sym, ◌∙◌, ap}
use mathlib.Core.Logic.{◌≢◌, ◌⊎◌, inl, inr, ⊎_elim, ◌↔◌, by_cases}
use mathlib.Core.Bool.{Bool, true, false, cond}
use mathlib.Core.Option.{Option}
use mathlib.Core.List.Memᴰ
use mathlib.Core.List.{List, [], ◌∷◌, Memᴰ}
use Prim.Native.Nat.{ℕ}
use native.Mathlib.Omega.{arith}
use Rattle.wire.specs.Members.{SameMembers}
use Rattle.wire.proofs.Members.{same-sym}
use Rattle.wire.proofs.Same.{same-eq, same-ne}
use Rattle.wire.proofs.Order.{key?}
use Rattle.ids.specs.Keys.{Key}
use Rattle.evidence.specs.Table.{Row, Table}
use Rattle.evidence.proofs.Table.{Found, at, nowhere, found, has-not-lacks, row-of-has}
use Rattle.evidence.specs.Evidence.{Evidence, recorded, Free, One}
use Rattle.evidence.proofs.Evidence.{free-map, one_map}
use Rattle.evidence.proofs.Recording.{free-lacks, lacks-free, one_has, one_not_zero}
use Rattle.evidence.specs.Passes.{Transfers}
use Rattle.evidence.specs.Chains.{Chain}
use Rattle.evidence.proofs.Chains.{chain-start}
use Rattle.evidence.specs.Final.{clean}
use Rattle.evidence.proofs.Final.{cleans, cleans-mem, mem-cleans}
use Rattle.evidence.proofs.Independence.{same-agree, same-chain, chain-end, one-chain}
use Rattle.evidence.proofs.Reach.{reaches-chain, chain-reaches}
use Rattle.evidence.specs.Marks.{Doubt, Mark, mark_recorded, mark_sure, mark_doubt, reaches, reaching, another, several, absent, mark_of}

module _ {e : Evidence} {ps : Transfers} {a : Key} where
  pub mark-unique : {n k : ℕ} → Mark e ps a n → Mark e ps a k → n ≡ k
  mark-unique (mark_recorded o) (mark_recorded p) = refl
  mark-unique (mark_recorded o) (mark_sure f c n) = absurd (f.silent o.says)
  mark-unique (mark_recorded o) (mark_doubt f d) = absurd (f.silent o.says)
  mark-unique (mark_sure f c n) (mark_recorded o) = absurd (f.silent o.says)
  mark-unique (mark_sure f c n) (mark_sure _ _ _) = refl
  mark-unique (mark_sure f c n) (mark_doubt _ d) = absurd (n d)
  mark-unique (mark_doubt f d) (mark_recorded o) = absurd (f.silent o.says)
  mark-unique (mark_doubt f d) (mark_sure _ _ n) = absurd (n d)
  mark-unique (mark_doubt f d) (mark_doubt _ _) = refl

  -- mark 0 says that one mint is recorded
  pub mark-zero : {n : ℕ} → Mark e ps a n → n ≡ 0 → (m : Key) × One e a m
  mark-zero (mark_recorded {m} o) q = (m, o)
  mark-zero (mark_sure f c n) q = absurd (omega arith)
  mark-zero (mark_doubt f d) q = absurd (omega arith)

  -- marks 1 and 2 that nothing is
  pub mark-filled : {n : ℕ} → Mark e ps a n → ((n ≡ 1) ⊎ (n ≡ 2)) ↔ Free e a
  mark-filled (mark_recorded o) = (λ q. absurd (⊎_elim (λ l. omega arith) (λ r. omega arith) q), λ f. absurd (f.silent o.says))
  mark-filled (mark_sure f c n) = (λ q. f, λ g. inl refl)
  mark-filled (mark_doubt f d) = (λ q. f, λ g. inr refl)

  -- mark 2 that chains with two different mints reach the account
  pub mark-two : {n : ℕ} → Mark e ps a n → (n ≡ 2) ↔ Doubt e ps a
  mark-two (mark_recorded o) = (λ q. absurd (omega arith), λ d. absurd (d.differ (one-chain o d.chain ∙ sym (one-chain o d.other))))
  mark-two (mark_sure f c n) = (λ q. absurd (omega arith), λ d. absurd (n d))
  mark-two (mark_doubt f d) = (λ q. d, λ _. refl)

-- the same members say the same of doubt, and so of every mark, whatever the chains join
pub same-doubt : {e e' : Evidence} {ps ps' : Transfers} {a : Key} → SameMembers e e' → SameMembers ps ps' → Doubt e ps a → Doubt e' ps' a
same-doubt se sp d = record { m = d.m; k = d.k; chain = same-chain se sp d.chain; other = same-chain se sp d.other; differ = d.differ }

pub same-mark : {e e' : Evidence} {ps ps' : Transfers} {a : Key} {n : ℕ} → SameMembers e e' → SameMembers ps ps' → Mark e ps a n → Mark e' ps' a n
same-mark {a} se sp (mark_recorded o) = mark_recorded (one_map (same-agree se a) o)
same-mark {a} se sp (mark_sure f c n) = mark_sure (free-map (same-agree se a) f) (same-chain se sp c) (λ d. n (same-doubt (same-sym se) (same-sym sp) d))
same-mark {a} se sp (mark_doubt f d) = mark_doubt (free-map (same-agree se a) f) (same-doubt se sp d)

-- what the test of a list of mints says
data Several (l : List Key) : Bool → Type 0 where
  alike : ((m k : Key) → Memᴰ m l → Memᴰ k l → m ≡ k) → Several l false
  two : {m k : Key} → Memᴰ m l → Memᴰ k l → m ≢ k → Several l true

data Another (m : Key) (l : List Key) : Bool → Type 0 where
  no_other : ((k : Key) → Memᴰ k l → m ≡ k) → Another m l false
  other : {k : Key} → Memᴰ k l → m ≢ k → Another m l true

another-view : (m : Key) (l : List Key) → Another m l (another m l)
unfolding another
another-view m [] = no_other (λ k i. absurd (Memᴰ.not-nil i))
another-view m (k ∷ l) = by_cases (key? m k) (λ q. rw (same-eq q) (next q (another-view m l))) (λ n. rw (same-ne n) (other (Memᴰ.head refl) n))
  where
    later : m ≡ k → ((j : Key) → Memᴰ j l → m ≡ j) → (j : Key) → Memᴰ j (k ∷ l) → m ≡ j
    later q f j (Memᴰ.head e) = q ∙ sym e
    later q f j (Memᴰ.tail i) = f j i

    next : {b : Bool} → m ≡ k → Another m l b → Another m (k ∷ l) b
    next q (no_other f) = no_other (λ j i. later q f j i)
    next q (other i n) = other (Memᴰ.tail i) n

several-view : (l : List Key) → Several l (several l)
unfolding several
several-view [] = alike (λ m k i j. absurd (Memᴰ.not-nil i))
several-view (m ∷ l) = go (another-view m l)
  where
    first : ((k : Key) → Memᴰ k l → m ≡ k) → (k : Key) → Memᴰ k (m ∷ l) → m ≡ k
    first f k (Memᴰ.head e) = sym e
    first f k (Memᴰ.tail i) = f k i

    go : {b : Bool} → Another m l b → Several (m ∷ l) b
    go (no_other f) = alike (λ j k x y. sym (first f j x) ∙ first f k y)
    go (other i n) = two (Memᴰ.head refl) (Memᴰ.tail i) n

module _ (e : Evidence) (ps : Transfers) (a : Key) where
  -- a mint that is found to reach the account is that of a row, and reaches it
  reaching-mem : {m : Key} (t : Table) → Memᴰ m (reaching e ps a t) → ((b : Key) × Memᴰ (b, m) t) × (reaches e ps m a ≡ true)
  unfolding reaching
  reaching-mem [] i = absurd (Memᴰ.not-nil i)
  reaching-mem {m} (r ∷ t) i = go (reaches e ps r.1 a) refl i (λ j. reaching-mem t j)
    where
      past : ((b : Key) × Memᴰ (b, m) t) × (reaches e ps m a ≡ true) → ((b : Key) × Memᴰ (b, m) (r ∷ t)) × (reaches e ps m a ≡ true)
      past x = ((x.0.0, Memᴰ.tail x.0.1), x.1)

      here : reaches e ps r.1 a ≡ true → Memᴰ m (r.1 ∷ reaching e ps a t) → (Memᴰ m (reaching e ps a t) → ((b : Key) × Memᴰ (b, m) t) × (reaches e ps m a ≡ true)) → ((b : Key) × Memᴰ (b, m) (r ∷ t)) × (reaches e ps m a ≡ true)
      here q (Memᴰ.head f) below = ((r.0, Memᴰ.head (ap (λ (k : Key). (r.0, k)) f)), rw f q)
      here q (Memᴰ.tail j) below = past (below j)

      go : (b : Bool) → reaches e ps r.1 a ≡ b → Memᴰ m (cond b (r.1 ∷ reaching e ps a t) (reaching e ps a t)) → (Memᴰ m (reaching e ps a t) → ((b : Key) × Memᴰ (b, m) t) × (reaches e ps m a ≡ true)) → ((b : Key) × Memᴰ (b, m) (r ∷ t)) × (reaches e ps m a ≡ true)
      go true q j below = here q j below
      go false q j below = past (below j)

  mem-reaching : {b m : Key} (t : Table) → Memᴰ (b, m) t → reaches e ps m a ≡ true → Memᴰ m (reaching e ps a t)
  unfolding reaching
  mem-reaching [] i q = absurd (Memᴰ.not-nil i)
  mem-reaching {m} (r ∷ t) (Memᴰ.head f) q =
      let g : m ≡ r.1 = ap (λ (x : Row). x.1) f in
      rw (← g, q) (Memᴰ.head refl)
  mem-reaching {m} (r ∷ t) (Memᴰ.tail i) q = go (reaches e ps r.1 a) (mem-reaching t i q)
    where
      go : (b : Bool) → Memᴰ m (reaching e ps a t) → Memᴰ m (cond b (r.1 ∷ reaching e ps a t) (reaching e ps a t))
      go true j = Memᴰ.tail j
      go false j = j

  -- the mints that are compared are those of the chains that reach the account
  reached : {m : Key} → Memᴰ m (reaching e ps a (clean (recorded e))) → Chain e ps m a
  reached i =
      let x = reaching-mem (clean (recorded e)) i in
      reaches-chain e ps (cleans-mem (cleans (recorded e)) x.0.1).1 a x.1

  reached-by : {m : Key} → Chain e ps m a → Memᴰ m (reaching e ps a (clean (recorded e)))
  reached-by c =
      let o = chain-start c in
      let v = one_not_zero o.1 in
      mem-reaching (clean (recorded e)) (mem-cleans (cleans (recorded e)) v (row-of-has (one_has o.1))) (chain-reaches e ps v a c)

  -- the mark that is computed is the mark of the chains
  pub mark-right : {m : Key} → Chain e ps m a → Mark e ps a (mark_of e ps a)
  unfolding mark_of absent
  mark-right {m} c = go (found (recorded e)) (several-view (reaching e ps a (clean (recorded e))))
    where
      go : {o : Option Key} {b : Bool} → Found (recorded e) a o → Several (reaching e ps a (clean (recorded e))) b → Mark e ps a (cond (absent o) (cond b 2 1) 0)
      go (at i) _ = ⊎_elim (λ o. mark_recorded o) (λ f. absurd (has-not-lacks i (free-lacks f))) (chain-end c)
      go (nowhere l) (two {m} {k} i j n) = mark_doubt (lacks-free l) (record { m = m; k = k; chain = reached i; other = reached j; differ = n })
      go (nowhere l) (alike f) = mark_sure (lacks-free l) c (λ d. d.differ (f d.m d.k (reached-by d.chain) (reached-by d.other)))
