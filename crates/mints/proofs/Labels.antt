-- The labels when every transfer has been walked: a filled-in row has label 0 exactly where its account is in doubt, since what a transfer has joined or put in
-- doubt stays so.
-- Assumes nothing.
use mathlib.Core.Path.{◌≡◌, refl, sym, ap, ◌∙◌, subst}
use mathlib.Core.Logic.{◌≢◌, ◌↔◌, by_cases}
use mathlib.Core.Bool.{Bool, true, false, false≢true}
use mathlib.Core.List.{List, Memᴰ}
use Prim.Native.Nat.{ℕ, zero, suc, ◌≤◌, ◌<◌}
use native.Mathlib.Decide.{ℕ_discrete, dec_lt}
use native.Mathlib.Omega.{arith}
use native.Mathlib.Nat.{zero-add}
use lib.ListN.{get_or}
use borrow.Author.Tests.{eq-eqb, ne_eqb, lt-ltb, le-ltb}
use Rattle.wire.proofs.Tab.{tab-length, tab-at}
use Rattle.ids.specs.Keys.{Key, zero_key}
use Rattle.evidence.specs.Table.{Row, Table, Has}
use Rattle.evidence.specs.Evidence.{Evidence, recorded, Free}
use Rattle.evidence.specs.Passes.{Transfers, forth, back, Joined, joined}
use Rattle.evidence.proofs.Infer.{Settled}
use Rattle.evidence.proofs.Chains.{chain-mint, filled-chain}
use Rattle.evidence.proofs.Independence.{joined-flip}
use Rattle.evidence.proofs.Doubts.{Doubtful, begins, spreads}
use Rattle.mints.specs.declared.row.Row.{Row as Working}
use Rattle.mints.specs.Cells.{state_at}
use Rattle.mints.specs.declared.pass.Transfer.{Transfer}
use Rattle.mints.specs.Pass.{from_at, to_at}
use Rattle.mints.specs.Doubt.{differ_at, own_labels, renamed, relabelled, join_at, suspect_at, meet_at, labels_to}
use Rattle.mints.proofs.Labelling.{renamed-here, renamed-other, meet-differ, meet-join, meet-source, meet-target}
use Rattle.mints.proofs.Holding.{RowsApart}
use Rattle.mints.proofs.Stepped.{Held, pairs_to}
use Rattle.mints.proofs.Filled.{FilledIn, above, free, account, filled, doubtful-filled, rows-differ, differ-rows, pair-in, in_pairs}
use Rattle.mints.proofs.Together.{Together, label_at, moved, stayed, joined-together, suspected-together}

module _ {n : ℕ} {α : ℕ → Key} {e : Evidence} {ps : Transfers} {t : Table} (p : RowsApart n α) (s : Settled e ps t) {w : List Working} (h : Held n α (recorded e) w t) (ts : List Transfer) where
  -- the first i transfers have joined or put in doubt what they can
  record Walked (i : ℕ) (l : List ℕ) : Type 0 where
    together : Together p s h l
    same : (j : ℕ) → j < i → FilledIn n w (from_at ts j) → FilledIn n w (to_at ts j) → get_or l (from_at ts j) 0 ≡ get_or l (to_at ts j) 0
    source : (j : ℕ) → j < i → differ_at w (from_at ts j) (to_at ts j) ≡ true → FilledIn n w (from_at ts j) → get_or l (from_at ts j) 0 ≡ 0
    target : (j : ℕ) → j < i → differ_at w (from_at ts j) (to_at ts j) ≡ true → FilledIn n w (to_at ts j) → get_or l (to_at ts j) 0 ≡ 0

  -- another name for a label keeps that, if 0 stays 0
  zero-stays : (x y : ℕ) → (x ≡ 0 → y ≡ 0) → renamed x y 0 ≡ 0
  zero-stays x y z = by_cases (ℕ_discrete 0 x) (λ q. renamed-here x y 0 q ∙ z (sym q)) (λ q. renamed-other x y 0 q)

  walked_on : {i : ℕ} {l : List ℕ} → Walked i l → (x y : ℕ) → (x ≡ 0 → y ≡ 0) → Together p s h (relabelled x y l) → Walked i (relabelled x y l)
  walked_on {i} {l} k x y z o =
      record {
        together = o;
        same = λ j c u v. label_at p s h k.together x y u ∙ ap (renamed x y) (k.same j c u v) ∙ sym (label_at p s h k.together x y v);
        source = λ j c d u. label_at p s h k.together x y u ∙ ap (renamed x y) (k.source j c d u) ∙ zero-stays x y z;
        target = λ j c d u. label_at p s h k.together x y u ∙ ap (renamed x y) (k.target j c d u) ∙ zero-stays x y z;
      }

  -- one transfer more
  one_more : {i : ℕ} {l : List ℕ} → Walked i l
      → (FilledIn n w (from_at ts i) → FilledIn n w (to_at ts i) → get_or l (from_at ts i) 0 ≡ get_or l (to_at ts i) 0)
      → (differ_at w (from_at ts i) (to_at ts i) ≡ true → FilledIn n w (from_at ts i) → get_or l (from_at ts i) 0 ≡ 0)
      → (differ_at w (from_at ts i) (to_at ts i) ≡ true → FilledIn n w (to_at ts i) → get_or l (to_at ts i) 0 ≡ 0)
      → Walked (suc i) l
  one_more {i} {l} k same source target =
      record {
        together = k.together;
        same = λ j c. by_cases (ℕ_discrete j i) (λ q. rw q same) (λ q. k.same j (omega arith));
        source = λ j c. by_cases (ℕ_discrete j i) (λ q. rw q source) (λ q. k.source j (omega arith));
        target = λ j c. by_cases (ℕ_discrete j i) (λ q. rw q target) (λ q. k.target j (omega arith));
      }

  -- a row is put in doubt if it is filled in
  record Suspected (i r : ℕ) (l m : List ℕ) : Type 0 where
    walked : Walked i m
    here : FilledIn n w r → get_or m r 0 ≡ 0
    still : (q : ℕ) → FilledIn n w q → get_or l q 0 ≡ 0 → get_or m q 0 ≡ 0

  suspected : {i : ℕ} {l : List ℕ} → Walked i l → (r : ℕ) → r < n → (FilledIn n w r → Doubtful e ps t (α r)) → Suspected i r l (suspect_at w l r)
  unfolding suspect_at
  suspected {i} {l} k r c d = by_cases (ℕ_discrete (state_at w r) 3) (λ q. rw (eq-eqb _ _ q) (put (record { row = c; state = q }))) (λ q. rw (ne_eqb _ _ q) (left q))
    where
      put : FilledIn n w r → Suspected i r l (relabelled (get_or l r 0) 0 l)
      put u =
          record {
            walked = walked_on k (get_or l r 0) 0 (λ q. refl) (suspected-together p s h k.together r u (d u));
            here = λ v. moved p s h k.together (get_or l r 0) 0 v refl;
            still = λ q v z. label_at p s h k.together (get_or l r 0) 0 v ∙ ap (renamed (get_or l r 0) 0) z ∙ zero-stays (get_or l r 0) 0 (λ q. refl);
          }

      left : state_at w r ≢ 3 → Suspected i r l l
      left q = record { walked = k; here = λ v. absurd (q v.state); still = λ q v z. z }

  -- by the rows of transfer i
  module _ {i : ℕ} {l : List ℕ} (k : Walked i l) (x : from_at ts i < n) (y : to_at ts i < n) (j : Joined ps (α (from_at ts i)) (α (to_at ts i))) where
    -- their mints differ
    begun : differ_at w (from_at ts i) (to_at ts i) ≡ true → Walked (suc i) (suspect_at w (suspect_at w l (from_at ts i)) (to_at ts i))
    begun d =
        let v = rows-differ p s h.now (from_at ts i) (to_at ts i) x y d in
        let one = suspected k (from_at ts i) x (λ u. begins (free p s h u) (account p s h u) j v.0) in
        let two = suspected one.walked (to_at ts i) y (λ u. begins (free p s h u) (account p s h u) (joined-flip j) v.1) in
        one_more two.walked
        (λ u v. two.still (from_at ts i) u (one.here u) ∙ sym (two.here v))
        (λ _ u. two.still (from_at ts i) u (one.here u))
        (λ _ v. two.here v)

    -- they do not, and both rows are filled in
    met : differ_at w (from_at ts i) (to_at ts i) ≡ false → FilledIn n w (from_at ts i) → FilledIn n w (to_at ts i) → Walked (suc i) (join_at l (from_at ts i) (to_at ts i))
    unfolding join_at
    met d u v = by_cases (dec_lt (get_or l (from_at ts i) 0) (get_or l (to_at ts i) 0)) (λ q. rw (lt-ltb _ _ q) (under-source q)) (λ q. rw (le-ltb (get_or l (from_at ts i) 0) (get_or l (to_at ts i) 0) (omega arith)) (under-target q))
      where
        under-source : get_or l (from_at ts i) 0 < get_or l (to_at ts i) 0 → Walked (suc i) (relabelled (get_or l (to_at ts i) 0) (get_or l (from_at ts i) 0) l)
        under-source q =
            let o = walked_on k (get_or l (to_at ts i) 0) (get_or l (from_at ts i) 0) (λ z. absurd (omega arith)) (joined-together p s h k.together (to_at ts i) (from_at ts i) v u (joined-flip j)) in
            one_more o
            (λ a b. stayed p s h k.together (get_or l (to_at ts i) 0) (get_or l (from_at ts i) 0) a (λ z. absurd (omega arith)) ∙ sym (moved p s h k.together (get_or l (to_at ts i) 0) (get_or l (from_at ts i) 0) b refl))
            (λ z _. absurd (false≢true (sym d ∙ z)))
            (λ z _. absurd (false≢true (sym d ∙ z)))

        under-target : ¬ (get_or l (from_at ts i) 0 < get_or l (to_at ts i) 0) → Walked (suc i) (relabelled (get_or l (from_at ts i) 0) (get_or l (to_at ts i) 0) l)
        under-target q =
            let o = walked_on k (get_or l (from_at ts i) 0) (get_or l (to_at ts i) 0) (λ z. omega arith) (joined-together p s h k.together (from_at ts i) (to_at ts i) u v j) in
            one_more o
            (λ a b.
            moved p s h k.together (get_or l (from_at ts i) 0) (get_or l (to_at ts i) 0) a refl
            ∙ by_cases
            (ℕ_discrete (get_or l (to_at ts i) 0) (get_or l (from_at ts i) 0))
            (λ z. sym (moved p s h k.together (get_or l (from_at ts i) 0) (get_or l (to_at ts i) 0) b z))
            (λ z. sym (stayed p s h k.together (get_or l (from_at ts i) 0) (get_or l (to_at ts i) 0) b z)))
            (λ z _. absurd (false≢true (sym d ∙ z)))
            (λ z _. absurd (false≢true (sym d ∙ z)))

    -- neither
    idle : differ_at w (from_at ts i) (to_at ts i) ≡ false → (FilledIn n w (from_at ts i) → ¬ FilledIn n w (to_at ts i)) → Walked (suc i) l
    idle d z = one_more k (λ u v. absurd (z u v)) (λ q _. absurd (false≢true (sym d ∙ q))) (λ q _. absurd (false≢true (sym d ∙ q)))

    step : Walked (suc i) (meet_at w l (from_at ts i) (to_at ts i))
    step = go (differ_at w (from_at ts i) (to_at ts i)) refl
      where
        go : (b : Bool) → differ_at w (from_at ts i) (to_at ts i) ≡ b → Walked (suc i) (meet_at w l (from_at ts i) (to_at ts i))
        go true d = rw (meet-differ w l (from_at ts i) (to_at ts i) d) (begun d)
        go false d =
            by_cases
            (ℕ_discrete (state_at w (from_at ts i)) 3)
            (λ u.
            by_cases
            (ℕ_discrete (state_at w (to_at ts i)) 3)
            (λ v. rw (meet-join w l (from_at ts i) (to_at ts i) d u v) (met d (record { row = x; state = u }) (record { row = y; state = v })))
            (λ v. rw (meet-target w l (from_at ts i) (to_at ts i) d u v) (idle d (λ _ z. v z.state))))
            (λ u. rw (meet-source w l (from_at ts i) (to_at ts i) d u) (idle d (λ z _. u z.state)))

  -- all c transfers
  module _ (c : ℕ) (all : pairs_to α ts c ≡ ps) (x : (i : ℕ) → from_at ts i < n) (y : (i : ℕ) → to_at ts i < n) where
    joins : (i : ℕ) → i < c → Joined ps (α (from_at ts i)) (α (to_at ts i))
    joins i k = joined (forth refl) (subst (λ (qs : Transfers). Memᴰ (α (from_at ts i), α (to_at ts i)) qs) all (pair-in α ts i c k))

    apart-start : Walked 0 (own_labels n)
    apart-start =
        record {
          together = record { size = tab-length (λ (r : ℕ). r) 0 n; doubt = λ r u q. absurd (omega (arith, above p s h u, own u, q)); alike = λ r q u v m d. subst (λ (k : ℕ). Doubtful e ps t (α k)) (sym (own u) ∙ m ∙ own v) d };
          same = λ j k. absurd (omega arith);
          source = λ j k. absurd (omega arith);
          target = λ j k. absurd (omega arith);
        }
      where
        own : {r : ℕ} → FilledIn n w r → get_or (own_labels n) r 0 ≡ r
        own {r} u = tab-at (λ r. r) 0 0 n r u.row ∙ zero-add r

    walked : (i : ℕ) → i ≤ c → Walked i (labels_to ts w (own_labels n) i)
    unfolding labels_to
    walked zero k = apart-start
    walked (suc i) k = step (walked i (omega arith)) (x i) (y i) (joins i (omega arith))

    -- the transfer that joins two accounts, by its number
    data Way (a b : Key) : Type 0 where
      forwards : (i : ℕ) → i < c → a ≡ α (from_at ts i) → b ≡ α (to_at ts i) → Way a b
      backwards : (i : ℕ) → i < c → b ≡ α (from_at ts i) → a ≡ α (to_at ts i) → Way a b

    way : {a b : Key} → Joined ps a b → Way a b
    way (joined {p = r} (forth q) i) =
        let k = in_pairs α ts c (subst (λ (qs : Transfers). Memᴰ r qs) (sym all) i) in
        forwards k.0 k.1 (ap (λ (z : Row). z.0) (q ∙ k.2)) (ap (λ (z : Row). z.1) (q ∙ k.2))
    way (joined {p = r} (back q) i) =
        let k = in_pairs α ts c (subst (λ (qs : Transfers). Memᴰ r qs) (sym all) i) in
        backwards k.0 k.1 (ap (λ (z : Row). z.0) (q ∙ k.2)) (ap (λ (z : Row). z.1) (q ∙ k.2))

    -- an account in doubt has label 0
    in-doubt : {l : List ℕ} {a : Key} → Walked c l → Doubtful e ps t a → (r : ℕ) → r < n → α r ≡ a → get_or l r 0 ≡ 0
    in-doubt {l} k (begins {a} {b} o z j d) r u q = go (way j)
      where
        mint : d.m ≢ zero_key
        mint = chain-mint (filled-chain s o d.here)

        row : FilledIn n w r
        row = filled p s h r u (subst (λ (v : Key). Free e v) (sym q) o) (subst (λ (v : Key). Has v d.m t) (sym q) d.here) mint

        go : Way a b → get_or l r 0 ≡ 0
        go (forwards i v fa gb) =
            let m : r ≡ from_at ts i = p.apart r (from_at ts i) u (x i) (q ∙ fa) in
            let differs = differ-rows p s h.now (from_at ts i) (to_at ts i) (x i) (y i) (subst (λ (v : Key). Has v d.m t) fa d.here) mint (subst (λ (v : Key). Has v d.k t) gb d.there) d.mint d.differ in
            ap (λ (v : ℕ). get_or l v 0) m ∙ k.source i v differs (subst (λ (v : ℕ). FilledIn n w v) m row)
        go (backwards i v fb ga) =
            let m : r ≡ to_at ts i = p.apart r (to_at ts i) u (y i) (q ∙ ga) in
            let differs = differ-rows p s h.now (from_at ts i) (to_at ts i) (x i) (y i) (subst (λ (v : Key). Has v d.k t) fb d.there) d.mint (subst (λ (v : Key). Has v d.m t) ga d.here) mint (λ z. d.differ (sym z)) in
            ap (λ (v : ℕ). get_or l v 0) m ∙ k.target i v differs (subst (λ (v : ℕ). FilledIn n w v) m row)
    in-doubt {l} k (spreads {a} {b} d j o z) r u q = go (way j) (λ v m e. in-doubt k d v m e)
      where
        row : FilledIn n w r
        row = doubtful-filled p s h r u (subst (λ (v : Key). Doubtful e ps t v) (sym q) (spreads d j o z))

        go : Way a b → ((v : ℕ) → v < n → α v ≡ a → get_or l v 0 ≡ 0) → get_or l r 0 ≡ 0
        go (forwards i v fa gb) below =
            let m : r ≡ to_at ts i = p.apart r (to_at ts i) u (y i) (q ∙ gb) in
            let other = doubtful-filled p s h (from_at ts i) (x i) (subst (λ (v : Key). Doubtful e ps t v) fa d) in
            ap (λ (v : ℕ). get_or l v 0) m ∙ sym (k.same i v other (subst (λ (v : ℕ). FilledIn n w v) m row)) ∙ below (from_at ts i) (x i) (sym fa)
        go (backwards i v fb ga) below =
            let m : r ≡ from_at ts i = p.apart r (from_at ts i) u (x i) (q ∙ fb) in
            let other = doubtful-filled p s h (to_at ts i) (y i) (subst (λ (v : Key). Doubtful e ps t v) ga d) in
            ap (λ (v : ℕ). get_or l v 0) m ∙ k.same i v (subst (λ (v : ℕ). FilledIn n w v) m row) other ∙ below (to_at ts i) (y i) (sym ga)

    -- label 0 tells doubt
    pub labels-tell : (r : ℕ) → r < n → state_at w r ≡ 3 → (get_or (labels_to ts w (own_labels n) c) r 0 ≡ 0) ↔ Doubtful e ps t (α r)
    labels-tell r k q =
        let o = walked c (omega arith) in
        (λ z. o.together.doubt r (record { row = k; state = q }) z, λ d. in-doubt o d r k refl)
