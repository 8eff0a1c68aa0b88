-- The passes end (T6): no more of them than accounts, so a fuel of that many is enough. Assumes nothing.
use mathlib.Core.Path.{◌≡◌, refl}
use mathlib.Core.Logic.{◌≢◌, ◌⊎◌, inl, inr}
use mathlib.Core.Option.{Option, some, none}
use mathlib.Core.List.Memᴰ
use mathlib.Core.List.{List, Memᴰ}
use Prim.Native.Nat.{ℕ, ◌≤◌}
use native.Mathlib.Omega.{arith}
use lib.ListN.{length}
use Rattle.ids.specs.Keys.{Key, zero_key}
use Rattle.evidence.specs.Table.{Table, Has}
use Rattle.evidence.proofs.Table.{has-not-lacks, add-cases}
use Rattle.evidence.specs.Evidence.{Evidence, recorded}
use Rattle.evidence.proofs.Evidence.{NotedAs, free, one, clash}
use Rattle.evidence.proofs.Recording.{recorded-noted}
use Rattle.evidence.proofs.Distinct.{distinct-recorded, covered-length, length-rows, mem-rows}
use Rattle.evidence.specs.Passes.{Transfers, forth, back, Joined, joined}
use Rattle.evidence.proofs.Passes.{Grown, grown, grow}
use Rattle.evidence.specs.Run.{TableAfter}
use Rattle.evidence.specs.Infer.{infer}
use Rattle.evidence.proofs.Infer.{Settled, Inferred, short, infer-view, infer-settled, infer-passes, grown-distinct}

-- every account that occurs, but the zero key, is one of the keys of l
pub record Among (l : List Key) (e : Evidence) (ps : Transfers) : Type 0 where
  pub evidence : {a m : Key} → Memᴰ (a, m) e → a ≢ zero_key → Memᴰ a l
  pub source : {a b : Key} → Memᴰ (a, b) ps → a ≢ zero_key → Memᴰ a l
  pub target : {a b : Key} → Memᴰ (a, b) ps → b ≢ zero_key → Memᴰ b l

-- every account of the table is one of the keys of l
pub record Within (l : List Key) (t : Table) : Type 0 where
  pub within : {a m : Key} → Has a m t → Memᴰ a l

module _ {l : List Key} {e : Evidence} {ps : Transfers} (h : Among l e ps) where
  joined-among : {a b : Key} → Joined ps a b → b ≢ zero_key → Memᴰ b l
  joined-among (joined (forth q) i) = h.target (Memᴰ.cast q i)
  joined-among (joined (back q) i) = h.source (Memᴰ.cast q i)

  recorded-within : Within l (recorded e)
  recorded-within = record { within = λ {a} i. go (recorded-noted e a) i }
    where
      go : {a m : Key} {t : Table} → NotedAs e a t → Has a m t → Memᴰ a l
      go (free _ k) i = absurd (has-not-lacks i k)
      go (one o _) i = h.evidence o.says.piece o.says.account
      go (clash c _) i = h.evidence c.says.piece c.says.account

  grown-within : {u t : Table} → Grown ps u t → Within l t → Within l u
  grown-within grown w = w
  grown-within (grow {a} {b} {m} {t} j i g) w = grown-within g (record { within = λ k. go (add-cases i.fresh k) })
    where
      go : {c k : Key} → Has c k t ⊎ ((c ≡ b) × (k ≡ m)) → Memᴰ c l
      go (inl k) = w.within k
      go (inr q) = Memᴰ.cast q.0 (joined-among j i.target)

  -- a table that passes make has no more rows than there are keys
  pub rows_bound : {t : Table} → Grown ps t (recorded e) → length t ≤ length l
  rows_bound {t} g =
      let w = grown-within g recorded-within in
      omega (arith, length-rows l, covered-length (grown-distinct g (distinct-recorded e)) (record { cover = λ i. (_, mem-rows (w.within i)) }))

  -- T6. With as much fuel as there are keys the passes come to an end, after no more passes than keys.
  pub enough : (f : ℕ) → length l ≤ f → (t : Table) × (n : ℕ) × (infer f e ps ≡ some (t, n)) × Settled e ps t × (n ≤ length l)
  enough f k = go (infer f e ps) refl (infer-view f e ps)
    where
      go : (o : Option TableAfter) → infer f e ps ≡ o → Inferred e ps f o → (t : Table) × (n : ℕ) × (infer f e ps ≡ some (t, n)) × Settled e ps t × (n ≤ length l)
      go (some r) q _ = let s = infer-settled f e ps q in (r.0, r.1, q, s, omega (arith, infer-passes f e ps q, rows_bound s.grows))
      go none q (short g b) = absurd (omega (arith, rows_bound g))
