-- The mint table of a pack: there always is one, since at most 256 keys can be filled in; its keys have 32 bytes, as those that a chain runs through have;
-- and it is the same for evidence in another order, since the members are.
-- Assumes nothing.
use mathlib.Core.Path.{◌≡◌, subst}
use mathlib.Core.List.Memᴰ
use mathlib.Core.List.{List, Memᴰ}
use mathlib.Core.Option.{some}
use Prim.Native.Nat.{ℕ, zero, suc, ◌*◌, ◌/◌, ◌≤◌}
use native.Mathlib.Nat.{suc-mul}
use native.Mathlib.Omega.{arith}
use lib.ListN.{length, drop, length-map, length-drop}
use lib.Seq.{length-take-le}
use Rattle.wire.specs.Le.{le}
use Rattle.wire.specs.Members.{SameMembers}
use Rattle.wire.proofs.Members.{append-same}
use Rattle.ids.specs.Keys.{Key, key_count, key_of}
use Rattle.ids.specs.Which.{program_at}
use Rattle.pack.specs.Sections.{section_of}
use Rattle.pack.specs.Items.{rows}
use Rattle.pack.specs.View.{balances_in, view_of}
use Rattle.pack.specs.Verdict.{verdict, refusal_number}
use Rattle.pack.proofs.Sizes.{keys_length}
use Rattle.pack.proofs.Good.{passed}
use Rattle.evidence.specs.Evidence.{Evidence}
use Rattle.evidence.specs.Passes.{Transfers, forth, back, Joined, joined}
use Rattle.evidence.specs.Chains.{Chain, start, along}
use Rattle.evidence.proofs.Distinct.{covered-length}
use Rattle.evidence.proofs.Infer.{settled-distinct}
use Rattle.evidence.proofs.Sorted.{sorted-distinct}
use Rattle.evidence.proofs.Final.{final-sorted, final-gives}
use Rattle.evidence.proofs.Gather.{gather-same}
use Rattle.evidence.specs.MintTable.{MintAnswer, mint_table}
use Rattle.evidence.proofs.Order.{Made, mints-made, answered-256, row-right, Alike, alike}
use Rattle.mints.specs.Inference.{balance_says, says, moves, evidence_of, transfers_of, inferred}
use Rattle.wire.proofs.Tab.{tab-length}
use Rattle.route.specs.Order.{instructions_in, evidence_in, plains_in, mints_in, SameEvidence}
use Rattle.route.proofs.OrderKeys.{plains-hold, evidence-holds, among, Wide, wide}
use Rattle.route.proofs.OrderTable.{Sized}

-- a pack that is not refused has at most 256 keys
pub few_keys : (p : List ℕ) → refusal_number (verdict p) ≡ 0 → key_count (section_of p 0) ≤ 256
few_keys p e = omega (arith, keys_length p, (passed p e).few_keys)

-- such a pack has a mint table, after at most 256 passes
pub answered : (p : List ℕ) → refusal_number (verdict p) ≡ 0 → (x : MintAnswer) × (mints_in p ≡ some x) × (x.room ≤ 256) × (x.passes ≤ 256)
unfolding inferred
answered p e =
    answered-256
    (among (section_of p 0) (view_of p).balances (instructions_in p))
    (rw (tab-length (key_of (section_of p 0)) 0 (key_count (section_of p 0))) (few_keys p e))

pub made : (p : List ℕ) {x : MintAnswer} → mints_in p ≡ some x → Made (evidence_in p) (plains_in p) x
unfolding inferred
made p q = mints-made 512 (evidence_in p) (plains_in p) q

rows-wide : (w n : ℕ) (s : List ℕ) {r : List ℕ} → n * w ≤ length s → Memᴰ r (rows w n s) → length r ≡ w
unfolding rows
rows-wide w zero s h i = absurd (Memᴰ.not-nil i)
rows-wide w (suc n) s h (Memᴰ.head q) = rw q (length-take-le w s (omega (arith, suc-mul n w)))
rows-wide w (suc n) s h (Memᴰ.tail i) = rows-wide w n (drop w s) (simp length-drop (omega (arith, suc-mul n w))) i

-- the mint of a balance row has 32 bytes
balance-wide : (p : List ℕ) (b : ℕ × Key) → Memᴰ b (view_of p).balances → Wide b.1
unfolding view_of balances_in
balance-wide p b i =
    let s = section_of p 1 in
    let r = Memᴰ.of_map (λ (r : List ℕ). (le 4 r 0, drop 4 r)) (rows 36 (length s / 36) s) i in
    let k : length r.0 ≡ 36 = rows-wide 36 (length s / 36) s (omega arith) r.1 in
    subst (λ (c : ℕ × Key). length c.1 ≡ 32) r.2 (simp length-drop (omega arith))

module _ (p : List ℕ) where
  joined-wide : {a b : Key} → Joined (plains_in p) a b → Wide b
  joined-wide (joined (forth q) i) = (plains-hold (program_at (section_of p 0)) (wide (section_of p 0)) (instructions_in p) (Memᴰ.cast q i)).1
  joined-wide (joined (back q) i) = (plains-hold (program_at (section_of p 0)) (wide (section_of p 0)) (instructions_in p) (Memᴰ.cast q i)).0

  -- so have the account that a chain reaches, and its mint
  chain-wide : {m a : Key} → Chain (evidence_in p) (plains_in p) m a → Wide a × Wide m
  chain-wide (start o) =
      let k = evidence-holds (program_at (section_of p 0)) (wide (section_of p 0)) (view_of p).balances (instructions_in p) o.says.piece in
      (k.0, k.1 (balance-wide p))
  chain-wide (along c j f n) = (joined-wide j, (chain-wide c).1)

  -- accounts and mints of the mint table have 32 bytes
  pub sized : {x : MintAnswer} → Made (evidence_in p) (plains_in p) x → Sized x.rows
  sized y = record { account = λ r i. (chain-wide (row-right y i).0).0; mint = λ r i. (chain-wide (row-right y i).0).1 }

-- there is room for the rows
pub rows-room : {e : Evidence} {ps : Transfers} {x : MintAnswer} → Made e ps x → length x.rows ≤ x.room
unfolding mint_table
rows-room {e} {ps} {x} y =
    let d = settled-distinct y.settled in
    let c = covered-length (sorted-distinct (final-sorted d)) (record { cover = λ {a} {m} h. (m, (final-gives d h).0) }) in
    rw (y.rows, y.room) (rw length-map c)

-- the same evidence, in another order
module _ {p q : List ℕ} (h : SameEvidence p q) where
  pub same-evidence : SameMembers (evidence_in p) (evidence_in q)
  unfolding evidence_of
  same-evidence =
      subst
      (λ (ks : List ℕ). SameMembers (evidence_in p) (evidence_of (key_of ks) (program_at ks) (view_of q).balances (instructions_in q)))
      h.keys
      (append-same (gather-same (balance_says (key_of (section_of p 0))) h.balances) (gather-same (says (key_of (section_of p 0)) (program_at (section_of p 0))) h.invocations))

  pub same-plains : SameMembers (plains_in p) (plains_in q)
  unfolding transfers_of
  same-plains =
      subst (λ (ks : List ℕ). SameMembers (plains_in p) (transfers_of (key_of ks) (program_at ks) (instructions_in q))) h.keys (gather-same (moves (key_of (section_of p 0)) (program_at (section_of p 0))) h.invocations)

  -- the two mint tables are alike
  pub tables-alike : {x y : MintAnswer} → mints_in p ≡ some x → mints_in q ≡ some y → Alike (evidence_in p) (plains_in p) x y
  tables-alike a b = alike same-evidence same-plains (made p a) (made q b)
