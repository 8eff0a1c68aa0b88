-- What evidence and transfers are made of: keys of the key section, the zero key, and mints of balance rows. Every account is looked up by its index, so what
-- holds of those keys holds of all of them.
-- Assumes nothing.
use mathlib.Core.Path.{◌≡◌, refl, sym, ap, subst}
use mathlib.Core.Logic.{◌≢◌, ⊎_elim}
use mathlib.Core.Bool.{Bool, true, false, cond}
use mathlib.Core.List.Memᴰ
use mathlib.Core.List.{List, [], ◌∷◌, ◌++◌, Memᴰ}
use Prim.Native.Nat.{ℕ, zero, suc, ◌+◌, ◌*◌, ◌<◌}
use native.Mathlib.Nat.{add-zero, zero-add}
use native.Mathlib.Omega.{arith}
use lib.Dec.{ltb}
use lib.ListN.{length, get_or, take, drop}
use borrow.Author.Tests.{ltb-true}
use Rattle.ids.specs.declared.Id.{Id}
use Rattle.ids.specs.Keys.{Key, zero_key, key_count, key_of, account}
use Rattle.ids.specs.Which.{program_at}
use Rattle.pack.specs.Invocation.{Instruction}
use Rattle.token.specs.Tokens.{initialises, plain_transfer, checked_transfer, fee_transfer}
use Rattle.token.specs.Records.{both_ends, records, plain}
use Rattle.ids.proofs.Keys.{key-length}
use Rattle.evidence.specs.Table.{Row}
use Rattle.evidence.specs.Gather.{gather}
use Rattle.evidence.proofs.Gather.{gather-mem}
use Rattle.evidence.proofs.Bound.{Among}
use Rattle.mints.specs.Inference.{balance_says, says, moves, evidence_of, transfers_of}
use Rattle.wire.specs.Tab.{tab}

-- a member of a list that a test lets stand
if-mem : {A : Type 0} {x : A} {l : List A} (b : Bool) → Memᴰ x (cond b l []) → Memᴰ x l
if-mem true i = i
if-mem false i = absurd (Memᴰ.not-nil i)

-- what holds of every key that an index names, and of the zero key
pub record EveryKey (κ : ℕ → Key) (P : Key → Type 0) : Type 0 where
  pub key : (i : ℕ) → P (κ i)
  pub blank : P zero_key

module _ {κ : ℕ → Key} {P : Key → Type 0} (h : EveryKey κ P) where
  account-holds : (accounts : List ℕ) (i : ℕ) → P (account κ accounts i)
  account-holds accounts i = go (ltb i (length accounts))
    where
      go : (b : Bool) → P (cond b (κ (get_or accounts i 0)) zero_key)
      go true = h.key (get_or accounts i 0)
      go false = h.blank

  -- both keys of a pair
  abbrev Pair : Row → Type 0
  Pair x = P x.0 × P x.1

  one_holds : (x : Row) {y : Row} → Pair x → Memᴰ y (x ∷ []) → Pair y
  one_holds x {y} g i =
      ⊎_elim (λ e. subst (λ (z : Row). P z.0 × P z.1) (sym e) g) (λ k. absurd (Memᴰ.not-nil k)) (Memᴰ.cases_cons i)

  ends-holds : (accounts : List ℕ) {y : Row} → Memᴰ y (both_ends κ accounts) → Pair y
  unfolding both_ends
  ends-holds accounts {y} i =
      ⊎_elim
      (λ e. subst (λ (z : Row). P z.0 × P z.1) (sym e) (account-holds accounts 0, account-holds accounts 1))
      (λ k. one_holds (account κ accounts 2, account κ accounts 1) (account-holds accounts 2, account-holds accounts 1) k)
      (Memᴰ.cases_cons i)

  -- it holds of both keys of what an instruction records
  pub records-hold : (id : Id) (accounts d : List ℕ) {y : Row} → Memᴰ y (records κ id accounts d) → Pair y
  unfolding records
  records-hold id accounts d {y} i =
      let checked = cond (checked_transfer id (length accounts) d) (both_ends κ accounts) [] in
      let fee = cond (fee_transfer id (length accounts) d) (both_ends κ accounts) [] in
      ⊎_elim
      (λ j.
      ⊎_elim
      (λ k. ends-holds accounts (if-mem (checked_transfer id (length accounts) d) k))
      (λ k. ends-holds accounts (if-mem (fee_transfer id (length accounts) d) k))
      (Memᴰ.append_cases checked j))
      (λ j.
      one_holds (account κ accounts 0, account κ accounts 1) (account-holds accounts 0, account-holds accounts 1)
      (if-mem (initialises id (length accounts) d) j))
      (Memᴰ.append_cases (checked ++ fee) i)

  -- and of the two ends of a plain transfer
  pub plain-holds : (id : Id) (accounts d : List ℕ) {y : Row} → Memᴰ y (plain κ id accounts d) → Pair y
  unfolding plain
  plain-holds id accounts d i =
      one_holds (account κ accounts 0, account κ accounts 1) (account-holds accounts 0, account-holds accounts 1)
      (if-mem (plain_transfer id (length accounts) d) i)

-- over all instructions, ι giving the program of an index
module _ {κ : ℕ → Key} (ι : ℕ → Id) {P : Key → Type 0} (h : EveryKey κ P) where
  -- it holds of both ends of every plain transfer
  pub plains-hold : (xs : List Instruction) {y : Row} → Memᴰ y (transfers_of κ ι xs) → P y.0 × P y.1
  unfolding transfers_of moves
  plains-hold xs i =
      let x = gather-mem (moves κ ι) xs i in
      plain-holds h _ x.0.accounts x.0.bytes x.2

  -- and of the account of every piece of evidence, and of its mint if it holds of the balance rows' mints
  pub evidence-holds : (balances : List (ℕ × Key)) (xs : List Instruction) {y : Row} → Memᴰ y (evidence_of κ ι balances xs)
      → P y.0 × (((b : ℕ × Key) → Memᴰ b balances → P b.1) → P y.1)
  unfolding evidence_of balance_says says
  evidence-holds balances xs {y} i = ⊎_elim (λ j. told j) (λ j. recorded j) (Memᴰ.append_cases (gather (balance_says κ) balances) i)
    where
      told : Memᴰ y (gather (balance_says κ) balances) → P y.0 × (((b : ℕ × Key) → Memᴰ b balances → P b.1) → P y.1)
      told j =
          let b = gather-mem (balance_says κ) balances j in
          ⊎_elim
          (λ e.
          subst
          (λ (z : Row). P z.0 × (((c : ℕ × Key) → Memᴰ c balances → P c.1) → P z.1))
          (sym e)
          (h.key b.0.0, λ w. w b.0 b.1))
          (λ k. absurd (Memᴰ.not-nil k))
          (Memᴰ.cases_cons b.2)

      recorded : Memᴰ y (gather (says κ ι) xs) → P y.0 × (((b : ℕ × Key) → Memᴰ b balances → P b.1) → P y.1)
      recorded j =
          let x = gather-mem (says κ ι) xs j in
          let g = records-hold h _ x.0.accounts x.0.bytes x.2 in
          (g.0, λ w. g.1)

-- the keys of a key section
abbrev pub keys_of : List ℕ → List Key
keys_of ks = tab (key_of ks) 0 (key_count ks)

tab-mem : {A : Type 0} (f : ℕ → A) (n k i : ℕ) → i < n → Memᴰ (f (k + i)) (tab f k n)
unfolding tab
tab-mem f zero k i h = absurd (omega arith)
tab-mem f (suc n) k zero h = Memᴰ.head (ap f (add-zero k))
tab-mem f (suc n) k (suc i) h =
    let e : k + suc i ≡ suc k + i = omega arith in
    Memᴰ.tail (Memᴰ.cast (ap f e) (tab-mem f n (suc k) i (omega arith)))

-- an account that is not zero is one of the keys
pub among : (ks : List ℕ) (balances : List (ℕ × Key)) (xs : List Instruction) → Among (keys_of ks) (evidence_of (key_of ks) (program_at ks) balances xs) (transfers_of (key_of ks) (program_at ks) xs)
among ks balances xs =
    record {
      evidence = λ i. (evidence-holds (program_at ks) listed balances xs i).0;
      source = λ i. (plains-hold (program_at ks) listed xs i).0;
      target = λ i. (plains-hold (program_at ks) listed xs i).1;
    }
  where
    Listed : Key → Type 0
    Listed a = a ≢ zero_key → Memᴰ a (keys_of ks)

    key : (i : ℕ) → Listed (key_of ks i)
    key i = go (ltb i (key_count ks)) refl
      where
        go : (b : Bool) → ltb i (key_count ks) ≡ b → Listed (cond b (take 32 (drop (i * 33 + 1) ks)) zero_key)
        go true e = λ n. rw e at (Memᴰ.cast (ap (key_of ks) (sym (zero-add i))) (tab-mem (key_of ks) (key_count ks) 0 i (ltb-true i (key_count ks) e)))
        go false e = λ n. absurd (n refl)

    listed : EveryKey (key_of ks) Listed
    listed = record { key = key; blank = λ n. absurd (n refl) }

-- a key of 32 bytes
abbrev pub Wide : Key → Type 0
Wide a = length a ≡ 32

pub wide : (ks : List ℕ) → EveryKey (key_of ks) Wide
unfolding zero_key
wide ks = record { key = key-length ks; blank = refl }
