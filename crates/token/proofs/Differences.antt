-- Where the Rust takes an instruction and where the published layout fits, and exactly where these differ. The three transfers agree throughout. Of the
-- others the Rust wants the exact length, so it misses longer data; and for two initialise instructions fewer accounts than published are enough for it.
-- Assumes nothing.
use mathlib.Core.Path.{◌≡◌, refl, sym, ◌∙◌}
use mathlib.Core.Logic.{by_cases}
use mathlib.Core.Bool.{Bool, true, false, ◌&&◌, ◌||◌, not, and-true, and-false, or-false, false≢true}
use mathlib.Core.List.{List, [], ◌∷◌}
use Prim.Native.Nat.{ℕ, ◌≤◌, ◌<◌}
use native.Mathlib.Decide.{ℕ_discrete}
use native.Mathlib.Omega.{arith}
use lib.Dec.{ltb, leb, eqb}
use lib.ListN.{length, get_or, take}
use borrow.Author.Tests.{lt-ltb, le-ltb, le-leb, eq-eqb, ne_eqb, eqb-true, ltb-true, leb-true, leb-false}
use Rattle.wire.specs.Below.{all_below}
use Rattle.wire.proofs.Below.{below_at, and_left, and_right}
use Rattle.wire.specs.Same.{same}
use Rattle.wire.specs.Zeros.{zeros}
use Rattle.ids.specs.declared.Id.{Id}
use Rattle.ids.specs.declared.Id.TheVariants.{SplToken, Token2022}
use Rattle.token.specs.Programs.{is_token, is_token2022}
use Rattle.token.specs.Tokens.{initialises, plain_transfer, checked_transfer, fee_transfer}
use Rattle.token.specs.Published.{Layout, total, size, starts, one_of, has_layout, layouts, transfer_layout, transfer_checked, transfer_checked_with_fee, initialize_account, initialize_account2, initialize_account3, system_transfer, sync_native, close_account}
use Rattle.token.specs.ByLayout.{exact, initialises_as}

-- the Rust's tests of the program are the published programs
pub token-programs : (id : Id) → is_token id ≡ one_of (SplToken ∷ Token2022 ∷ []) id
unfolding is_token one_of
token-programs id = simp or-false

pub fee-programs : (id : Id) → is_token2022 id ≡ one_of (Token2022 ∷ []) id
unfolding is_token2022 one_of
fee-programs id = simp or-false

-- Transfer: the same instructions
pub plain-agrees : (id : Id) (n : ℕ) (d : List ℕ) → plain_transfer id n d ≡ has_layout transfer_layout id n d
unfolding plain_transfer transfer_layout has_layout size total starts same
plain-agrees id n [] = simp and-false
plain-agrees id n (x ∷ r) = simp (token-programs, and-true)

-- TransferChecked: the same instructions
pub checked-agrees : (id : Id) (n : ℕ) (d : List ℕ) → checked_transfer id n d ≡ has_layout transfer_checked id n d
unfolding checked_transfer transfer_checked has_layout size total starts same
checked-agrees id n [] = simp and-false
checked-agrees id n (x ∷ r) = simp (token-programs, and-true)

-- TransferCheckedWithFee: the same instructions
pub fee-agrees : (id : Id) (n : ℕ) (d : List ℕ) → fee_transfer id n d ≡ has_layout transfer_checked_with_fee id n d
unfolding fee_transfer transfer_checked_with_fee has_layout size total starts same
fee-agrees id n [] = simp and-false
fee-agrees id n (x ∷ []) = simp and-false
fee-agrees id n (x ∷ y ∷ r) = simp (fee-programs, and-true)

-- InitializeAccount, InitializeAccount2, InitializeAccount3: what is taken as each
module _ (id : Id) (n : ℕ) where
  pub initialise-1 : (d : List ℕ) → initialises_as initialize_account id n d ≡ exact initialize_account 2 id n d
  unfolding initialises_as initialises exact initialize_account size total starts same
  initialise-1 [] = simp and-false
  initialise-1 (x ∷ r) =
      by_cases (ℕ_discrete x 1) (λ (e : x ≡ 1). simp (e, token-programs, and-true, or-false)) (λ o. simp (ne_eqb x 1 o, and-false))

  pub initialise-2 : (d : List ℕ) → initialises_as initialize_account2 id n d ≡ exact initialize_account2 2 id n d
  unfolding initialises_as initialises exact initialize_account2 size total starts same
  initialise-2 [] = simp and-false
  initialise-2 (x ∷ r) =
      by_cases (ℕ_discrete x 16) (λ (e : x ≡ 16). simp (e, token-programs, and-true)) (λ o. simp (ne_eqb x 16 o, and-false))

  pub initialise-3 : (d : List ℕ) → initialises_as initialize_account3 id n d ≡ exact initialize_account3 2 id n d
  unfolding initialises_as initialises exact initialize_account3 size total starts same
  initialise-3 [] = simp and-false
  initialise-3 (x ∷ r) =
      by_cases (ℕ_discrete x 18) (λ (e : x ≡ 18). simp (e, token-programs, and-true)) (λ o. simp (ne_eqb x 18 o, and-false))

  -- and nothing else is taken
  pub initialise-one : (d : List ℕ) → initialises id n d ≡ (initialises_as initialize_account id n d || initialises_as initialize_account2 id n d || initialises_as initialize_account3 id n d)
  unfolding initialises_as initialises initialize_account initialize_account2 initialize_account3 starts same
  initialise-one [] = simp and-false
  initialise-one (x ∷ r) =
      by_cases
      (ℕ_discrete x 1)
      (λ (e : x ≡ 1). simp (e, and-true, and-false, or-false))
      (λ a.
      by_cases
      (ℕ_discrete x 16)
      (λ (e : x ≡ 16). simp (e, and-true, and-false, or-false))
      (λ b.
      by_cases
      (ℕ_discrete x 18)
      (λ (e : x ≡ 18). simp (e, and-true, and-false))
      (λ c. simp (ne_eqb x 1 a, ne_eqb x 16 b, ne_eqb x 18 c, and-false))))

  pub initialise-accepts : (d : List ℕ) → initialises id n d ≡ (exact initialize_account 2 id n d || exact initialize_account2 2 id n d || exact initialize_account3 2 id n d)
  initialise-accepts d = initialise-one d ∙ rw (initialise-1 d, initialise-2 d, initialise-3 d)

-- published and not taken; taken and not published
abbrev pub Listed : Bool → Bool → Bool → Bool → Type 0
Listed published taken missed added = ((published && not taken) ≡ missed) × ((taken && not published) ≡ added)

-- a longer instruction is missed; q says that program and tag are right, k accounts are published, m enough
longer : (q : Bool) (len z m k n : ℕ) → m ≤ k → (q && leb z len && leb k n && not (q && eqb len z && leb m n)) ≡ (q && leb z len && leb k n && ltb z len)
longer false len z m k n h = refl
longer true len z m k n h = go (leb z len) refl (leb k n) refl
  where
    go : (a : Bool) → leb z len ≡ a → (b : Bool) → leb k n ≡ b → (a && b && not (eqb len z && leb m n)) ≡ (a && b && ltb z len)
    go false e b f = refl
    go true e false f = refl
    go true e true f =
        by_cases
        (ℕ_discrete len z)
        (λ q. rw (eq-eqb len z q, le-leb m n (omega (arith, leb-true k n f)), le-ltb z len (omega arith)))
        (λ q. rw (ne_eqb len z q, lt-ltb z len (omega (arith, leb-true z len e))))

-- one with fewer accounts is added
fewer : (q : Bool) (len z m k n : ℕ) → (q && eqb len z && leb m n && not (q && leb z len && leb k n)) ≡ (q && eqb len z && leb m n && ltb n k)
fewer false len z m k n = refl
fewer true len z m k n =
    by_cases
    (ℕ_discrete len z)
    (λ q. rw (eq-eqb len z q, le-leb z len (omega arith)) (go (leb k n) refl))
    (λ q. rw (ne_eqb len z q))
  where
    go : (b : Bool) → leb k n ≡ b → (leb m n && not b) ≡ (leb m n && ltb n k)
    go true e = rw (le-ltb n k (leb-true k n e))
    go false e = rw (lt-ltb n k (leb-false k n e))

-- so of every layout: missed is what is longer than its fields, and added what has fewer accounts
pub exact-listed : (l : Layout) (m : ℕ) (id : Id) (n : ℕ) (d : List ℕ) → m ≤ length l.accounts → Listed (has_layout l id n d) (exact l m id n d) (has_layout l id n d && ltb (size l) (length d)) (exact l m id n d && ltb n (length l.accounts))
unfolding has_layout exact
exact-listed l m id n d h =
    let q = one_of l.programs id && starts l.tag d in
    (longer q (length d) (size l) m (length l.accounts) n h, fewer q (length d) (size l) m (length l.accounts) n)

-- as many accounts are wanted as are published: nothing is added
no-fewer : (q : Bool) (k n : ℕ) → (q && leb k n && ltb n k) ≡ false
no-fewer q k n = go (leb k n) refl
  where
    go : (b : Bool) → leb k n ≡ b → (q && b && ltb n k) ≡ false
    go true e = rw (le-ltb n k (leb-true k n e)) (and-false (q && true))
    go false e = rw (and-false q)

pub exact-missed : (l : Layout) (id : Id) (n : ℕ) (d : List ℕ) → Listed (has_layout l id n d) (exact l (length l.accounts) id n d) (has_layout l id n d && ltb (size l) (length d)) false
unfolding exact
exact-missed l id n d =
    let x = exact-listed l (length l.accounts) id n d (omega arith) in
    (x.0, x.1 ∙ no-fewer (one_of l.programs id && starts l.tag d && eqb (length d) (size l)) (length l.accounts) n)

-- equal tests miss and add nothing
pub agree-listed : (published : Bool) → Listed published published false false
agree-listed true = (refl, refl)
agree-listed false = (refl, refl)

-- THE LIST, of the token instructions
module _ (id : Id) (n : ℕ) (d : List ℕ) where
  pub transfer-listed : Listed (has_layout transfer_layout id n d) (plain_transfer id n d) false false
  transfer-listed = rw (plain-agrees id n d) (agree-listed (has_layout transfer_layout id n d))

  pub transfer-checked-listed : Listed (has_layout transfer_checked id n d) (checked_transfer id n d) false false
  transfer-checked-listed = rw (checked-agrees id n d) (agree-listed (has_layout transfer_checked id n d))

  pub transfer-with-fee-listed : Listed (has_layout transfer_checked_with_fee id n d) (fee_transfer id n d) false false
  transfer-with-fee-listed = rw (fee-agrees id n d) (agree-listed (has_layout transfer_checked_with_fee id n d))

  pub initialize-listed : Listed (has_layout initialize_account id n d) (initialises_as initialize_account id n d) (has_layout initialize_account id n d && ltb 1 (length d)) (initialises_as initialize_account id n d && ltb n 4)
  unfolding initialize_account size total
  initialize-listed = rw (initialise-1 id n d) (exact-listed initialize_account 2 id n d (omega arith))

  pub initialize-2-listed : Listed (has_layout initialize_account2 id n d) (initialises_as initialize_account2 id n d) (has_layout initialize_account2 id n d && ltb 33 (length d)) (initialises_as initialize_account2 id n d && ltb n 3)
  unfolding initialize_account2 size total
  initialize-2-listed = rw (initialise-2 id n d) (exact-listed initialize_account2 2 id n d (omega arith))

  pub initialize-3-listed : Listed (has_layout initialize_account3 id n d) (initialises_as initialize_account3 id n d) (has_layout initialize_account3 id n d && ltb 33 (length d)) false
  unfolding initialize_account3 size total
  initialize-3-listed = rw (initialise-3 id n d) (exact-missed initialize_account3 id n d)

-- NO TWO LAYOUTS SHARE A BEGINNING, so data is taken as one of them at most
abbrev pub tag_at : ℕ → List ℕ
tag_at k = (get_or layouts k system_transfer).tag

-- computed: every tag has a first byte, and no two the same
abbrev apart : ℕ → ℕ → Bool
apart j k = eqb j k || not (eqb (get_or (tag_at j) 0 0) (get_or (tag_at k) 0 0))

abbrev alone : ℕ → Bool
alone j = ltb 0 (length (tag_at j)) && all_below (apart j) (length layouts)

all-alone : all_below alone (length layouts) ≡ true
unfolding layouts system_transfer initialize_account initialize_account2 initialize_account3 transfer_layout transfer_checked transfer_checked_with_fee sync_native close_account
all-alone = refl

begins : (p d : List ℕ) → 0 < length p → starts p d ≡ true → get_or d 0 0 ≡ get_or p 0 0
unfolding starts same
begins [] d h e = absurd (omega arith)
begins (x ∷ p) [] h e = absurd (false≢true e)
begins (x ∷ p) (y ∷ d) h e = eqb-true y x (and_left (eqb y x) (same (take (length p) d) p) e)

only-left : (a b : Bool) → b ≡ true → (a || not b) ≡ true → a ≡ true
only-left true b e f = refl
only-left false true e f = f
only-left false false e f = e

pub tags-apart : (j k : ℕ) → j < length layouts → k < length layouts → (d : List ℕ) → starts (tag_at j) d ≡ true → starts (tag_at k) d ≡ true → j ≡ k
tags-apart j k hj hk d ej ek =
    let x = below_at alone (length layouts) all-alone j hj in
    let y = below_at alone (length layouts) all-alone k hk in
    let there-j = ltb-true 0 (length (tag_at j)) (and_left (ltb 0 (length (tag_at j))) (all_below (apart j) (length layouts)) x) in
    let there-k = ltb-true 0 (length (tag_at k)) (and_left (ltb 0 (length (tag_at k))) (all_below (apart k) (length layouts)) y) in
    let first : get_or (tag_at j) 0 0 ≡ get_or (tag_at k) 0 0 = sym (begins (tag_at j) d there-j ej) ∙ begins (tag_at k) d there-k ek in
    let other = below_at (apart j) (length layouts) (and_right (ltb 0 (length (tag_at j))) (all_below (apart j) (length layouts)) x) k hk in
    eqb-true j k (only-left (eqb j k) (eqb (get_or (tag_at j) 0 0) (get_or (tag_at k) 0 0)) (eq-eqb (get_or (tag_at j) 0 0) (get_or (tag_at k) 0 0) first) other)

-- the smallest example of each difference: a byte too many, or accounts too few
pub longer-1 : (has_layout initialize_account SplToken 4 (1 ∷ 0 ∷ []) ≡ true) × (initialises SplToken 4 (1 ∷ 0 ∷ []) ≡ false)
unfolding has_layout one_of initialize_account size total starts same initialises is_token
longer-1 = (refl, refl)

pub longer-2 : (has_layout initialize_account2 SplToken 3 (16 ∷ zeros 33) ≡ true) × (initialises SplToken 3 (16 ∷ zeros 33) ≡ false)
unfolding has_layout one_of initialize_account2 size total starts same initialises is_token
longer-2 = (refl, refl)

pub longer-3 : (has_layout initialize_account3 SplToken 2 (18 ∷ zeros 33) ≡ true) × (initialises SplToken 2 (18 ∷ zeros 33) ≡ false)
unfolding has_layout one_of initialize_account3 size total starts same initialises is_token
longer-3 = (refl, refl)

pub fewer-1 : (has_layout initialize_account SplToken 2 (1 ∷ []) ≡ false) × (initialises SplToken 2 (1 ∷ []) ≡ true)
unfolding has_layout one_of initialize_account size total starts same initialises is_token
fewer-1 = (refl, refl)

pub fewer-2 : (has_layout initialize_account2 SplToken 2 (16 ∷ zeros 32) ≡ false) × (initialises SplToken 2 (16 ∷ zeros 32) ≡ true)
unfolding has_layout one_of initialize_account2 size total starts same initialises is_token
fewer-2 = (refl, refl)
