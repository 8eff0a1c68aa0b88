-- Rows: how long their fields are, and the search among graduated pools.
-- Assumes nothing.
use mathlib.Core.Path.{◌≡◌, refl, sym, ap, ◌∙◌, subst}
use mathlib.Core.Bool.{Bool, true, false, cond, ◌&&◌}
use mathlib.Core.List.{List, [], ◌∷◌, ◌++◌}
use mathlib.Core.Option.{Option, none, some, none-ne-some, some-injective}
use Prim.Native.Nat.{ℕ, suc}
use Rattle.std.specs.Prelude.{Option as Answer, Some, None, option_map}
use lib.Dec.{eqb}
use lib.ListN.{length, set, length-append}
use lib.Seq.{sets}
use Rattle.wire.specs.Le.{le_bytes}
use Rattle.wire.specs.Same.{same}
use Rattle.wire.proofs.Same.{same_true}
use Rattle.wire.proofs.Sets.{sets-append, sets-whole}
use Rattle.wire.proofs.Laws.{le_bytes-length}
use Rattle.ids.specs.declared.Id.{Id}
use Rattle.ids.specs.Keys.{Key, zero_key, is_zero, key_of, account}
use Rattle.ids.specs.Mints.{is_mint, mint_of, mint_field}
use Rattle.ids.proofs.Keys.{key-length, account-length, mint-length}
use Rattle.swaps.specs.declared.Pair.{Pair}
use Rattle.swaps.specs.declared.Swap.{Swap}
use Rattle.swaps.specs.Leg.{RouteLeg, contains, explicit, or_else, leg_with, valued}
use Rattle.swaps.specs.Swap.{by_program, swap}
use Rattle.swaps.specs.Row.{leg_width, key_bytes, end_bytes, leg_row, side}

-- a key that is not zero is a mint, and the zero key is none
is_key : (key : Key) → is_zero key ≡ false → length key ≡ 32 → is_mint key ≡ true
unfolding is_mint
is_key key f h = rw (f, h)

zero-none : mint_of zero_key ≡ none
unfolding mint_of is_mint same zero_key
zero-none = refl

-- which mint `side` is, by the known one and the explicit pair's
mint-by : (t u : Bool) (m : List ℕ) (key : Key) → is_mint m ≡ t → is_zero key ≡ u → length key ≡ 32
    → mint_of (cond t m key) ≡ or_else (cond t (some m) none) (cond u none (some key))
unfolding mint_of
mint-by true u m key e f h = rw e
mint-by false true m key e f h = rw (same_true key zero_key f) zero-none
mint-by false false m key e f h = rw (is_key key f h)

mint-alone : (t : Bool) (m : List ℕ) → is_mint m ≡ t → mint_of (cond t m zero_key) ≡ or_else (cond t (some m) none) none
unfolding mint_of
mint-alone true m e = rw e
mint-alone false m e = zero-none

pub side-mint : (m : List ℕ) (κ : ℕ → Key) (o : Answer ℕ) → ((j : ℕ) → length (κ j) ≡ 32)
    → mint_of (side m (option_map κ o)) ≡ or_else (mint_of m) (explicit κ o)
unfolding side mint_of
side-mint m κ None long = mint-alone (is_mint m) m refl
side-mint m κ (Some i) long = mint-by (is_mint m) (is_zero (κ i)) m (κ i) refl refl (long i)

-- a mint's field has 33 bytes, whether the mint is known or the pair's
side-length : (o : Option Key) (κ : ℕ → Key) (i : Answer ℕ) → length (mint_field o) ≡ 33 → ((j : ℕ) → length (κ j) ≡ 32)
    → length (mint_field (or_else o (explicit κ i))) ≡ 33
side-length (some m) κ i f long = f
side-length none κ None f long = f
side-length none κ (Some i) f long = go (is_zero (κ i))
  where
    go : (b : Bool) → length (mint_field (cond b none (some (κ i)))) ≡ 33
    go true = f
    go false = ap suc (long i)

-- five keys have 160 bytes
keys_length : (a b c d e : Key) → length a ≡ 32 → length b ≡ 32 → length c ≡ 32 → length d ≡ 32 → length e ≡ 32 → length (key_bytes a b c d e) ≡ 160
unfolding key_bytes
keys_length a b c d e ha hb hc hd he = rw (length-append, length-append, length-append, length-append, ha, hb, hc, hd, he)

-- fields of 4, 1, 160, 33 and 33 bytes, and the rest, stored one after the other
fields_in : (l : List ℕ) (i p : ℕ) (k m n e : List ℕ) → length k ≡ 160 → length m ≡ 33 → length n ≡ 33
    → sets (sets (sets (sets (set (sets l 0 (le_bytes 4 i)) 4 p) 5 k) 165 m) 198 n) 231 e
    ≡ sets l 0 (le_bytes 4 i ++ (p ∷ []) ++ k ++ m ++ n ++ e)
fields_in l i p k m n e hk hm hn = simp (sets-append, length-append, le_bytes-length, hk, hm, hn)

-- the accounts that are the mints of input and output
abbrev inputs : Swap → Answer ℕ
inputs s = option_map (λ (p : Pair). p.input) s.pair

abbrev outputs : Swap → Answer ℕ
outputs s = option_map (λ (p : Pair). p.output) s.pair

-- a leg's row has the width of the table, where keys and known mints have theirs
module _ (i : ℕ) (program : Key) (κ : ℕ → Key) (known_in known_out : Option Key) (pools : List Key)
    (hp : length program ≡ 32) (long : (j : ℕ) → length (κ j) ≡ 32) (hi : length (mint_field known_in) ≡ 33) (ho : length (mint_field known_out) ≡ 33) where
  row-length : (s : Swap) → length (leg_row i program (leg_with κ known_in known_out pools s)) ≡ leg_width
  unfolding leg_row end_bytes
  row-length s =
      let five = keys_length program (κ s.pool) (κ s.trader) (κ s.input) (κ s.output) in
      let k = five hp (long s.pool) (long s.trader) (long s.input) (long s.output) in
      let m = side-length known_in κ (inputs s) hi long in
      let n = side-length known_out κ (outputs s) ho long in
      simp (length-append, le_bytes-length, k, m, n)

-- so has the row of a leg that an instruction is
pub leg-length : (names : List ℕ) (κ : ℕ → Key) → ((j : ℕ) → length (κ j) ≡ 32) → (id : Id) (accounts bytes : List ℕ)
    (μ : Key → Option Key) → ((k : Key) → length (mint_field (μ k)) ≡ 33) → (pools : List Key) {l : RouteLeg}
    → swap names κ id accounts bytes μ pools ≡ some l → (i : ℕ) (program : Key) → length program ≡ 32 → length (leg_row i program l) ≡ leg_width
unfolding swap valued
leg-length names κ long id accounts bytes μ field pools {l} e i program hp = go (by_program names (account κ accounts) id (length accounts) bytes) e
  where
    go : (f : Answer Swap) → valued (account κ accounts) μ pools f ≡ some l → length (leg_row i program l) ≡ leg_width
    go None q = absurd (none-ne-some l q)
    go (Some s) q =
        let known_in = μ (account κ accounts s.input) in
        let known_out = μ (account κ accounts s.output) in
        subst
        (λ (x : RouteLeg). length (leg_row i program x) ≡ leg_width)
        (some-injective (leg_with (account κ accounts) known_in known_out pools s) l q)
        (row-length i program (account κ accounts) known_in known_out pools hp (account-length κ long accounts) (field _) (field _) s)

-- its fields, stored one after the other, fill it
pub row_in : (l : List ℕ) (i : ℕ) (ks : List ℕ) (program : ℕ) (spent bought : List ℕ) (pools : List Key) (s : Swap) → length l ≡ leg_width
    → sets
    (sets
    (sets
    (sets (set (sets l 0 (le_bytes 4 i)) 4 s.protocol) 5
    (key_bytes (key_of ks program) (key_of ks s.pool) (key_of ks s.trader) (key_of ks s.input) (key_of ks s.output)))
    165 (mint_field (or_else (mint_of spent) (explicit (key_of ks) (inputs s)))))
    198 (mint_field (or_else (mint_of bought) (explicit (key_of ks) (outputs s)))))
    231 (end_bytes s.exact s.amount s.threshold s.mode (eqb s.protocol 3 && contains pools (key_of ks s.pool)))
    ≡ leg_row i (key_of ks program) (leg_with (key_of ks) (mint_of spent) (mint_of bought) pools s)
unfolding leg_row
row_in l i ks program spent bought pools s h =
    let k = key-length ks in
    fields_in l i s.protocol
    (key_bytes (key_of ks program) (key_of ks s.pool) (key_of ks s.trader) (key_of ks s.input) (key_of ks s.output))
    (mint_field (or_else (mint_of spent) (explicit (key_of ks) (inputs s))))
    (mint_field (or_else (mint_of bought) (explicit (key_of ks) (outputs s))))
    (end_bytes s.exact s.amount s.threshold s.mode (eqb s.protocol 3 && contains pools (key_of ks s.pool)))
    (keys_length (key_of ks program) (key_of ks s.pool) (key_of ks s.trader) (key_of ks s.input) (key_of ks s.output)
    (k program) (k s.pool) (k s.trader) (k s.input) (k s.output))
    (side-length (mint_of spent) (key_of ks) (inputs s) (mint-length spent) k)
    (side-length (mint_of bought) (key_of ks) (outputs s) (mint-length bought) k)
    ∙ sets-whole l (leg_row i (key_of ks program) (leg_with (key_of ks) (mint_of spent) (mint_of bought) pools s))
    (row-length i (key_of ks program) (key_of ks) (mint_of spent) (mint_of bought) pools (k program) k (mint-length spent) (mint-length bought) s ∙ sym h)
