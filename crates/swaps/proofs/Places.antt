-- A protocol takes an instruction only with so many accounts that every place of its leg is among them.
-- Assumes nothing.
use mathlib.Core.Path.{◌≡◌, refl}
use mathlib.Core.Bool.{Bool, true, false, cond, ◌&&◌, ◌||◌}
use mathlib.Core.List.{List}
use Prim.Native.Nat.{ℕ, ◌-◌, ◌≤◌, ◌<◌}
use native.Mathlib.Omega.{arith}
use borrow.Author.Tests.{leb-true, eqb-true, eqb-false}
use lib.Dec.{leb, eqb}
use lib.ListN.{length, get_or}
use Rattle.wire.specs.Le.{le}
use Rattle.wire.specs.Same.{same}
use Rattle.wire.proofs.Below.{and_left, and_right}
use Rattle.ids.specs.Ids.{is_wrapped_sol}
use Rattle.ids.specs.Keys.{Key}
use Rattle.ids.specs.declared.Id.{Id}
use Rattle.ids.specs.declared.Id.TheVariants.{SplToken, Token2022, WrappedSol, ComputeBudget, AssociatedToken, Memo, PumpFun, LaunchLab, PumpSwap, Clmm, Cpmm, AmmV4, Orca, Dlmm, System, Other, Unresolved}
use Rattle.std.specs.Prelude.{Option, Some}
use Rattle.swaps.specs.declared.Swap.{Swap}
use Rattle.swaps.specs.declared.pumpfun.Places.{Places}
use Rattle.swaps.specs.Discriminators.{SWAP, SWAP_V2, SWAP2, SWAP_EXACT_OUT, SWAP_EXACT_OUT2, BUY_EXACT_IN, SELL_EXACT_IN, BUY_EXACT_OUT, SELL_EXACT_OUT, BUY_V2, SELL_V2, BUY_EXACT_QUOTE_IN, BUY_EXACT_QUOTE_IN_V2, SELL}
use Rattle.swaps.specs.Data.{is, is_flag, flag, when}
use Rattle.swaps.specs.Draft.{bare_swap, stated, pairing, pair_by, in_mode}
use Rattle.swaps.specs.Clmm.{clmm_takes, clmm_leg, clmm}
use Rattle.swaps.specs.Orca.{orca_takes, orca_v1, orca_v2, orca}
use Rattle.swaps.specs.Cpmm.{cpmm_leg, cpmm}
use Rattle.swaps.specs.Dlmm.{slices_fit, swap_layout, dlmm_leg, dlmm}
use Rattle.swaps.specs.LaunchLab.{mode_of, launch_lab_leg, launch_lab}
use Rattle.swaps.specs.PumpFun.{is_v2, is_v3, is_buy, is_exact, pump_fun_takes, pump_fun_places, pump_fun_leg, pump_fun}
use Rattle.swaps.specs.PumpSwap.{track_volume, pump_swap_takes, pump_swap_leg, pump_swap}
use Rattle.swaps.specs.AmmV4.{amm_v4_short, amm_v4_long, amm_v4}
use Rattle.swaps.specs.Swap.{by_program}
use Rattle.swaps.proofs.Among.{Within, Among, two, three, crossed, forms, straight}

module _ (n : ℕ) where
  clmm-within : (v2 exact : Bool) (x y : ℕ) → leb (cond v2 13 10) n ≡ true → Within n (clmm_leg v2 exact x y)
  unfolding clmm_leg
  clmm-within true exact x y e = let h = leb-true 13 n e in omega arith
  clmm-within false exact x y e = let h = leb-true 10 n e in omega arith

  clmm-among : (d : List ℕ) → Among n (clmm n d)
  unfolding clmm
  clmm-among d =
      three n (clmm_takes n d) (is_flag d 40) (leb 24 (length d)) (clmm_leg (is d SWAP_V2) (flag d 40) (le 8 d 8) (le 8 d 16))
      (λ e. clmm-within (is d SWAP_V2) (flag d 40) (le 8 d 8) (le 8 d 16) (and_right (is d SWAP || is d SWAP_V2) _ e))

  orca-within : (a : ℕ → Key) (v2 direction exact : Bool) (x y : ℕ) → leb (cond v2 15 11) n ≡ true
      → Within n (cond v2 (orca_v2 a direction exact x y) (orca_v1 direction exact x y))
  unfolding orca_v1 orca_v2
  orca-within a true direction exact x y e =
      let h = leb-true 15 n e in
      crossed n (same (a (cond direction 7 9)) (a 7)) direction exact 6 4 3 7 9 5 6 x y (omega arith)
  orca-within a false true exact x y e = let h = leb-true 11 n e in omega arith
  orca-within a false false exact x y e = let h = leb-true 11 n e in omega arith

  orca-among : (a : ℕ → Key) (d : List ℕ) → Among n (orca a n d)
  unfolding orca
  orca-among a d =
      three n (orca_takes n d) (is_flag d 40) (leb 24 (length d))
      (cond (is d SWAP_V2) (orca_v2 a (flag d 41) (flag d 40) (le 8 d 8) (le 8 d 16)) (orca_v1 (flag d 41) (flag d 40) (le 8 d 8) (le 8 d 16)))
      (λ e. orca-within a (is d SWAP_V2) (flag d 41) (flag d 40) (le 8 d 8) (le 8 d 16) (and_right (is_flag d 41) _ (and_right (is d SWAP || is d SWAP_V2) _ e)))

  cpmm-leg : (d : List ℕ) (exact : Bool) → 13 ≤ n → Among n (cpmm_leg d exact)
  cpmm-leg d exact h = go (leb 24 (length d))
    where
      go : (u : Bool) → Among n (when u (Some (pairing (stated 3 3 0 4 5 exact (le 8 d 8) (le 8 d 16)) 10 11)))
      go true = omega arith
      go false = tt

  cpmm-among : (names d : List ℕ) → Among n (cpmm names n d)
  unfolding cpmm
  cpmm-among names d = forms n (leb 13 n) (is d (le 8 names 0)) (is d (le 8 names 8)) (cpmm_leg d) (λ e exact. cpmm-leg d exact (leb-true 13 n e))

  -- either layout has 15 accounts
  floored : (p q r s : Bool) → cond p (leb 15 n && r) (cond q (leb 16 n && s) false) ≡ true → 15 ≤ n
  floored true q r s e = leb-true 15 n (and_left (leb 15 n) r e)
  floored false true r s e = let h = leb-true 16 n (and_left (leb 16 n) s e) in omega arith
  floored false false r s e = let z : ◌≡◌ {A = ℕ} 0 1 = cc in omega arith

  dlmm-among : (d : List ℕ) → Among n (dlmm n d)
  unfolding dlmm swap_layout
  dlmm-among d =
      forms n (swap_layout n d) (is d SWAP || is d SWAP2) (is d SWAP_EXACT_OUT || is d SWAP_EXACT_OUT2) (dlmm_leg d) (λ e exact.
      let h = floored (is d SWAP || is d SWAP_EXACT_OUT) (is d SWAP2 || is d SWAP_EXACT_OUT2) (leb 24 (length d)) (slices_fit n d) e in
      straight n (leb 24 (length d)) exact 7 0 10 4 5 (le 8 d 8) (le 8 d 16) (omega arith))

  launchlab-forms : (t p q r s : Bool) (f : Bool → Bool → Option Swap) → (t ≡ true → (buy exact : Bool) → Among n (f buy exact))
      → Among n (when t (cond p (f true true) (cond q (f false true) (cond r (f true false) (when s (f false false))))))
  launchlab-forms false p q r s f h = tt
  launchlab-forms true true q r s f h = h refl true true
  launchlab-forms true false true r s f h = h refl false true
  launchlab-forms true false false true s f h = h refl true false
  launchlab-forms true false false false true f h = h refl false false
  launchlab-forms true false false false false f h = tt

  launchlab-leg : (names : List ℕ) (a : ℕ → Key) (d : List ℕ) (buy exact : Bool) → 15 ≤ n → Among n (launch_lab_leg names a d buy exact)
  unfolding launch_lab_leg
  launchlab-leg names a d buy exact h = go (leb 24 (length d))
    where
      s : Within n (pair_by (same (a (cond buy 6 5)) (a 6)) 10 9 (bare_swap 2 4 0 (cond buy 6 5) (cond buy 5 6) exact (le 8 d 8) (le 8 d 16)))
      s = crossed n (same (a (cond buy 6 5)) (a 6)) buy exact 2 4 0 6 5 10 9 (le 8 d 8) (le 8 d 16) (omega arith)

      go : (u : Bool)
          → Among n (when u (Some (in_mode (mode_of names (a 3))
          (pair_by (same (a (cond buy 6 5)) (a 6)) 10 9 (bare_swap 2 4 0 (cond buy 6 5) (cond buy 5 6) exact (le 8 d 8) (le 8 d 16))))))
      go true = record { pool = s.pool; trader = s.trader; input = s.input; output = s.output; pair = s.pair }
      go false = tt

  launchlab-among : (names : List ℕ) (a : ℕ → Key) (d : List ℕ) → Among n (launch_lab names a n d)
  unfolding launch_lab
  launchlab-among names a d =
      launchlab-forms (leb 15 n) (is d BUY_EXACT_IN) (is d SELL_EXACT_IN) (is d BUY_EXACT_OUT) (is d SELL_EXACT_OUT) (launch_lab_leg names a d) (λ e buy exact.
      launchlab-leg names a d buy exact (leb-true 15 n e))

  pumpfun-leg : (p : Places) (wrapped buy exact : Bool) (x y : ℕ) → (p.pool < n) × (p.user < n) × (p.base < n) × (p.quote < n) × (2 < n)
      → Within n (pump_fun_leg p wrapped buy exact x y)
  unfolding pump_fun_leg
  pumpfun-leg p wrapped buy exact x y h =
      let money : cond wrapped p.user p.quote < n = go wrapped in
      crossed n buy buy exact 8 p.pool p.user (cond wrapped p.user p.quote) p.base 2 1 x y (h.0, h.1, money, h.2, omega arith, omega arith)
    where
      go : (w : Bool) → cond w p.user p.quote < n
      go true = h.1
      go false = h.3

  pumpfun-within : (v2 buy exact wrapped : Bool) (x y : ℕ) → leb (cond v2 (cond buy 27 26) 17) n ≡ true
      → Within n (pump_fun_leg (pump_fun_places v2) wrapped buy exact x y)
  unfolding pump_fun_places
  pumpfun-within true true exact wrapped x y e =
      let h = leb-true 27 n e in
      pumpfun-leg (pump_fun_places true) wrapped true exact x y (omega arith)
  pumpfun-within true false exact wrapped x y e =
      let h = leb-true 26 n e in
      pumpfun-leg (pump_fun_places true) wrapped false exact x y (omega arith)
  pumpfun-within false buy exact wrapped x y e =
      let h = leb-true 17 n e in
      pumpfun-leg (pump_fun_places false) wrapped buy exact x y (omega arith)

  pumpfun-among : (a : ℕ → Key) (d : List ℕ) → Among n (pump_fun a n d)
  unfolding pump_fun
  pumpfun-among a d =
      two n (pump_fun_takes (is_v2 d) (is_v3 d) (is_buy d) n) (leb 24 (length d))
      (pump_fun_leg (pump_fun_places (is_v2 d)) (is_wrapped_sol (a 2)) (is_buy d) (is_exact d) (le 8 d 8) (le 8 d 16))
      (λ e. pumpfun-within (is_v2 d) (is_buy d) (is_exact d) (is_wrapped_sol (a 2)) (le 8 d 8) (le 8 d 16) (and_right (is_v2 d || is_v3 d) _ e))

  pumpswap-forms : (t p q r : Bool) (f : Bool → Bool → Option Swap) → (t ≡ true → (buy exact : Bool) → Among n (f buy exact))
      → Among n (when t (cond p (f true true) (cond q (f true false) (when r (f false true)))))
  pumpswap-forms false p q r f h = tt
  pumpswap-forms true true q r f h = h refl true true
  pumpswap-forms true false true r f h = h refl true false
  pumpswap-forms true false false true f h = h refl false true
  pumpswap-forms true false false false f h = tt

  pumpswap-leg : (a : ℕ → Key) (d : List ℕ) (buy exact : Bool) → 17 ≤ n → Among n (pump_swap_leg a d buy exact)
  unfolding pump_swap_leg
  pumpswap-leg a d buy exact h =
      two n (track_volume d buy) (leb 24 (length d))
      (pair_by (same (a (cond buy 6 5)) (a 6)) 4 3 (bare_swap 1 0 1 (cond buy 6 5) (cond buy 5 6) exact (le 8 d 8) (le 8 d 16)))
      (λ e. crossed n (same (a (cond buy 6 5)) (a 6)) buy exact 1 0 1 6 5 4 3 (le 8 d 8) (le 8 d 16) (omega arith))

  -- 21 up, or 17
  seventeen : (t u : Bool) → leb 21 n ≡ t → eqb n 17 ≡ u → (t || u) ≡ true → 17 ≤ n
  seventeen true u e f g = let h = leb-true 21 n e in omega arith
  seventeen false true e f g = let h = eqb-true n 17 f in omega arith
  seventeen false false e f g = let z : ◌≡◌ {A = ℕ} 0 1 = cc in omega arith

  pumpswap-among : (names : List ℕ) (a : ℕ → Key) (d : List ℕ) → Among n (pump_swap names a n d)
  unfolding pump_swap
  pumpswap-among names a d =
      pumpswap-forms (pump_swap_takes n)
      (is d BUY_EXACT_QUOTE_IN || is d BUY_EXACT_QUOTE_IN_V2) (is d (le 8 names 16) || is d BUY_V2) (is d SELL || is d SELL_V2) (pump_swap_leg a d)
      (λ e buy exact. pumpswap-leg a d buy exact (seventeen (leb 21 n) (eqb n 17) refl refl e))

  amm-forms : (t p q r : Bool) (x y : Option Swap) → ((t && p) ≡ true → Among n x) → ((q && r) ≡ true → Among n y) → Among n (cond (t && p) x (when (q && r) y))
  amm-forms true true q r x y f g = f refl
  amm-forms true false true true x y f g = g refl
  amm-forms true false true false x y f g = tt
  amm-forms true false false r x y f g = tt
  amm-forms false p true true x y f g = g refl
  amm-forms false p true false x y f g = tt
  amm-forms false p false r x y f g = tt

  amm-long : (tag : ℕ) (d : List ℕ) (t : Bool) → eqb n 17 ≡ t → 17 ≤ n
      → Among n (when (leb 17 (length d)) (Some (stated 4 1 (17 - cond t 1 0) (15 - cond t 1 0) (16 - cond t 1 0) (eqb tag 9) (le 8 d 1) (le 8 d 9))))
  amm-long tag d true e h = straight n (leb 17 (length d)) (eqb tag 9) 4 1 16 14 15 (le 8 d 1) (le 8 d 9) (omega arith)
  amm-long tag d false e h =
      let f = eqb-false n 17 e in
      let k : 17 < n = omega arith in
      straight n (leb 17 (length d)) (eqb tag 9) 4 1 17 15 16 (le 8 d 1) (le 8 d 9) (omega arith)

  amm-among : (d : List ℕ) → Among n (amm_v4 n d)
  unfolding amm_v4
  amm-among d =
      let tag = get_or d 0 0 in
      amm-forms (eqb tag 16 || eqb tag 17) (leb 8 n) (eqb tag 9 || eqb tag 11) (leb 17 n) (amm_v4_short tag d) (amm_v4_long tag n d)
      (λ e.
      let h = leb-true 8 n (and_right (eqb tag 16 || eqb tag 17) (leb 8 n) e) in
      straight n (leb 17 (length d)) (eqb tag 16) 4 1 7 5 6 (le 8 d 1) (le 8 d 9) (omega arith))
      (λ e. amm-long tag d (eqb n 17) refl (leb-true 17 n (and_right (eqb tag 9 || eqb tag 11) (leb 17 n) e)))

  -- whichever the program
  pub among : (names : List ℕ) (a : ℕ → Key) (id : Id) (d : List ℕ) → Among n (by_program names a id n d)
  unfolding by_program
  among names a Clmm d = clmm-among d
  among names a Orca d = orca-among a d
  among names a Cpmm d = cpmm-among names d
  among names a Dlmm d = dlmm-among d
  among names a LaunchLab d = launchlab-among names a d
  among names a PumpFun d = pumpfun-among a d
  among names a PumpSwap d = pumpswap-among names a d
  among names a AmmV4 d = amm-among d
  among names a SplToken d = tt
  among names a Token2022 d = tt
  among names a WrappedSol d = tt
  among names a ComputeBudget d = tt
  among names a AssociatedToken d = tt
  among names a Memo d = tt
  among names a System d = tt
  among names a Other d = tt
  among names a Unresolved d = tt
