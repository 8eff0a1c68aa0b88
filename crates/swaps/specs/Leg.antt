-- A leg as a value: the original's `RouteSwapLeg`, but for its position and its program.
-- An `Option` of these is the original's; the code's own is called `Answer` here.
-- Assumes nothing.
use Rattle.std.specs.Prelude.{ℕ, Bool, false, cond, ◌&&◌, ◌||◌, List, [], ◌∷◌, Option as Answer, option_map, Some, None, eqb}
use Rattle.std.proofs.Math.Option.{Option, none, some}
use Rattle.wire.specs.Same.{same}
use Rattle.ids.specs.Keys.{Key, is_zero}
use Rattle.swaps.specs.declared.Pair.{Pair}
use Rattle.swaps.specs.declared.Swap.{Swap}

-- `exact` is `amount_specified_is_input`, `amount` and `threshold` are `specified_amount` and `other_amount_threshold`;
-- `protocol` is 1 to 8 in the order of `SwapProtocol`, `mode` is `stonkfun_mode`: 0 none, 1 standard, 2 reward
pub record RouteLeg : Type 0 where
  pub protocol : ℕ
  pub pool : Key
  pub trader : Key
  pub input : Key
  pub output : Key
  pub input_mint : Option Key
  pub output_mint : Option Key
  pub exact : Bool
  pub amount : ℕ
  pub threshold : ℕ
  pub mode : ℕ
  pub graduated : Bool

-- a key that is not zero: `.filter(|mint| *mint != Pubkey::default())`
abbrev pub non_zero : Key → Option Key
non_zero k = cond (is_zero k) none (some k)

-- one side of `explicit_pair`, where there is a pair and its key is not zero: κ gives the key of the account
abbrev pub explicit : (ℕ → Key) → Answer ℕ → Option Key
explicit κ None = none
explicit κ (Some i) = non_zero (κ i)

-- `or_else`: the first, or the second where there is no first
abbrev pub or_else : Option Key → Option Key → Option Key
or_else none o = o
or_else (some k) o = some k

-- `graduated.contains(&pool)`: whether one of the keys is k
unfoldable pub contains : List Key → Key → Bool
contains [] k = false
contains (p ∷ ps) k = same p k || contains ps k

-- the `RouteSwapLeg` at the end of `swap`: κ gives the key of each account; then the mints known of the input and of the output, and the graduated pools
abbrev pub leg_with : (ℕ → Key) → Option Key → Option Key → List Key → Swap → RouteLeg
leg_with κ known_in known_out pools s =
    record {
      protocol = s.protocol;
      pool = κ s.pool;
      trader = κ s.trader;
      input = κ s.input;
      output = κ s.output;
      input_mint = or_else known_in (explicit κ (option_map (λ (p : Pair). p.input) s.pair));
      output_mint = or_else known_out (explicit κ (option_map (λ (p : Pair). p.output) s.pair));
      exact = s.exact;
      amount = s.amount;
      threshold = s.threshold;
      mode = s.mode;
      graduated = eqb s.protocol 3 && contains pools (κ s.pool);
    }

-- the same with `mints.get(&input)` and `mints.get(&output)`, which μ answers
unfoldable pub valued : (ℕ → Key) → (Key → Option Key) → List Key → Answer Swap → Option RouteLeg
valued κ μ pools None = none
valued κ μ pools (Some s) = some (leg_with κ (μ (κ s.input)) (μ (κ s.output)) pools s)
