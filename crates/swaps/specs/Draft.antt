-- The numbers of a leg, as a protocol's function makes them. Accounts are places among the instruction's accounts: 2 is the original's `a(2)`.
-- Assumes nothing.
use Rattle.std.specs.Prelude.{ℕ, Bool, cond, Some, None}
use Rattle.swaps.specs.declared.Pair.{Pair}
use Rattle.swaps.specs.declared.Swap.{Swap}

-- `(protocol, pool, trader, input, output, exact_in, amount, threshold)`, with no `explicit_pair` and no `mode`
abbrev pub bare_swap : ℕ → ℕ → ℕ → ℕ → ℕ → Bool → ℕ → ℕ → Swap
bare_swap protocol pool trader input output exact amount threshold =
    record {
      protocol = protocol;
      pool = pool;
      trader = trader;
      input = input;
      output = output;
      exact = exact;
      amount = amount;
      threshold = threshold;
      mode = 0;
      pair = None;
    }

-- the same where the data's `first` and `second` are amount and threshold when it is `exact_in`, and threshold and amount when not
abbrev pub stated : ℕ → ℕ → ℕ → ℕ → ℕ → Bool → ℕ → ℕ → Swap
stated protocol pool trader input output exact first second =
    bare_swap protocol pool trader input output exact (cond exact first second) (cond exact second first)

-- with `explicit_pair` Some((x, y)): the accounts that are the mints of the input and of the output
abbrev pub pairing : Swap → ℕ → ℕ → Swap
pairing s x y = record s { pair = Some (record { input = x; output = y }) }

-- with the pair (x, y) if the test holds, else (y, x)
abbrev pub pair_by : Bool → ℕ → ℕ → Swap → Swap
pair_by test x y s = pairing s (cond test x y) (cond test y x)

-- with `mode` m
abbrev pub in_mode : ℕ → Swap → Swap
in_mode m s = record s { mode = m }

-- (x, y) if the test holds, else (y, x)
abbrev pub in_order : {A : Type 0} → Bool → A → A → A × A
in_order test x y = (cond test x y, cond test y x)

-- the same as a pair of accounts
abbrev pub pair_of : Bool → ℕ → ℕ → Pair
pair_of test x y = record { input = cond test x y; output = cond test y x }
