-- Ends, blocks and tests of n invocations, of which `holds i x` says whether x is a descendant of i.
-- Assumes nothing.
use Rattle.std.specs.Prelude.{ℕ, zero, suc, ◌+◌, ◌-◌, Bool, false, cond, not, ◌&&◌, ◌||◌, ltb}

-- the first of the m numbers from `at` on that is not f; the number after them where all are
unfoldable pub first_not : (ℕ → Bool) → ℕ → ℕ → ℕ
first_not f zero at = at
first_not f (suc m) at = let rest = first_not f m (suc at) in cond (f at) rest at

-- one of the m numbers from `at` on is f
unfoldable pub any_in : (ℕ → Bool) → ℕ → ℕ → Bool
any_in f zero at = false
any_in f (suc m) at = f at || any_in f m (suc at)

-- how many of the m numbers from `at` on are f
unfoldable pub count_in : (ℕ → Bool) → ℕ → ℕ → ℕ
count_in f zero at = 0
count_in f (suc m) at = cond (f at) 1 0 + count_in f m (suc at)

-- f summed over the m numbers from `at` on
unfoldable pub sum_in : (ℕ → ℕ) → ℕ → ℕ → ℕ
sum_in f zero at = 0
sum_in f (suc m) at = f at + sum_in f m (suc at)

module _ (n : ℕ) (holds : ℕ → ℕ → Bool) where
  -- an end is the first later non-descendant, or n
  abbrev pub end_at : ℕ → ℕ
  end_at i = first_not (holds i) (n - (i + 1)) (i + 1)

  -- the end of i, looked for from `at` on
  abbrev pub end_from : ℕ → ℕ → ℕ
  end_from i at = first_not (holds i) (n - at) at

  -- the size of a block: every invocation after i and before its end
  abbrev pub block_size : ℕ → ℕ
  block_size i = end_at i - (i + 1)

  -- x is a member of the block of i
  abbrev pub in_block : ℕ → ℕ → Bool
  in_block i x = ltb i x && ltb x (end_at i)

  -- some member of the block of i is f
  abbrev pub some_in : ℕ → (ℕ → Bool) → Bool
  some_in i f = any_in f (block_size i) (i + 1)

  -- x lies in no block of a member of the block of i
  unfoldable pub atop : ℕ → ℕ → Bool
  atop i x = not (some_in i (λ y. in_block y x))

  -- the tests of one invocation: the members of its block that lie in no other member's, and 1 if it ends before n
  unfoldable pub tests_at : ℕ → ℕ
  tests_at i = count_in (atop i) (block_size i) (i + 1) + cond (ltb (end_at i) n) 1 0

  -- the tests of all
  abbrev pub all_tests : ℕ
  all_tests = sum_in tests_at n 0
