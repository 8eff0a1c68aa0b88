-- How many keys and kept invocations are taken, and that balances name keys: the refusals 5, 11 and 6, in this order. The tests before theirs are passed, so
-- these three decide.
-- Assumes nothing.
use Prim.Native.Nat.{ℕ, ◌<◌, ◌≤◌}
use mathlib.Core.Path.{◌≡◌}
use mathlib.Core.Bool.{true, false, cond, not}
use mathlib.Core.List.{List, []}
use native.Mathlib.Omega.{arith}
use borrow.Author.Tests.{lt-ltb, le-ltb}
use lib.Dec.{ltb}
use lib.ListN.{length}
use Rattle.std.specs.Prelude.{Ok, Err}
use Rattle.pack.specs.declared.Refusal.TheVariants.{Keys, Balances, Invocations}
use Rattle.pack.specs.Sections.{marked, ordered, section_of}
use Rattle.pack.specs.Items.{rows_fill, keys_fill, outers_whole, groups_whole}
use Rattle.pack.specs.View.{balances_named, view_of}
use Rattle.pack.specs.Flatten.{flatten_from, flatten}
use Rattle.pack.specs.Verdict.{verdict}

-- a pack that meets none of the refusals 2 to 4
pub record Whole (p : List ℕ) : Type 0 where
  pub mark : marked p ≡ true
  pub starts : ordered p ≡ true
  pub keys : keys_fill (section_of p 0) ≡ true
  pub balances : rows_fill 36 (section_of p 1) ≡ true
  pub outers : outers_whole (section_of p 2) ≡ true
  pub groups : groups_whole (section_of p 3) ≡ true
  pub pools : rows_fill 32 (section_of p 4) ≡ true

module _ (p : List ℕ) (w : Whole p) where
  -- is judged by its counts and its balances
  by-counts : verdict p
      ≡ cond (ltb 256 (length (view_of p).keys)) (Err Keys) (cond (not (balances_named (length (view_of p).keys) (view_of p).balances)) (Err Balances) (cond (ltb 1024 (length (flatten (view_of p)))) (Err Invocations) (Ok tt)))
  unfolding verdict
  by-counts = rw (w.mark, w.starts, w.keys, w.balances, w.outers, w.groups, w.pools)

  -- more than 256 keys are not taken, whatever the balances name and however many invocations there are
  pub more-keys : 256 < length (view_of p).keys → verdict p ≡ Err Keys
  more-keys k = rw (by-counts, lt-ltb 256 (length (view_of p).keys) k)

  module _ (k : length (view_of p).keys ≤ 256) where
    few_keys : ltb 256 (length (view_of p).keys) ≡ false
    few_keys = le-ltb 256 (length (view_of p).keys) k

    -- nor is a balance row that names none of them, however many invocations there are
    pub unnamed : balances_named (length (view_of p).keys) (view_of p).balances ≡ false → verdict p ≡ Err Balances
    unnamed b = rw (by-counts, few_keys, b)

    -- where each names one, up to 1,024 kept invocations are taken
    module _ (b : balances_named (length (view_of p).keys) (view_of p).balances ≡ true) where
      pub most : length (flatten (view_of p)) ≤ 1024 → verdict p ≡ Ok tt
      most n = rw (by-counts, few_keys, b, le-ltb 1024 (length (flatten (view_of p))) n)

      -- and more are not
      pub more-invocations : 1024 < length (flatten (view_of p)) → verdict p ≡ Err Invocations
      more-invocations n = rw (by-counts, few_keys, b, lt-ltb 1024 (length (flatten (view_of p))) n)

      -- where there is no outer instruction all groups are dropped, and none of their instructions counts
      pub all-dropped : (view_of p).outer ≡ [] → verdict p ≡ Ok tt
      unfolding flatten flatten_from
      all-dropped o = most (rw o (omega arith))
