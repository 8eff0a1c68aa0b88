-- Rows of one item more, placed behind those so far: what the loops over the invocations cite.
-- Assumes nothing.
use mathlib.Core.Path.{◌≡◌, refl, ap, ◌∙◌}
use mathlib.Core.List.{List, [], ◌∷◌, ◌++◌, append_assoc, append-nil}
use Prim.Native.Nat.{ℕ, zero, suc, ◌+◌, ◌*◌}
use native.Mathlib.Nat.{add-zero, zero-add, add-suc, suc-add}
use native.Mathlib.Numerals.{add-one}
use native.Mathlib.Omega.{arith}
use lib.ListN.{length, get_or, set, length-append}
use Rattle.wire.proofs.Sets.{sets-next}
use lib.Seq.{sets}
use Rattle.wire.specs.Tab.{tab}
use Rattle.wire.proofs.Tab.{tab-length}
use Rattle.ids.specs.declared.Id.{Id}
use Rattle.pack.specs.Invocation.{Instruction}
use Rattle.pack.specs.Sections.{section_of}
use Rattle.evidence.specs.MintTable.{MintRow}
use Rattle.route.specs.declared.candidate.Candidate.{Candidate}
use Rattle.route.specs.Arrays.{item_at}
use Rattle.route.specs.Known.{Puts, Fills, row_number_at, Numbers}
use Rattle.route.specs.Lay.{rows_of, placed}

-- one number more
pub tab-snoc : {A : Type 0} (f : ℕ → A) (i n : ℕ) → tab f i (suc n) ≡ tab f i n ++ (f (i + n) ∷ [])
unfolding tab
tab-snoc f i zero = rw add-zero
tab-snoc f i (suc n) = ap (λ l. f i ∷ l) (tab-snoc f (suc i) n ∙ rw (suc-add i n, ← add-suc i n))

-- one item more
pub rows_of-snoc : {A : Type 0} (f : ℕ → A → List (List ℕ)) (i : ℕ) (l : List A) (x : A) → rows_of f i (l ++ (x ∷ [])) ≡ rows_of f i l ++ f (i + length l) x
unfolding rows_of
rows_of-snoc f i [] x = rw (add-zero, append-nil)
rows_of-snoc f i (y ∷ l) x = rw (rows_of-snoc f (suc i) l x, suc-add i (length l), ← add-suc i (length l), append_assoc)

-- rows after rows
pub placed-append : (w k : ℕ) (a b : List (List ℕ)) (t : List ℕ) → placed w k (a ++ b) t ≡ placed w (k + length a) b (placed w k a t)
unfolding placed
placed-append w k [] b t = rw add-zero
placed-append w k (r ∷ a) b t = rw (placed-append w (suc k) a b (sets t (k * w) r), suc-add k (length a), ← add-suc k (length a))

-- the items so far and one more, for a loop over x 0, x 1, ..
module _ {A : Type 0} (f : ℕ → A → List (List ℕ)) (x : ℕ → A) (i : ℕ) where
  -- the rows of one item more
  pub rows_snoc : rows_of f 0 (tab x 0 (i + 1)) ≡ rows_of f 0 (tab x 0 i) ++ f i (x i)
  rows_snoc = rw (add-one i, tab-snoc x 0 i, zero-add, rows_of-snoc f 0 (tab x 0 i) (x i), tab-length x 0 i, zero-add)

  -- are placed behind those so far
  pub rows_more : (w : ℕ) (t₀ t u : List ℕ) (k : ℕ)
      → t ≡ placed w 0 (rows_of f 0 (tab x 0 i)) t₀
      → k ≡ length (rows_of f 0 (tab x 0 i))
      → u ≡ placed w k (f i (x i)) t
      → u ≡ placed w 0 (rows_of f 0 (tab x 0 (i + 1))) t₀
  rows_more w t₀ t u k p q r =
      rw (r, p, q, rows_snoc, placed-append w 0 (rows_of f 0 (tab x 0 i)) (f i (x i)) t₀, zero-add)

  -- and counted
  pub count-more : (k n : ℕ) → k ≡ length (rows_of f 0 (tab x 0 i)) → n ≡ length (f i (x i)) → k + n ≡ length (rows_of f 0 (tab x 0 (i + 1)))
  count-more k n p q = rw (p, q, rows_snoc, length-append (rows_of f 0 (tab x 0 i)) (f i (x i)))

-- one row more, where every item gives one
pub placed-more : (w : ℕ) (f : ℕ → List ℕ) (i : ℕ) (t₀ t u : List ℕ) → t ≡ placed w 0 (tab f 0 i) t₀ → u ≡ sets t (i * w) (f i) → u ≡ placed w 0 (tab f 0 (i + 1)) t₀
unfolding placed
placed-more w f i t₀ t u p q =
    rw (q, p, add-one i, tab-snoc f 0 i, zero-add, placed-append w 0 (tab f 0 i) (f i ∷ []) t₀, tab-length f 0 i, zero-add)

-- one number more in an array
pub array-more : (g : ℕ → ℕ) (i : ℕ) (a₀ a : List ℕ) → a ≡ sets a₀ 0 (tab g 0 i) → set a i (g i) ≡ sets a₀ 0 (tab g 0 (i + 1))
array-more g i a₀ a p =
    rw (p, add-one i, tab-snoc g 0 i, zero-add)
    (sets-next a₀ 0 (tab g 0 i) (g i ∷ []) i (zero-add (length (tab g 0 i)) ∙ tab-length g 0 i))

-- invocation i, whose program is id, as a candidate for row k; at has the offset of each
abbrev pub candidate : List ℕ → Id → ℕ → ℕ → Candidate
candidate at id i k = record { program = id; at = get_or at i 0; number = i; row = k }

-- nothing is written yet; and one candidate more
module _ (ms p at : List ℕ) (f : List MintRow → ℕ → Instruction → List (List ℕ)) where
  pub fills-none : (w : ℕ) (t : List ℕ) → Fills ms p at f w 0 0 t t
  unfolding tab rows_of placed
  fills-none w t = record { few = omega arith; counted = λ table h. refl; rows = λ table h. refl }

  pub fills-more : (id : Id) (w i k r : ℕ) (t₀ t u : List ℕ)
      → Fills ms p at f w i k t₀ t
      → Puts ms (section_of p 0) p f w (candidate at id i k) r t u
      → Fills ms p at f w (i + 1) (k + r) t₀ u
  fills-more id w i k r t₀ t u a b =
      let few = a.few in
      let more = b.few in
      record {
        few = omega arith;
        counted = λ table h. count-more (f table) (item_at p at) i k r (a.counted table h) (b.counted table h);
        rows = λ table h. rows_more (f table) (item_at p at) i w t₀ t u k (a.rows table h) (a.counted table h) (b.rows table h);
      }

  pub numbers-none : (t : List ℕ) → Numbers ms p at f 0 t t
  unfolding tab
  numbers-none t = record { each = λ table h. refl }

  pub numbers_more : (id : Id) (w i k r : ℕ) (t₀ t u : List ℕ) (a₀ a : List ℕ)
      → Numbers ms p at f i a₀ a
      → Fills ms p at f w i k t₀ t
      → Puts ms (section_of p 0) p f w (candidate at id i k) r t u
      → Numbers ms p at f (i + 1) a₀ (set a i (r * suc k))
  unfolding row_number_at
  numbers_more id w i k r t₀ t u a₀ a c q b =
      record {
        each = λ table h. rw (b.counted table h, q.counted table h) (array-more (row_number_at (f table) (item_at p at)) i a₀ a (c.each table h));
      }
