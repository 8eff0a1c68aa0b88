-- Rows that are written to table 0 are read back from its bytes: rows of one width stand one after the other, so they are taken off by that width again.
-- Assumes nothing.
use mathlib.Core.Path.{◌≡◌, refl, sym, ap, ap₂, ◌∙◌}
use mathlib.Core.List.Memᴰ
use mathlib.Core.List.{List, [], ◌∷◌, ◌++◌, map, append_assoc, Memᴰ}
use Prim.Native.Nat.{ℕ, suc, ◌+◌, ◌*◌, ◌/◌, ◌≤◌}
use native.Mathlib.Nat.{zero-mul, suc-mul, zero-add}
use native.Mathlib.Omega.{arith}
use lib.ListN.{length, get_or, take, drop, length-append, length-map, length-replicate}
use lib.Seq.{sets, sets-eq, take_at, drop_at, get_or_at}
use Rattle.wire.specs.Zeros.{zeros}
use Rattle.wire.proofs.Sets.{sets-next}
use Rattle.pack.specs.Items.{rows}
use Rattle.evidence.specs.MintTable.{MintRow}
use Rattle.mints.specs.Bytes.{mint_row}
use Rattle.mints.proofs.Writing.{mint-row-length}
use Rattle.route.specs.Widths.{mint_width}
use Rattle.route.specs.Lay.{placed, written}
use Rattle.route.specs.Order.{mint_read, mints_read}

-- every row has w bytes
pub record Rowed (w : ℕ) (l : List (List ℕ)) : Type 0 where
  pub each : (r : List ℕ) → Memᴰ r l → length r ≡ w

-- rows one after the other
unfoldable pub flat : List (List ℕ) → List ℕ
flat [] = []
flat (r ∷ l) = r ++ flat l

module _ (w : ℕ) where
  tail : {r : List ℕ} {l : List (List ℕ)} → Rowed w (r ∷ l) → Rowed w l
  tail h = record { each = λ x i. h.each x (Memᴰ.tail i) }

  first : {r : List ℕ} {l : List (List ℕ)} → Rowed w (r ∷ l) → length r ≡ w
  first {r} h = h.each r (Memᴰ.head refl)

  pub flat-length : (l : List (List ℕ)) → Rowed w l → length (flat l) ≡ length l * w
  unfolding flat
  flat-length [] h = sym (zero-mul w)
  flat-length (r ∷ l) h = rw (length-append r (flat l), flat-length l (tail h), suc-mul) (omega (arith, first h))

  pub placed-flat : (k : ℕ) (l : List (List ℕ)) (t : List ℕ) → Rowed w l → placed w k l t ≡ sets t (k * w) (flat l)
  unfolding placed flat
  placed-flat k [] t h = refl
  placed-flat k (r ∷ l) t h =
      placed-flat (suc k) l (sets t (k * w) r) (tail h)
      ∙ sets-next t (k * w) r (flat l) (suc k * w) (rw suc-mul (omega (arith, first h)))

  rows-flat : (l : List (List ℕ)) (z : List ℕ) → Rowed w l → rows w (length l) (flat l ++ z) ≡ l
  unfolding rows flat
  rows-flat [] z h = refl
  rows-flat (r ∷ l) z h =
      rw (append_assoc r (flat l) z, take_at r (flat l ++ z) w (first h), drop_at r (flat l ++ z) w (first h), rows-flat l z (tail h))

  -- the rows of a table are those that were written
  pub rows_written : (l : List (List ℕ)) (n : ℕ) → Rowed w l → length l * w ≤ n → rows w (length l) (written w l n) ≡ l
  rows_written l n h f =
      rw (
        placed-flat 0 l (zeros n) h,
        zero-mul,
        sets-eq (flat l) (zeros n) 0 (rw (zero-add, flat-length l h, length-replicate) f),
      )
      (rows-flat l (drop (0 + length (flat l)) (zeros n)) h)

-- a row is read back
pub mint-read : (r : MintRow) → length r.0 ≡ 32 → length r.1 ≡ 32 → mint_read (mint_row r) ≡ r
mint-read r h k =
    let x = r.2 ∷ [] in
    let s : r.0 ++ r.1 ++ x ≡ r.0 ++ (r.1 ++ x) = append_assoc r.0 r.1 x in
    let account : take 32 (r.0 ++ r.1 ++ x) ≡ r.0 = rw s (take_at r.0 (r.1 ++ x) 32 h) in
    let mint : take 32 (drop 32 (r.0 ++ r.1 ++ x)) ≡ r.1 = rw (s, drop_at r.0 (r.1 ++ x) 32 h) (take_at r.1 x 32 k) in
    let mark : get_or (r.0 ++ r.1 ++ x) 64 0 ≡ r.2 = get_or_at (r.0 ++ r.1) r.2 [] 0 64 (simp length-append (omega arith)) in
    rw (account, mint, mark)

-- accounts and mints of 32 bytes
pub record Sized (l : List MintRow) : Type 0 where
  pub account : (r : MintRow) → Memᴰ r l → length r.0 ≡ 32
  pub mint : (r : MintRow) → Memᴰ r l → length r.1 ≡ 32

map_read : (l : List MintRow) → Sized l → map mint_read (map mint_row l) ≡ l
map_read [] h = refl
map_read (r ∷ l) h =
    ap₂ ◌∷◌
    (mint-read r (h.account r (Memᴰ.head refl)) (h.mint r (Memᴰ.head refl)))
    (map_read l (record { account = λ x i. h.account x (Memᴰ.tail i); mint = λ x i. h.mint x (Memᴰ.tail i) }))

-- its rows have the width of the table
pub mint-rowed : (l : List MintRow) → Sized l → Rowed mint_width (map mint_row l)
mint-rowed l h = record { each = λ r i. row r i }
  where
    row : (r : List ℕ) → Memᴰ r (map mint_row l) → length r ≡ mint_width
    row r i =
        let x = Memᴰ.of_map mint_row l i in
        rw (← x.2) (mint-row-length x.0 (h.account x.0 x.1) (h.mint x.0 x.1))

-- the rows of table 0 are those that were written
module _ (l : List MintRow) (n : ℕ) (h : Sized l) (f : length l ≤ n / mint_width) where
  pub mints-rows : rows mint_width (length l) (written mint_width (map mint_row l) n) ≡ map mint_row l
  mints-rows =
      let c : length (map mint_row l) ≡ length l = length-map l mint_row in
      ap (λ (k : ℕ). rows mint_width k (written mint_width (map mint_row l) n)) (sym c) ∙ rows_written mint_width (map mint_row l) n (mint-rowed l h) (omega arith)

  pub mints-written : mints_read (length l) (written mint_width (map mint_row l) n) ≡ l
  mints-written = ap (map mint_read) mints-rows ∙ map_read l h
