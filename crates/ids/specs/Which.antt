-- Which program a key is. Each case of `Id` but the last three has one row in the table of ids.
-- Assumes nothing.
use Rattle.std.specs.Prelude.{ℕ, zero, suc, ◌*◌, List, Bool, cond, ◌&&◌, ltb, eqb, get_or}
use Rattle.wire.specs.Same.{same}
use Rattle.ids.specs.Keys.{Key, zero_key, key_count, key_of}
use Rattle.ids.specs.Ids.{id_at}
use Rattle.ids.specs.declared.Id.{Id}
use Rattle.ids.specs.declared.Id.TheVariants.{SplToken, Token2022, WrappedSol, ComputeBudget, AssociatedToken, Memo, PumpFun, LaunchLab, PumpSwap, Clmm, Cpmm, AmmV4, Orca, Dlmm, System, Other, Unresolved}

-- the number of a case: its row in the table of ids, or past the table
abbrev pub number_of : Id → ℕ
number_of SplToken = 0
number_of Token2022 = 1
number_of WrappedSol = 2
number_of ComputeBudget = 3
number_of AssociatedToken = 4
number_of Memo = 5
number_of PumpFun = 6
number_of LaunchLab = 7
number_of PumpSwap = 8
number_of Clmm = 9
number_of Cpmm = 10
number_of AmmV4 = 11
number_of Orca = 12
number_of Dlmm = 13
number_of System = 14
number_of Other = 15
number_of Unresolved = 16

-- whether two cases are the same: the Rust's `==` on the keys of two programs
abbrev pub same_id : Id → Id → Bool
same_id a b = eqb (number_of a) (number_of b)

-- the case of a number
unfoldable pub of_number : ℕ → Id
of_number n =
    cond (eqb n 0) SplToken
    (cond (eqb n 1) Token2022
    (cond (eqb n 2) WrappedSol
    (cond (eqb n 3) ComputeBudget
    (cond (eqb n 4) AssociatedToken
    (cond (eqb n 5) Memo
    (cond (eqb n 6) PumpFun
    (cond (eqb n 7) LaunchLab
    (cond (eqb n 8) PumpSwap
    (cond (eqb n 9) Clmm
    (cond (eqb n 10) Cpmm
    (cond (eqb n 11) AmmV4
    (cond (eqb n 12) Orca
    (cond (eqb n 13) Dlmm
    (cond (eqb n 14) System
    (cond (eqb n 15) Other Unresolved)))))))))))))))

-- the first of m rows, from row k on, that is the key; past them, 14 for the zero key and 15 for any other
unfoldable pub row_from : Key → ℕ → ℕ → ℕ
row_from key zero k = cond (same key zero_key) 14 15
row_from key (suc m) k = let rest = row_from key m (suc k) in cond (same (id_at k) key) k rest

-- the first of m rows, from row k on, whose fifth byte is b; past them, 14 for a zero and 15 for any other byte
unfoldable pub row_by_fifth : ℕ → ℕ → ℕ → ℕ
row_by_fifth b zero k = cond (eqb b 0) 14 15
row_by_fifth b (suc m) k = let rest = row_by_fifth b m (suc k) in cond (eqb b (get_or (id_at k) 4 0)) k rest

-- which program a key is
unfoldable pub which : Key → Id
which key = of_number (row_from key 14 0)

-- the Rust's `resolve_program`: an index in range whose key has flag 1; ks is the key section
unfoldable pub program_at : List ℕ → ℕ → Id
program_at ks i = cond (ltb i (key_count ks) && eqb (get_or ks (i * 33) 0) 1) (which (key_of ks i)) Unresolved
