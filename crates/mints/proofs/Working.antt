-- What the calls of `conclude` and `infer` ask, and what they come to: the counts are bounded by what is read, and the table at the end is the one of the
-- definitions.
-- Assumes nothing.
use mathlib.Core.Path.{◌≡◌, refl, sym, ◌∙◌, subst}
use mathlib.Core.Option.{Option, none, some, none-ne-some, some-injective}
use mathlib.Core.List.{List}
use Prim.Native.Nat.{ℕ, zero, suc, ◌+◌, ◌*◌, ◌/◌, ◌≤◌}
use native.Mathlib.Omega.{arith}
use lib.ListN.{length, get_or, take, length-map}
use Rattle.ids.specs.Keys.{key_count, key_of}
use Rattle.pack.specs.Invocation.{instruction_at}
use Rattle.evidence.specs.Evidence.{recorded}
use Rattle.evidence.specs.MintTable.{MintAnswer}
use Rattle.std.specs.Prelude.{Ok}
use Rattle.mints.specs.declared.row.Row.{Row}
use Rattle.mints.specs.declared.pass.Transfer.{Transfer}
use Rattle.mints.specs.Pass.{EndsWithin, Ran}
use Rattle.mints.specs.Cells.{Fits}
use Rattle.mints.specs.Gather.{token_at, Gathered, gather_at, gather_to}
use Rattle.mints.specs.Prepare.{laid_of, begun, gathered_of}
use Rattle.mints.specs.Doubt.{handed_on}
use Rattle.mints.specs.Conclude.{Concluded, concluded}
use Rattle.mints.specs.Order.{sort_to, rows_bytes, mints_to}
use Rattle.mints.specs.Inference.{inferred, inferred_in, answer_of, mint_bytes, final_of}
use Rattle.mints.proofs.Written.{cell, cells-bytes}
use Rattle.mints.proofs.Collected.{Collected, count-bound, taken-within}
use Rattle.mints.proofs.Gathering.{two-at-most}
use Rattle.mints.proofs.Preparing.{rows-laid, laid-index, laid-fits, balances-bound}
use Rattle.mints.proofs.Prepared.{evidence_in, transfers_in, accounts, apart, prepared}
use Rattle.mints.proofs.Right.{Right, too_many, made, right}

-- each instruction records at most two accounts
room_bound : (ks p o row : List ℕ) (g : Gathered) (i : ℕ) → (gather_to ks p o row g i).noted.room ≤ g.noted.room + i * 2
unfolding gather_to gather_at
room_bound ks p o row g zero = omega arith
room_bound ks p o row g (suc i) =
    omega (arith, room_bound ks p o row g i, two-at-most (key_of ks) row (token_at ks p (get_or o i 0)) (instruction_at p (get_or o i 0)).accounts (gather_to ks p o row g i))

all-counted : (ks b p o : List ℕ) → (gathered_of ks b p o).count ≤ length o
unfolding gathered_of
all-counted ks b p o = omega (arith, count-bound ks p o (laid_of ks).row (begun ks b) (length o))

all_noted : (ks b p o : List ℕ) → (gathered_of ks b p o).noted.room ≤ length b / 36 + length o * 2
unfolding gathered_of
all_noted ks b p o = omega (arith, room_bound ks p o (laid_of ks).row (begun ks b) (length o), balances-bound b (laid_of ks).row (laid_of ks).table (length b / 36))

module _ (ks b p o : List ℕ) (few : key_count ks ≤ 256) (short : length o ≤ 1024) {t : List Row} {ts : List Transfer} {room count : ℕ} (e : gathered_of ks b p o ≡ record { noted = record { table = t; room = room }; transfers = ts; count = count }) where
  state : Collected (laid_of ks).rows (accounts ks b p o few short) 1024 (record { noted = record { table = t; room = room }; transfers = ts; count = count }) (recorded (evidence_in ks b p o few short)) (transfers_in ks b p o few short)
  state = subst (λ (x : Gathered). Collected (laid_of ks).rows (accounts ks b p o few short) 1024 x (recorded (evidence_in ks b p o few short)) (transfers_in ks b p o few short)) e (prepared ks b p o few short)

  pub transfers-within : EndsWithin (laid_of ks).rows (take count ts)
  transfers-within = taken-within (laid_of ks).rows ts count (apart ks b p o few short).some_row state.ends

  pub rows_long : (laid_of ks).rows ≤ length t
  rows_long = state.notes.holds.long

  pub counted : (count ≤ 1024) × (count ≤ length ts)
  counted =
      let c : count ≤ length o = subst (λ (x : Gathered). x.count ≤ length o) e (all-counted ks b p o) in
      (omega arith, omega (arith, state.whole))

  pub noted-few : length b ≤ 9223372036854775808 → room ≤ 1152921504606846976
  noted-few h =
      let c : room ≤ length b / 36 + length o * 2 = subst (λ (x : Gathered). x.noted.room ≤ length b / 36 + length o * 2) e (all_noted ks b p o) in
      omega arith

  -- and what handing on comes to
  pub concluded-is : {v : List Row} {r : List ℕ} {rows : ℕ} {x : Ran} → laid_of ks ≡ record { table = v; row = r; rows = rows }
      → handed_on (take count ts) t rows room ≡ x
      → concluded ks b p o ≡ record { table = x.table; row = r; rows = rows; room = x.room; passes = x.passes }
  unfolding concluded
  concluded-is l h = rw (e, l, h)

-- the rows of the keys are whole rows of a table of 257
module _ (ks b p o : List ℕ) (few : key_count ks ≤ 256) where
  pub concluded-rows : (concluded ks b p o).rows ≤ 257
  unfolding concluded
  concluded-rows = omega (arith, (rows-laid ks few).few)

  pub concluded-fits : (t : List Row) → length t ≡ 257 → Fits t (concluded ks b p o).row
  unfolding concluded
  concluded-fits t w = laid-fits ks few t w

module _ (ks b p o : List ℕ) (few : key_count ks ≤ 256) (short : length o ≤ 1024) where
  few_listed : (gathered_of ks b p o).count ≤ 1024
  few_listed = omega (arith, all-counted ks b p o)

  abbrev ways : Option MintAnswer → Type 0
  ways = Right (apart ks b p o few short) (evidence_in ks b p o few short) (transfers_in ks b p o few short) (gathered_of ks b p o) (prepared ks b p o few short) few_listed

  found : ways (inferred_in ks b p o)
  unfolding inferred evidence_in transfers_in
  found = right (apart ks b p o few short) (evidence_in ks b p o few short) (transfers_in ks b p o few short) (gathered_of ks b p o) (prepared ks b p o few short) few_listed

  -- the passes are too many
  pub none_right : (concluded ks b p o).passes ≡ none → inferred_in ks b p o ≡ none
  unfolding concluded handed_on
  none_right q = go found
    where
      go : {y : Option MintAnswer} → ways y → y ≡ none
      go (too_many z) = refl
      go (made r m k l) = absurd (none-ne-some _ (sym q ∙ k))

  -- the mint table
  pub record TablesConcluded (w : Concluded) (passes : ℕ) (x : Option MintAnswer) : Type 0 where
    pub answer : Ok (record { room = w.room; rows = length (sort_to w.table w.rows); passes = passes }) ≡ answer_of x
    pub rows : rows_bytes w.table (sort_to w.table w.rows) ≡ mint_bytes x
    pub final : mints_to w.table w.row (key_count ks) ≡ final_of x (key_of ks) (key_count ks)

  pub some_right : {passes : ℕ} → (concluded ks b p o).passes ≡ some passes → TablesConcluded (concluded ks b p o) passes (inferred_in ks b p o)
  unfolding concluded handed_on answer_of mint_bytes final_of
  some_right {passes} q = go found
    where
      go : {y : Option MintAnswer} → ways y → TablesConcluded (concluded ks b p o) passes y
      go (too_many z) = absurd (none-ne-some _ (sym z ∙ q))
      go (made r m k l) =
          let v = (concluded ks b p o).table in
          record {
            answer = rw (m, some-injective _ _ (sym q ∙ k), r, length-map (sort_to v (laid_of ks).rows) (cell v));
            rows = cells-bytes v (sort_to v (laid_of ks).rows) ∙ rw r;
            final = l (laid_of ks).row (key_of ks) (key_count ks) (λ j. laid-index ks few j);
          }
