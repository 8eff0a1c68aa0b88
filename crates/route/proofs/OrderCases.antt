-- What order does and does not decide, in three small pairs of packs: the premise `SameEvidence` is met, and the proviso of `same_bytes` is needed. Antt computes
-- what the calls leave.
-- Assumes nothing.
use mathlib.Core.Path.{◌≡◌, refl, sym, ap, ap₂, ◌∙◌}
use mathlib.Core.Logic.{◌≢◌}
use mathlib.Core.List.Memᴰ
use mathlib.Core.List.Permᴰ
use mathlib.Core.List.{List, [], ◌∷◌, ◌++◌}
use Prim.Native.Nat.{ℕ}
use native.Mathlib.Omega.{arith}
use lib.ListN.{get_or}
use Rattle.ids.specs.Keys.{Key}
use Rattle.pack.specs.Invocation.{Instruction}
use Rattle.evidence.specs.MintTable.{MintRow}
use Rattle.route.specs.Route.{route}
use Rattle.route.specs.MarkedCases.{key, keys_for, saying, pays, meeting, A, B, C, X, Y}
use Rattle.ids.specs.declared.Id.TheVariants.{SplToken}
use Rattle.evidence.specs.Chains.{Chain, start, along}
use Rattle.evidence.specs.Independence.{Apart}
use Rattle.route.specs.Order.{evidence_in, plains_in, SameEvidence, mints_read, mints_left, Succeeds}
use Rattle.route.proofs.Order.{same_count, same_bytes}
use Rattle.route.specs.Packing.{pack_of}
use Rattle.route.specs.WorkedForm.{names, worked_room}
use Rattle.route.proofs.Opened.{opened}

-- two packs with the same evidence, neither of them refused, and the rows and passes that each leaves
pub record Pair (p q : List ℕ) (left left' : List MintRow) (passes passes' : ℕ) : Type 0 where
  pub same : SameEvidence p q
  pub first : Succeeds (route names p worked_room)
  pub second : Succeeds (route names q worked_room)
  pub rows_first : mints_left (route names p worked_room) ≡ left
  pub rows_second : mints_left (route names q worked_room) ≡ left'
  pub passes_first : (route names p worked_room).answer.passes ≡ passes
  pub passes_second : (route names q worked_room).answer.passes ≡ passes'

-- case f of the marked cases, and f reversed: A is X and B is Y, and both pay C
abbrev pub met : List ℕ
met = pack_of (meeting (pays 0 2 ∷ pays 1 2 ∷ []))

abbrev pub met-reversed : List ℕ
met-reversed = pack_of (meeting (pays 1 2 ∷ pays 0 2 ∷ []))

-- a fourth account
abbrev pub D : Key
D = key 3

-- A alone is recorded, with X; A pays B, and B pays C
abbrev line : List Instruction → List ℕ
line transfers = pack_of (saying (keys_for SplToken 3) ((0, X) ∷ []) transfers [])

abbrev pub led : List ℕ
led = line (pays 0 1 ∷ pays 1 2 ∷ [])

abbrev pub led-reversed : List ℕ
led-reversed = line (pays 1 2 ∷ pays 0 1 ∷ [])

-- A is X and B is Y; A pays C, C pays D, and D pays B
abbrev between : List Instruction → List ℕ
between transfers = pack_of (saying (keys_for SplToken 3 ++ ((1, D) ∷ [])) ((0, X) ∷ (1, Y) ∷ []) transfers [])

abbrev pub tied : List ℕ
tied = between (pays 0 2 ∷ pays 2 4 ∷ pays 4 1 ∷ [])

abbrev pub tied-later : List ℕ
tied-later = between (pays 2 4 ∷ pays 0 2 ∷ pays 4 1 ∷ [])

-- what each leaves of C, by computation; and all that is recorded in the second pair
computed : Pair met met-reversed ((A, X, 0) ∷ (B, Y, 0) ∷ (C, X, 2) ∷ []) ((A, X, 0) ∷ (B, Y, 0) ∷ (C, Y, 2) ∷ []) 2 2
    × Pair led led-reversed ((A, X, 0) ∷ (B, X, 1) ∷ (C, X, 1) ∷ []) ((A, X, 0) ∷ (B, X, 1) ∷ (C, X, 1) ∷ []) 2 3
    × (evidence_in led ≡ (A, X) ∷ [])
    × Pair tied tied-later ((A, X, 0) ∷ (B, Y, 0) ∷ (C, X, 2) ∷ (D, X, 2) ∷ []) ((A, X, 0) ∷ (B, Y, 0) ∷ (C, X, 2) ∷ (D, Y, 2) ∷ []) 2 2
unfolding opened key names worked_room pack_of
computed = (
  record {
    same = record { keys = refl; balances = Permᴰ.refl _; invocations = Permᴰ.swap refl refl };
    first = refl;
    second = refl;
    rows_first = refl;
    rows_second = refl;
    passes_first = refl;
    passes_second = refl;
  },
  record {
    same = record { keys = refl; balances = Permᴰ.refl _; invocations = Permᴰ.swap refl refl };
    first = refl;
    second = refl;
    rows_first = refl;
    rows_second = refl;
    passes_first = refl;
    passes_second = refl;
  },
  refl,
  record {
    same = record { keys = refl; balances = Permᴰ.refl _; invocations = Permᴰ.swap refl refl };
    first = refl;
    second = refl;
    rows_first = refl;
    rows_second = refl;
    passes_first = refl;
    passes_second = refl;
  },
)

-- the same evidence, and C is X in the one table and Y in the other
pub met-pair : Pair met met-reversed ((A, X, 0) ∷ (B, Y, 0) ∷ (C, X, 2) ∷ []) ((A, X, 0) ∷ (B, Y, 0) ∷ (C, Y, 2) ∷ []) 2 2
met-pair = computed.0

-- the same evidence and the same rows, after 2 passes and after 3
pub led-pair : Pair led led-reversed ((A, X, 0) ∷ (B, X, 1) ∷ (C, X, 1) ∷ []) ((A, X, 0) ∷ (B, X, 1) ∷ (C, X, 1) ∷ []) 2 3
led-pair = computed.1

-- the same evidence and the same marks, but another mint for D: doubt reaches C too, which no other mint is beside in the first table
pub tied-pair : Pair tied tied-later ((A, X, 0) ∷ (B, Y, 0) ∷ (C, X, 2) ∷ (D, X, 2) ∷ []) ((A, X, 0) ∷ (B, Y, 0) ∷ (C, X, 2) ∷ (D, Y, 2) ∷ []) 2 2
tied-pair = computed.3

-- so the tables of the first pair differ in their bytes
pub met-differs : (route names met worked_room).mints ≢ (route names met-reversed worked_room).mints
unfolding key
met-differs e =
    let c = same_count names worked_room met-pair.same met-pair.first met-pair.second in
    let q = sym met-pair.rows_first ∙ ap₂ mints_read c e ∙ met-pair.rows_second in
    let b : ◌≡◌ {A = ℕ} 9 10 = ap (λ (l : List MintRow). get_or (get_or l 2 (A, A, 0)).1 0 0) q in
    omega (arith, b)

-- because C is reached from two recorded mints: the proviso of `same_bytes` cannot be left out
pub met-joined : ¬ Apart (evidence_in met) (plains_in met)
met-joined d = met-differs (same_bytes names worked_room met-pair.same met-pair.first met-pair.second d)

-- in the second pair every chain starts at A, so the proviso holds
led-mint : {m a : Key} → Chain (evidence_in led) (plains_in led) m a → m ≡ X
led-mint (start o) = ap (λ r. r.1) (Memᴰ.eq_of_singleton (rw computed.2 at o.says.piece))
led-mint (along c j f n) = led-mint c

pub led-apart : Apart (evidence_in led) (plains_in led)
led-apart = record { apart = λ f c d. led-mint c ∙ sym (led-mint d) }

-- and the tables are equal byte for byte, though the packs are not the same
pub led-same : ((route names led worked_room).mints ≡ (route names led-reversed worked_room).mints) × (led ≢ led-reversed)
led-same = (
  same_bytes names worked_room led-pair.same led-pair.first led-pair.second led-apart,
  λ e. let n : ◌≡◌ {A = ℕ} 2 3 = sym led-pair.passes_first ∙ ap (λ (p : List ℕ). (route names p worked_room).answer.passes) e ∙ led-pair.passes_second in omega (arith, n),
)
