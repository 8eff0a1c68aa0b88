-- The instructions: what they record is noted, and their plain transfers stand in a list; each instruction adds to both what its definition says.
-- Assumes nothing.
use mathlib.Core.Path.{◌≡◌, refl, sym, ap, ◌∙◌, subst}
use mathlib.Core.Logic.{◌≢◌, by_cases}
use mathlib.Core.Bool.{Bool, true, false, cond}
use mathlib.Core.List.{List, [], ◌∷◌, ◌++◌, map, append-nil}
use Prim.Native.Nat.{ℕ, zero, suc, ◌+◌, ◌≤◌, ◌<◌}
use native.Mathlib.Decide.{ℕ_discrete, dec_lt}
use native.Mathlib.Omega.{arith}
use lib.ListN.{length, get_or, set, take, length-map, length-set, length-take, get_or-map}
use Rattle.std.proofs.lemmas.List.{get_or_past}
use lib.Seq.{get_or-set_same, get_or-set_other, get_or-take}
use Rattle.std.specs.Prelude.{Option, Some, None}
use Rattle.ids.specs.Keys.{Key, key_of}
use Rattle.ids.specs.Which.{program_at}
use Rattle.pack.specs.Invocation.{Instruction, instruction_at}
use Rattle.token.specs.declared.Token.{Token}
use Rattle.token.specs.declared.Token.TheVariants.{Initialise, Plain, Checked, WithFee}
use Rattle.evidence.specs.Table.{Row, Table}
use Rattle.evidence.specs.Evidence.{note_all}
use Rattle.evidence.specs.Passes.{Transfers}
use Rattle.evidence.specs.Gather.{gather}
use Rattle.evidence.proofs.Loops.{gather-take, note_all-append}
use Rattle.mints.specs.Note.{Noted}
use Rattle.mints.specs.declared.pass.Transfer.{Transfer}
use Rattle.mints.specs.Pass.{no_transfer, from_at, to_at, EndsWithin}
use Rattle.mints.specs.Gather.{is_plain, transfer_of, token_at, Gathered, gather_at, gather_to}
use Rattle.mints.specs.Inference.{says, moves}
use Rattle.ids.proofs.Keys.{key-length}
use Rattle.mints.proofs.Pieces.{pieces, moved, records-read, plain-read}
use Rattle.mints.proofs.Holding.{RowsApart}
use Rattle.mints.proofs.Stepped.{pairs_to}
use Rattle.mints.proofs.Observed.{Notes, Indexed, row-account, observes}

-- the table holds t, and the list has the transfers ps
pub record Collected (n : ℕ) (α : ℕ → Key) (size : ℕ) (g : Gathered) (t : Table) (ps : Transfers) : Type 0 where
  pub notes : Notes n α g.noted t
  pub pairs : pairs_to α g.transfers g.count ≡ ps
  pub ends : EndsWithin n g.transfers
  pub whole : length g.transfers ≡ size

-- a store at another place, and at the place
ends-other : (ts : List Transfer) (k c : ℕ) (x : Transfer) → c ≢ k → (from_at (set ts k x) c ≡ from_at ts c) × (to_at (set ts k x) c ≡ to_at ts c)
ends-other ts k c x n =
    let e = get_or-set_other ts k c x no_transfer n in
    (ap (λ (t : Transfer). t.from) e, ap (λ (t : Transfer). t.to) e)

ends-same : (ts : List Transfer) (c : ℕ) (x : Transfer) → c < length ts → (from_at (set ts c x) c ≡ x.from) × (to_at (set ts c x) c ≡ x.to)
ends-same ts c x h =
    let e = get_or-set_same ts c x no_transfer h in
    (ap (λ (t : Transfer). t.from) e, ap (λ (t : Transfer). t.to) e)

-- a store past the transfers
pairs_set : (α : ℕ → Key) (ts : List Transfer) (k c : ℕ) (x : Transfer) → c ≤ k → pairs_to α (set ts k x) c ≡ pairs_to α ts c
unfolding pairs_to
pairs_set α ts k zero x h = refl
pairs_set α ts k (suc c) x h = let e = ends-other ts k c x (omega arith) in rw (pairs_set α ts k c x (omega arith), e.0, e.1)

-- one transfer more
pairs-more : (α : ℕ → Key) (ts : List Transfer) (c : ℕ) (x : Transfer) → c < length ts → pairs_to α (set ts c x) (suc c) ≡ pairs_to α ts c ++ ((α x.from, α x.to) ∷ [])
unfolding pairs_to
pairs-more α ts c x h = let e = ends-same ts c x h in rw (pairs_set α ts c c x (omega arith), e.0, e.1)

-- a store of a transfer between rows
set_within : (n : ℕ) (ts : List Transfer) (c : ℕ) (x : Transfer) → c < length ts → (x.from < n) × (x.to < n) → EndsWithin n ts → EndsWithin n (set ts c x)
set_within n ts c x h l b j = by_cases (ℕ_discrete j c) (λ e. let s = ends-same ts c x h in rw (e, s.0, s.1) l) (λ d. let s = ends-other ts c j x d in rw (s.0, s.1) (b j))

-- the transfers alone, without what an array has behind them
pub taken : (α : ℕ → Key) (ts : List Transfer) (c i : ℕ) → i ≤ c → pairs_to α (take c ts) i ≡ pairs_to α ts i
unfolding pairs_to
taken α ts c zero h = refl
taken α ts c (suc i) h =
    let e = get_or-take c ts i no_transfer (omega arith) in
    rw (taken α ts c i (omega arith), ap (λ (t : Transfer). t.from) e, ap (λ (t : Transfer). t.to) e)

pub taken-within : (n : ℕ) (ts : List Transfer) (c : ℕ) → 0 < n → EndsWithin n ts → EndsWithin n (take c ts)
taken-within n ts c z b j =
    by_cases
    (dec_lt j c)
    (λ (h : j < c). subst (λ (t : Transfer). (t.from < n) × (t.to < n)) (sym (get_or-take c ts j no_transfer h)) (b j))
    (λ (h : ¬ (j < c)). subst (λ (t : Transfer). (t.from < n) × (t.to < n)) (sym (get_or_past (take c ts) j no_transfer (omega (arith, length-take c ts)))) (z, z))

-- no transfer more
quiet : {n : ℕ} {α : ℕ → Key} {size : ℕ} {g : Gathered} {t u : Table} {ps : Transfers} {x : Noted} → Collected n α size g t ps → Notes n α x u
    → Collected n α size (record { noted = x; transfers = g.transfers; count = g.count }) u (ps ++ [])
quiet {ps} h k =
    record {
      notes = k;
      pairs = h.pairs ∙ sym (append-nil ps);
      ends = λ j. h.ends j;
      whole = h.whole;
    }

module _ {n : ℕ} {α κ : ℕ → Key} (p : RowsApart n α) (long : (j : ℕ) → length (κ j) ≡ 32) (row : List ℕ) (at : Indexed n α κ row) where
  -- one instruction more
  collect : (size : ℕ) (token : Option Token) (a : List ℕ) (g : Gathered) (t : Table) (ps : Transfers) → g.count < size → Collected n α size g t ps
      → Collected n α size (gather_at κ row token a g) (note_all t (pieces κ token a)) (ps ++ moved κ token a)
  unfolding gather_at is_plain transfer_of moved pieces note_all
  collect size None a g t ps c h = quiet h h.notes
  collect size (Some Initialise) a g t ps c h = quiet h (observes p long row at Initialise a g.noted t h.notes)
  collect size (Some (Checked k)) a g t ps c h = quiet h (observes p long row at (Checked k) a g.noted t h.notes)
  collect size (Some (WithFee k f)) a g t ps c h = quiet h (observes p long row at (WithFee k f) a g.noted t h.notes)
  collect size (Some (Plain k)) a g t ps c h =
      let x = row-account p long row at a 0 in
      let y = row-account p long row at a 1 in
      let i : g.count < length g.transfers = omega (arith, h.whole) in
      record {
        notes = observes p long row at (Plain k) a g.noted t h.notes;
        pairs = pairs-more α g.transfers g.count (transfer_of row a) i ∙ rw (h.pairs, x.1, y.1);
        ends = λ m. set_within n g.transfers g.count (transfer_of row a) i (x.0, y.0) h.ends m;
        whole = length-set g.transfers g.count (transfer_of row a) ∙ h.whole;
      }

-- at most one transfer more
counted-one : (κ : ℕ → Key) (row : List ℕ) (token : Option Token) (a : List ℕ) (g : Gathered) → (gather_at κ row token a g).count ≤ g.count + 1
unfolding gather_at
counted-one κ row None a g = omega arith
counted-one κ row (Some token) a g = go (is_plain token)
  where
    go : (b : Bool) → cond b (suc g.count) g.count ≤ g.count + 1
    go true = omega arith
    go false = omega arith

pub count-bound : (ks p offsets row : List ℕ) (g : Gathered) (i : ℕ) → (gather_to ks p offsets row g i).count ≤ g.count + i
unfolding gather_to gather_at
count-bound ks p offsets row g zero = omega arith
count-bound ks p offsets row g (suc i) = omega (arith, count-bound ks p offsets row g i, counted-one (key_of ks) row (token_at ks p (get_or offsets i 0)) (instruction_at p (get_or offsets i 0)).accounts (gather_to ks p offsets row g i))

-- the instructions at the offsets
abbrev pub instructions : List ℕ → List ℕ → List Instruction
instructions p offsets = map (instruction_at p) offsets

module _ (ks p offsets : List ℕ) (i : ℕ) (h : i < length offsets) where
  inside : i < length (instructions p offsets)
  inside = omega (arith, length-map offsets (instruction_at p))

  instruction-is : get_or (instructions p offsets) i (instruction_at p 0) ≡ instruction_at p (get_or offsets i 0)
  instruction-is = get_or-map (instruction_at p) offsets i 0

  -- one instruction's evidence and transfer more
  says-next : (t : Table) → note_all t (gather (says (key_of ks) (program_at ks)) (take (suc i) (instructions p offsets))) ≡ note_all (note_all t (gather (says (key_of ks) (program_at ks)) (take i (instructions p offsets)))) (pieces (key_of ks) (token_at ks p (get_or offsets i 0)) (instruction_at p (get_or offsets i 0)).accounts)
  unfolding says token_at
  says-next t =
      ap (note_all t) (gather-take (says (key_of ks) (program_at ks)) (instructions p offsets) i (instruction_at p 0) inside)
      ∙ note_all-append t (gather (says (key_of ks) (program_at ks)) (take i (instructions p offsets))) (says (key_of ks) (program_at ks) (get_or (instructions p offsets) i (instruction_at p 0)))
      ∙ ap (note_all (note_all t (gather (says (key_of ks) (program_at ks)) (take i (instructions p offsets))))) (ap (says (key_of ks) (program_at ks)) instruction-is ∙ records-read (key_of ks) (program_at ks (instruction_at p (get_or offsets i 0)).program) (instruction_at p (get_or offsets i 0)).accounts (instruction_at p (get_or offsets i 0)).bytes)

  moves_next : gather (moves (key_of ks) (program_at ks)) (take (suc i) (instructions p offsets)) ≡ gather (moves (key_of ks) (program_at ks)) (take i (instructions p offsets)) ++ moved (key_of ks) (token_at ks p (get_or offsets i 0)) (instruction_at p (get_or offsets i 0)).accounts
  unfolding moves token_at
  moves_next =
      gather-take (moves (key_of ks) (program_at ks)) (instructions p offsets) i (instruction_at p 0) inside
      ∙ ap (λ (l : List Row). gather (moves (key_of ks) (program_at ks)) (take i (instructions p offsets)) ++ l) (ap (moves (key_of ks) (program_at ks)) instruction-is ∙ plain-read (key_of ks) (program_at ks (instruction_at p (get_or offsets i 0)).program) (instruction_at p (get_or offsets i 0)).accounts (instruction_at p (get_or offsets i 0)).bytes)

-- all instructions
pub collected : {n : ℕ} {α : ℕ → Key} → RowsApart n α → (ks p offsets row : List ℕ) → Indexed n α (key_of ks) row → (size : ℕ) (g : Gathered) (t : Table) → g.count ≡ 0 → Collected n α size g t [] → (i : ℕ) → i ≤ length offsets → i ≤ size
    → Collected n α size (gather_to ks p offsets row g i) (note_all t (gather (says (key_of ks) (program_at ks)) (take i (instructions p offsets)))) (gather (moves (key_of ks) (program_at ks)) (take i (instructions p offsets)))
unfolding gather_to gather note_all
collected q ks p offsets row at size g t z h zero l m = h
collected {n} {α} q ks p offsets row at size g t z h (suc i) l m =
    let is = instructions p offsets in
    let token = token_at ks p (get_or offsets i 0) in
    let a = (instruction_at p (get_or offsets i 0)).accounts in
    let t' = note_all t (gather (says (key_of ks) (program_at ks)) (take i is)) in
    let ps = gather (moves (key_of ks) (program_at ks)) (take i is) in
    rw (says-next ks p offsets i (omega arith) t, moves_next ks p offsets i (omega arith))
    (collect q (λ j. key-length ks j) row at size token a (gather_to ks p offsets row g i) t' ps (omega (arith, count-bound ks p offsets row g i)) (collected q ks p offsets row at size g t z h i (omega arith) (omega arith)))
