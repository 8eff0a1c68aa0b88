-- One instruction more: its program is the one that is kept for its key, and what it records and lists follows from the definition of that one step.
-- Assumes nothing.
use mathlib.Core.Path.{◌≡◌, refl, ap, ◌∙◌}
use mathlib.Core.Bool.{Bool, true, false, cond}
use mathlib.Core.List.{List, [], ◌∷◌, ◌++◌}
use Prim.Native.Nat.{ℕ, zero, suc, ◌+◌, ◌*◌, ◌≤◌, ◌<◌}
use native.Mathlib.Nat.{zero-add, add-zero, add-suc, suc-add, add_assoc}
use native.Mathlib.Numerals.{add-one}
use native.Mathlib.Omega.{arith}
use lib.ListN.{length, get_or, set, take}
use lib.Seq.{sets, take-suc, length-take-le, take_all}
use Rattle.ids.specs.declared.Id.{Id}
use Rattle.ids.specs.Keys.{Key, key_count, key_of, account}
use Rattle.std.specs.Prelude.{Option, Some, None}
use Rattle.ids.specs.declared.Id.TheVariants.{Unresolved}
use Rattle.ids.specs.Which.{program_at}
use Rattle.ids.specs.KeyPrograms.{key_programs, program_in}
use Rattle.ids.proofs.KeyPrograms.{program-in}
use Rattle.pack.specs.Invocation.{instruction_at}
use Rattle.token.specs.Programs.{is_token}
use Rattle.token.specs.Tokens.{token_of}
use Rattle.token.specs.declared.Token.{Token}
use Rattle.token.specs.declared.Token.TheVariants.{Initialise, Plain, Checked, WithFee}
use Rattle.mints.specs.declared.row.Row.{Row}
use Rattle.mints.specs.Note.{new_at, Noted, note_at}
use Rattle.mints.specs.declared.pass.Transfer.{Transfer}
use Rattle.mints.specs.Gather.{row_of_account, note_account, observed, is_plain, transfer_of, token_at, Gathered, gather_at, gather_to}
use Rattle.mints.specs.Programs.{programs_of}
use Rattle.mints.proofs.Programs.{programs-length, kept-program}
use Rattle.token.proofs.Reading.{read_none}
use Rattle.mints.proofs.Noting.{one_more}

-- an instruction records at most two accounts
pub two-more : (κ : ℕ → Key) (row : List ℕ) (token : Token) (accounts : List ℕ) (x : Noted) → (observed κ row token accounts x).room ≤ x.room + 2
unfolding observed
two-more κ row Initialise a x = omega (arith, one_more κ row a x 0)
two-more κ row (Plain n) a x = omega arith
two-more κ row (Checked n) a x = omega (arith, one_more κ row a x 0, one_more κ row a (note_account κ row a x 0) 2)
two-more κ row (WithFee n f) a x = omega (arith, one_more κ row a x 0, one_more κ row a (note_account κ row a x 0) 2)

-- what a token instruction or none records and lists
pub two-at-most : (κ : ℕ → Key) (row : List ℕ) (token : Option Token) (accounts : List ℕ) (g : Gathered) → (gather_at κ row token accounts g).noted.room ≤ g.noted.room + 2
unfolding gather_at
two-at-most κ row None a g = omega arith
two-at-most κ row (Some token) a g = two-more κ row token a g.noted

-- one store more
store-append : {A : Type 0} (l : List A) (i : ℕ) (s : List A) (x : A) → sets l i (s ++ (x ∷ [])) ≡ set (sets l i s) (i + length s) x
store-append l i [] x = rw add-zero
store-append l i (y ∷ s) x = rw (store-append (set l i y) (suc i) s x, suc-add, add-suc)

store-more : {A : Type 0} (l s : List A) (j : ℕ) (d : A) → j < length s → set (sets l 0 (take j s)) j (get_or s j d) ≡ sets l 0 (take (j + 1) s)
store-more l s j d h = rw (add-one, take-suc s j d h, store-append, zero-add, length-take-le j s (omega arith))

-- an instruction's program, by what is kept of the keys
module _ (ks p offsets : List ℕ) (i : ℕ) (few : key_count ks ≤ 256) {kept : List Id} {index : ℕ} {id : Id} (filled : kept ≡ key_programs ks) (has : index ≡ (instruction_at p (get_or offsets i 0)).program) (says : id ≡ program_in kept index) where
  program-is : id ≡ program_at ks (instruction_at p (get_or offsets i 0)).program
  program-is = rw (says, filled, program-in ks index few, has)

  -- one program more
  pub program-next : i < length offsets → (l : List Id) {u : List Id} → u ≡ sets l 0 (take i (programs_of ks p offsets)) → set u i id ≡ sets l 0 (take (i + 1) (programs_of ks p offsets))
  program-next h l e = rw (e, program-is, ← kept-program ks p offsets i Unresolved h) (store-more l (programs_of ks p offsets) i Unresolved (omega (arith, programs-length ks p offsets)))

  pub token-is : {a d : List ℕ} {token : Option Token} → a ≡ (instruction_at p (get_or offsets i 0)).accounts → d ≡ (instruction_at p (get_or offsets i 0)).bytes → token ≡ token_of id (length a) d → token ≡ token_at ks p (get_or offsets i 0)
  unfolding token_at
  token-is x y z = z ∙ rw (x, y, program-is)

  -- an instruction of another program is no token instruction
  pub token-none : is_token id ≡ false → None ≡ token_at ks p (get_or offsets i 0)
  unfolding token_at
  token-none h = rw (← program-is, read_none id (length (instruction_at p (get_or offsets i 0)).accounts) (instruction_at p (get_or offsets i 0)).bytes h)

-- what is no token instruction changes nothing
pub gather-pass : (ks p offsets row : List ℕ) (s : Gathered) (i : ℕ) {g : Gathered} → None ≡ token_at ks p (get_or offsets i 0) → gather_to ks p offsets row s i ≡ g → gather_to ks p offsets row s (i + 1) ≡ g
unfolding gather_to gather_at
gather-pass ks p offsets row s i is e = rw (add-one i, e, ← is)

-- all programs
pub programs-all : (ks p offsets : List ℕ) (l : List Id) {u : List Id} {i : ℕ} → i ≡ length offsets → u ≡ sets l 0 (take i (programs_of ks p offsets)) → u ≡ sets l 0 (programs_of ks p offsets)
programs-all ks p offsets l {u} {i} n e = e ∙ ap (sets l 0) (take_all i (programs_of ks p offsets) (omega (arith, programs-length ks p offsets)))

-- what was counted before is counted on top
abbrev on-top : ℕ → Noted → Noted
on-top k x = record { table = x.table; room = k + x.room }

module _ (κ : ℕ → Key) (row : List ℕ) (k : ℕ) where
  account-on-top : (a : List ℕ) (x : Noted) (i : ℕ) → note_account κ row a (on-top k x) i ≡ on-top k (note_account κ row a x i)
  unfolding note_account note_at
  account-on-top a x i = rw (add_assoc k x.room (new_at x.table (row_of_account row a i) (account κ a 1)))

  observed-on-top : (token : Token) (a : List ℕ) (x : Noted) → observed κ row token a (on-top k x) ≡ on-top k (observed κ row token a x)
  unfolding observed
  observed-on-top Initialise a x = account-on-top a x 0
  observed-on-top (Plain n) a x = refl
  observed-on-top (Checked n) a x = rw (account-on-top a x 0) (account-on-top a (note_account κ row a x 0) 2)
  observed-on-top (WithFee n f) a x = rw (account-on-top a x 0) (account-on-top a (note_account κ row a x 0) 2)

  -- so what is recorded when nothing is counted yet is what a count grows by
  pub account-counted : (a : List ℕ) (t : List Row) (i : ℕ) {u : List Row} {n : ℕ} → note_account κ row a (record { table = t; room = 0 }) i ≡ record { table = u; room = n }
      → note_account κ row a (record { table = t; room = k }) i ≡ record { table = u; room = k + n }
  account-counted a t i e = rw add-zero at (account-on-top a (record { table = t; room = 0 }) i) ∙ ap (on-top k) e

  pub observed-counted : (token : Token) (a : List ℕ) (t : List Row) {u : List Row} {n : ℕ} → observed κ row token a (record { table = t; room = 0 }) ≡ record { table = u; room = n }
      → observed κ row token a (record { table = t; room = k }) ≡ record { table = u; room = k + n }
  observed-counted token a t e = rw add-zero at (observed-on-top token a (record { table = t; room = 0 })) ∙ ap (on-top k) e

-- an instruction of a token program
pub gather-next : (ks p offsets row : List ℕ) (s : Gathered) (i : ℕ) {token : Token} {a : List ℕ} {t t' : List Row} {ts ts' : List Transfer} {room count more count' : ℕ}
    → gather_to ks p offsets row s i ≡ record { noted = record { table = t; room = room }; transfers = ts; count = count }
    → Some token ≡ token_at ks p (get_or offsets i 0)
    → a ≡ (instruction_at p (get_or offsets i 0)).accounts
    → observed (key_of ks) row token a (record { table = t; room = 0 }) ≡ record { table = t'; room = more }
    → count' ≡ cond (is_plain token) (suc count) count
    → ts' ≡ cond (is_plain token) (set ts count (transfer_of row a)) ts
    → gather_to ks p offsets row s (i + 1) ≡ record { noted = record { table = t'; room = room + more }; transfers = ts'; count = count' }
unfolding gather_to gather_at
gather-next ks p offsets row s i {token} {a} {t} {room = room} e is has seen c x = rw (add-one i, e, ← is, ← has, observed-counted (key_of ks) row room token a t seen, c, x)

-- the bounds that a turn keeps
pub room_next : (ks row : List ℕ) (token : Token) (a : List ℕ) (t : List Row) (room i : ℕ) {u : List Row} {more : ℕ} → observed (key_of ks) row token a (record { table = t; room = 0 }) ≡ record { table = u; room = more } → room ≤ i * 2 → room + more ≤ (i + 1) * 2
room_next ks row token a t room i e h = omega (arith, ap (λ (y : Noted). y.room) e, two-more (key_of ks) row token a (record { table = t; room = 0 }))

pub count_next : (b : Bool) (count i : ℕ) {n : ℕ} → n ≡ cond b (suc count) count → count ≤ i → n ≤ i + 1
count_next true count i e h = omega arith
count_next false count i e h = omega arith

module _ (κ : ℕ → Key) (row : List ℕ) (k : ℕ) where
  gather-at-top : (token : Option Token) (a : List ℕ) (g : Gathered)
      → gather_at κ row token a (record { noted = on-top k g.noted; transfers = g.transfers; count = g.count })
      ≡ record { noted = on-top k (gather_at κ row token a g).noted; transfers = (gather_at κ row token a g).transfers; count = (gather_at κ row token a g).count }
  unfolding gather_at
  gather-at-top None a g = refl
  gather-at-top (Some token) a g = rw (observed-on-top κ row k token a g.noted)

pub gather-on-top : (ks p offsets row : List ℕ) (k : ℕ) (s : Gathered) (i : ℕ)
    → gather_to ks p offsets row (record { noted = on-top k s.noted; transfers = s.transfers; count = s.count }) i
    ≡ record { noted = on-top k (gather_to ks p offsets row s i).noted; transfers = (gather_to ks p offsets row s i).transfers; count = (gather_to ks p offsets row s i).count }
unfolding gather_to
gather-on-top ks p offsets row k s zero = refl
gather-on-top ks p offsets row k s (suc i) =
    rw (gather-on-top ks p offsets row k s i, gather-at-top (key_of ks) row k (token_at ks p (get_or offsets i 0)) (instruction_at p (get_or offsets i 0)).accounts (gather_to ks p offsets row s i))
