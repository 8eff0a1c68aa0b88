-- Which of the refusals 2, 3, 4, 5, 11 and 6 a pack meets, in the order of the checks.
-- Assumes nothing.
use Rattle.std.specs.Prelude.{ℕ, cond, not, List, ltb, length, Result, Ok, Err, ⊤}
use Rattle.pack.specs.declared.Refusal.{Refusal}
use Rattle.pack.specs.declared.Refusal.TheVariants.{Mark, Starts, Section, Keys, Balances, Invocations}
use Rattle.pack.specs.Sections.{marked, ordered, section_of}
use Rattle.pack.specs.Items.{keys_fill, rows_fill, outers_whole, groups_whole}
use Rattle.pack.specs.View.{balances_named, view_of}
use Rattle.pack.specs.Flatten.{flatten}

-- what judging a pack answers: the refusal that it meets, if any
abbrev pub Verdict : Type 0
Verdict = Result ⊤ Refusal

-- the number of a refusal in docs/FORMAT.md, and 0 for none
abbrev pub refusal_number : Verdict → ℕ
refusal_number (Ok _) = 0
refusal_number (Err Mark) = 2
refusal_number (Err Starts) = 3
refusal_number (Err (Section k)) = 4
refusal_number (Err Keys) = 5
refusal_number (Err Balances) = 11
refusal_number (Err Invocations) = 6

-- and its place
abbrev pub place_of : Verdict → ℕ
place_of (Ok _) = 0
place_of (Err Mark) = 0
place_of (Err Starts) = 0
place_of (Err (Section k)) = k
place_of (Err Keys) = 0
place_of (Err Balances) = 1
place_of (Err Invocations) = 0

-- what an answer that has a count says of the pack
abbrev pub verdict_in : Result ℕ Refusal → Verdict
verdict_in (Ok n) = Ok tt
verdict_in (Err r) = Err r

-- and the count, 0 of a pack that is refused
abbrev pub count_in : Result ℕ Refusal → ℕ
count_in (Ok n) = n
count_in (Err r) = 0

-- the first check that a pack does not pass
unfoldable pub verdict : List ℕ → Verdict
verdict p =
    cond (not (marked p)) (Err Mark)
    (cond (not (ordered p)) (Err Starts)
    (cond (not (keys_fill (section_of p 0))) (Err (Section 0))
    (cond (not (rows_fill 36 (section_of p 1))) (Err (Section 1))
    (cond (not (outers_whole (section_of p 2))) (Err (Section 2))
    (cond (not (groups_whole (section_of p 3))) (Err (Section 3))
    (cond (not (rows_fill 32 (section_of p 4))) (Err (Section 4))
    (cond (ltb 256 (length (view_of p).keys)) (Err Keys)
    (cond (not (balances_named (length (view_of p).keys) (view_of p).balances)) (Err Balances)
    (cond (ltb 1024 (length (flatten (view_of p)))) (Err Invocations) (Ok tt))))))))))
