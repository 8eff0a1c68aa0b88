-- Each return is the verdict under the checks that were passed before it; these are collected in the order of the code. Where the sections are whole, the
-- verdict is known by counts and balances.
-- Assumes nothing.
use Rattle.std.specs.Prelude.{Option, Some, None, Err}
use Rattle.pack.specs.declared.Refusal.TheVariants.{Section}
use Rattle.pack.specs.Sections.{marked, ordered, section_of}
use Rattle.pack.specs.Items.{keys_fill, rows_fill, outers_whole, groups_whole}
use Rattle.pack.specs.View.{balances_named, outer_in, groups_in, view_of}
use Rattle.pack.specs.Flatten.{kept_in, flatten}
use Rattle.pack.specs.Verdict.{verdict}
use Rattle.pack.proofs.Sizes.{key-rows, keys_length, invocations-length}
use Rattle.std.proofs.lemmas.Result.{err_from_is_err_and}
use Rattle.pack.proofs.Tests.{none_if, some_if}
use Rattle.pack.proofs.Limits.{Whole, more-keys, unnamed, most, more-invocations}
use Prim.Native.Nat.{ℕ, ◌+◌, ◌%◌, ◌<◌, ◌≤◌}
use mathlib.Core.Path.{◌≡◌, sym, ap, ◌∙◌}
use mathlib.Core.Bool.{true, false, cond}
use mathlib.Core.List.{List}
use borrow.Author.Tests.{eq-eqb, ne_eqb}
use native.Mathlib.Omega.{arith}
use lib.Dec.{eqb}
use lib.ListN.{length}
use Rattle.pack.proofs.judge.Goals as goal
use Rattle.pack.proofs.judge.Goals.{After-balances, After-section, After-section-2, After-section-3, Else-keys-gt256, Else-section-ne0, then-outers-gt1024-via-then-outers-gt1024, then-outers-gt1024-via-else-outers-gt1024+then-outers-inners}

-- what a count of a section tells, of a section that was read from the pack
outers_known : (p s : List ℕ) (r : Option ℕ) (n : ℕ) → s ≡ section_of p 2 → r ≡ cond (outers_whole s) (Some (length (outer_in s))) None → r ≡ Some n
    → (outers_whole (section_of p 2) ≡ true) × (n ≡ length (outer_in (section_of p 2)))
outers_known p s r n a e i = rw (← a) (some_if (outers_whole s) (length (outer_in s)) n (sym i ∙ e))

groups_known : (p s : List ℕ) (o : ℕ) (r : Option ℕ) (n : ℕ) → s ≡ section_of p 3 → r ≡ cond (groups_whole s) (Some (kept_in o (groups_in s))) None → r ≡ Some n
    → (groups_whole (section_of p 3) ≡ true) × (n ≡ kept_in o (groups_in (section_of p 3)))
groups_known p s o r n a e i = rw (← a) (some_if (groups_whole s) (kept_in o (groups_in s)) n (sym i ∙ e))

-- what is known after the first four tests, if they were passed
early : (c : After-section)
    → let p = c.args.pack.now in
    (marked p ≡ true) × (ordered p ≡ true) × (keys_fill (section_of p 0) ≡ true) × (rows_fill 36 (section_of p 1) ≡ true)
unfolding rows_fill
early c = (
  sym c.marked.ensures ∙ c.if-not-marked.false,
  sym c.ordered.ensures ∙ c.if-not-ordered.false,
  rw (← c.section-keys.ensures) (sym c.keys.ensures ∙ c.if-not-keys.false),
  rw (← c.section-balances.ensures) (eq-eqb _ _ c.if-balances-ne0.false),
)

outers-yes : (c : After-section-2)
    → let p = c.args.pack.now in
    (outers_whole (section_of p 2) ≡ true) × (c.in_ok-outers.outers ≡ length (outer_in (section_of p 2)))
outers-yes c = outers_known c.args.pack.now c.section.result.now c.outers.result c.in_ok-outers.outers c.section.ensures c.outers.ensures c.in_ok-outers.ensures.ok_part

groups-yes : (c : After-section-3)
    → let p = c.args.pack.now in
    (groups_whole (section_of p 3) ≡ true) × (c.in_ok-inners.inners ≡ kept_in c.in_ok-outers.outers (groups_in (section_of p 3)))
groups-yes c = groups_known c.args.pack.now c.section-2.result.now c.in_ok-outers.outers c.groups.result c.in_ok-inners.inners c.section-2.ensures c.groups.ensures c.in_ok-inners.ensures.ok_part

-- behind the sections counts and balances decide
whole : (c : Else-section-ne0) → Whole c.args.pack.now
unfolding rows_fill
whole c =
    let p = c.args.pack.now in
    let o = outers_known p c.section.result.now c.outers.result c.in_ok-outers.outers c.section.ensures c.outers.ensures c.in_ok-outers.ensures.ok_part in
    let g = groups_known p c.section-2.result.now c.in_ok-outers.outers c.groups.result c.in_ok-inners.inners c.section-2.ensures c.groups.ensures c.in_ok-inners.ensures.ok_part in
    record {
      mark = sym c.marked.ensures ∙ c.if-not-marked.false;
      starts = sym c.ordered.ensures ∙ c.if-not-ordered.false;
      keys = rw (← c.section-keys.ensures) (sym c.keys.ensures ∙ c.if-not-keys.false);
      balances = rw (← c.section-balances.ensures) (eq-eqb _ _ c.if-balances-ne0.false);
      outers = o.0;
      groups = g.0;
      pools = rw (← c.section-3.ensures) (eq-eqb _ _ c.if-section-ne0.false);
    }

few_keys : (c : Else-keys-gt256) → length (view_of c.args.pack.now).keys ≤ 256
few_keys c = omega (arith, keys_length c.args.pack.now, ap length c.section-keys.ensures, c.if-keys-gt256.false)

-- what the walk over the balances was asked, and answered
named-is : (c : After-balances)
    → let p = c.args.pack.now in
    c.balances.result ≡ balances_named (length (view_of p).keys) (view_of p).balances
unfolding view_of
named-is c = rw (key-rows (section_of c.args.pack.now 0), ← c.section-keys.ensures, ← c.section-balances.ensures) c.balances.ensures

-- how many invocations there are, by the counts of outers and inners
counted : (c : After-section-3) → length (flatten (view_of c.args.pack.now)) ≡ c.in_ok-outers.outers + c.in_ok-inners.inners
counted c =
    let p = c.args.pack.now in
    let o = (outers_known p c.section.result.now c.outers.result c.in_ok-outers.outers c.section.ensures c.outers.ensures c.in_ok-outers.ensures.ok_part).1 in
    let g = rw o at (groups-yes c).1 in
    omega (arith, invocations-length p, o, g)

pub returns-then-not-marked : goal.returns-then-not-marked
unfolding verdict
returns-then-not-marked c = rw (sym c.marked.ensures ∙ c.if-not-marked.true)

pub returns-then-not-ordered : goal.returns-then-not-ordered
unfolding verdict
returns-then-not-ordered c = rw (sym c.marked.ensures ∙ c.if-not-marked.false, sym c.ordered.ensures ∙ c.if-not-ordered.true)

pub returns-then-not-keys : goal.returns-then-not-keys
unfolding verdict
returns-then-not-keys c =
    let e : keys_fill (section_of c.args.pack.now 0) ≡ false = rw (← c.section-keys.ensures) (sym c.keys.ensures ∙ c.if-not-keys.true) in
    rw (sym c.marked.ensures ∙ c.if-not-marked.false, sym c.ordered.ensures ∙ c.if-not-ordered.false, e)

pub returns-then-balances-ne0 : goal.returns-then-balances-ne0
unfolding verdict rows_fill
returns-then-balances-ne0 c =
    let p = c.args.pack.now in
    let k : keys_fill (section_of p 0) ≡ true = rw (← c.section-keys.ensures) (sym c.keys.ensures ∙ c.if-not-keys.false) in
    let e : eqb (length (section_of p 1) % 36) 0 ≡ false = rw (← c.section-balances.ensures) (ne_eqb _ _ c.if-balances-ne0.true) in
    rw (sym c.marked.ensures ∙ c.if-not-marked.false, sym c.ordered.ensures ∙ c.if-not-ordered.false, k, e)

pub returns-in_err-outers : goal.returns-in_err-outers
unfolding verdict
returns-in_err-outers c =
    let w = early (goal.at.returns-in_err-outers c).After-section in
    let s = section_of c.args.pack.now 2 in
    let i = c.in_err-outers.ensures in
    let e = none_if (outers_whole s) (length (outer_in s)) (rw (← c.section.ensures) (sym i.ok_part ∙ c.outers.ensures)) in
    let r : c.in_err-outers.field-0.0 ≡ Section 2 = cc (rw i.ok_part at i.value) in
    let y = err_from_is_err_and c.from_residual.result c.from_residual.ensures.1 in
    rw (y.1, y.2) (ap Err r ∙ rw (w.0, w.1, w.2, w.3, e))

pub returns-in_err-inners : goal.returns-in_err-inners
unfolding verdict
returns-in_err-inners c =
    let w = early (goal.at.returns-in_err-inners c).After-section in
    let o = outers-yes (goal.at.returns-in_err-inners c).After-section-2 in
    let s = section_of c.args.pack.now 3 in
    let i = c.in_err-inners.ensures in
    let e = none_if (groups_whole s) (kept_in c.in_ok-outers.outers (groups_in s)) (rw (← c.section-2.ensures) (sym i.ok_part ∙ c.groups.ensures)) in
    let r : c.in_err-inners.field-0.0 ≡ Section 3 = cc (rw i.ok_part at i.value) in
    let y = err_from_is_err_and c.from_residual-in_err-inners.result c.from_residual-in_err-inners.ensures.1 in
    rw (y.1, y.2) (ap Err r ∙ rw (w.0, w.1, w.2, w.3, o.0, e))

pub returns-then-section-ne0 : goal.returns-then-section-ne0
unfolding verdict rows_fill
returns-then-section-ne0 c =
    let w = early (goal.at.returns-then-section-ne0 c).After-section in
    let o = outers-yes (goal.at.returns-then-section-ne0 c).After-section-2 in
    let g = groups-yes (goal.at.returns-then-section-ne0 c).After-section-3 in
    let e : eqb (length (section_of c.args.pack.now 4) % 32) 0 ≡ false = rw (← c.section-3.ensures) (ne_eqb _ _ c.if-section-ne0.true) in
    rw (w.0, w.1, w.2, w.3, o.0, g.0, e)

pub returns-then-keys-gt256 : goal.returns-then-keys-gt256
returns-then-keys-gt256 c =
    sym (more-keys c.args.pack.now (whole (goal.at.returns-then-keys-gt256 c).Else-section-ne0) (omega (arith, keys_length c.args.pack.now, ap length c.section-keys.ensures, c.if-keys-gt256.true)))

pub returns-then-not-balances : goal.returns-then-not-balances
returns-then-not-balances c =
    sym (unnamed c.args.pack.now (whole (goal.at.returns-then-not-balances c).Else-section-ne0) (few_keys (goal.at.returns-then-not-balances c).Else-keys-gt256) (sym (named-is (goal.at.returns-then-not-balances c).After-balances) ∙ c.if-not-balances.true))

pub returns-then-outers-gt1024 : goal.returns-then-outers-gt1024
returns-then-outers-gt1024 c =
    let b = sym (named-is (goal.at.returns-then-outers-gt1024 c).After-balances) ∙ c.if-not-balances.false in
    let n = counted (goal.at.returns-then-outers-gt1024 c).After-section-3 in
    let many : 1024 < c.in_ok-outers.outers + c.in_ok-inners.inners =
    elim c.then-outers-gt1024.branch [
      | then-outers-gt1024-via-then-outers-gt1024 w ↦ omega arith
      | then-outers-gt1024-via-else-outers-gt1024+then-outers-inners w ↦ omega arith
    ] in
    sym (more-invocations c.args.pack.now (whole (goal.at.returns-then-outers-gt1024 c).Else-section-ne0) (few_keys (goal.at.returns-then-outers-gt1024 c).Else-keys-gt256) b (omega (arith, n)))

pub returns : goal.returns
returns c =
    let b = sym (named-is (goal.at.returns c).After-balances) ∙ c.if-not-balances.false in
    let n = counted (goal.at.returns c).After-section-3 in
    sym (most c.args.pack.now (whole (goal.at.returns c).Else-section-ne0) (few_keys (goal.at.returns c).Else-keys-gt256) b (omega (arith, n)))
