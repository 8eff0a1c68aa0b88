-- A difference adds its line as long as fewer than ten were told of; else nothing is written.
-- Assumes nothing.
use Rattle.std.proofs.Common.{ℕ, ◌≡◌, List, [], Option, refl, rules, ap, append-nil}
use Rattle.std.proofs.KnownBytes.{Appends-nil}
use Rattle.records.specs.Told.{line, Told, same, told, counted, Goes}
use Rattle.records.proofs.Totals.count.Goals as goal
use Rattle.records.proofs.Totals.count.Goals.{then-different-lt-TOLD+in_ok-tell, else-different-lt-TOLD}

-- nothing is written
quiet : {n d m e : ℕ} {old new : Option (List ℕ)} → new ≡ old → ((text : List ℕ) → Told n d text → Told m e text) → Goes old new n d m e
quiet {old = old} e f = record { more = []; written = rw e (Appends-nil old); tells = λ text t. rw (append-nil text) (f text t) }

pub returns-in_default : goal.returns-in_default
returns-in_default g c = (refl, search rules, quiet refl (λ text t. same t))

pub returns : goal.returns
returns g c = (
  refl,
  search rules,
  elim c.if-different-lt-TOLD.branch [
    | then-different-lt-TOLD+in_ok-tell w ↦
        let t = w.in_ok-tell.ensures in
        record { more = line c.args.self.answers t.difference; written = rw w.output-is t.written; tells = λ text s. told t.difference w.if-different-lt-TOLD.true s }
    | else-different-lt-TOLD w ↦ quiet (ap (g.W.Write.contents) w.output-is) (λ text s. counted w.if-different-lt-TOLD.false s)
  ],
)
