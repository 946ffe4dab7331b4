use Rattle.std.proofs.Common.{List, ℕ, ap, subst, ◌∙◌}
use Rattle.disk.specs.Memory.{shown_now}
use Rattle.journal.specs.Journals.{ShowsNoBatch}
use Rattle.record_store.proofs.turning.make_journal.Goals as goal

pub returns-in-Ok-clause-shows : goal.returns-in-Ok-clause-shows
returns-in-Ok-clause-shows g c tells none =
    let zero = g.D.Disk.state c.args.disk.now in
    let new = g.D.Disk.state c.create.new.disk in
    subst (λ (n : List ℕ). ShowsNoBatch new n) c.in_ok-name.ensures
    (c.create.ensures.shows tells (ap (λ (n : List ℕ). shown_now (zero.entries n)) c.in_ok-name.ensures ∙ none))

pub returns-in-Err-clause-shows : goal.returns-in-Err-clause-shows
returns-in-Err-clause-shows g c tells none =
    let zero = g.D.Disk.state c.args.disk.now in
    let new = g.D.Disk.state c.create.new.disk in
    subst (λ (n : List ℕ). ShowsNoBatch new n) c.in_ok-name.ensures
    (c.create.ensures.shows tells (ap (λ (n : List ℕ). shown_now (zero.entries n)) c.in_ok-name.ensures ∙ none))
